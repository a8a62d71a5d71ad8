use Rattle.std.proofs.Common.{IsTrue}
use Rattle.bgp_open.specs.Family.TheVariants.{V4, V6}
use Rattle.bgp_machine.proofs.UpdateRows.{each_family}
use Rattle.bgp_machine.proofs.updates.are_disabled_so.Goals as goal

pub returns-then-not-is_disabled_so : goal.returns-then-not-is_disabled_so
returns-then-not-is_disabled_so c = (
  λ t. absurd (cc),
  λ d. let holds : IsTrue c.is_disabled_so.result = c.is_disabled_so.ensures.1 (d V4) in absurd (cc),
)

pub returns : goal.returns
returns c = (
  λ t. each_family c.args.certain c.args.optional c.args.disabled (c.is_disabled_so.ensures.0 c.if-not-is_disabled_so.false) (c.is_disabled_so-2.ensures.0 t),
  λ d. c.is_disabled_so-2.ensures.1 (d V6),
)
