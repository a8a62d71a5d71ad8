use Rattle.std.proofs.Common.{◌≡◌, refl, inl, subst}
use Rattle.bgp_machine.specs.Lists.{Has}
use Rattle.bgp_machine.proofs.listing.add.Goals as goal

pub returns-then-is_listed-clause-added : goal.returns-then-is_listed-clause-added
returns-then-is_listed-clause-added c = inl (refl, subst (Has (λ x. x ≡ c.args.step)) c.as_slice.ensures.value (c.is_listed.ensures.0 c.if-is_listed.true))
