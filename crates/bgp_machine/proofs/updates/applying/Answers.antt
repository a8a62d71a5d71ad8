use Rattle.std.proofs.Common.{◌≡◌, Bool, true, false, not, IsTrue, Option, None, Some, is_some, refl, ap}
use Rattle.bgp_machine.specs.declared.state.Head.TheVariants.{Established}
use Rattle.bgp_machine.specs.declared.state.HoldTimer.{HoldTimer}
use Rattle.bgp_machine.specs.Listed.{changes_of}
use Rattle.bgp_machine.specs.State.{Given}
use Rattle.bgp_machine.proofs.UpdateRows.{applied, not_disabled_so, without_changes}
use Rattle.bgp_machine.proofs.updates.applying.Goals as goal

none_if : {X : Type 0} (o : Option X) (b : Bool) → is_some o ≡ not b → b ≡ true → o ≡ None
none_if None b e t = refl
none_if (Some x) b e t = let f : not b ≡ false = ap not t in absurd (cc)

some_if : {X : Type 0} (o : Option X) (b : Bool) → is_some o ≡ not b → b ≡ false → o ≡ None → ⊥
some_if None b e t n = let f : not b ≡ true = ap not t in cc
some_if (Some x) b e t n = cc

pub returns-then-is_none : goal.returns-then-is_none
returns-then-is_none g c octets are =
    without_changes c.args.own c.args.timer c.args.t octets c.args.outcomes.now c.args.families are
    (none_if c.args.outcomes.now.changes c.is_none.result c.is_none.ensures c.if-is_none.true)

pub returns-then-not-are_disabled_so : goal.returns-then-not-are_disabled_so
returns-then-not-are_disabled_so g c octets are =
    not_disabled_so c.args.own c.args.timer c.args.t octets c.args.outcomes.now c.args.families are
    (λ d. let t : IsTrue c.are_disabled_so.result = c.are_disabled_so.ensures.1 d in absurd (cc))

pub returns : goal.returns
returns g c octets are =
    applied c.args.own c.args.timer c.args.t octets c.args.outcomes.now c.args.families _ are
    (some_if c.args.outcomes.now.changes c.is_none.result c.is_none.ensures c.if-is_none.false)
    (c.are_disabled_so.ensures.0 c.if-not-are_disabled_so.false)
    (record {
      sends = refl;
      shows = refl;
      ends = ap (λ (timer : HoldTimer). record { head = Established c.args.own timer; routes = Given (changes_of c.args.outcomes.now.changes) c.args.families }) c.renewed.ensures;
    })
