use Rattle.std.proofs.Common.{◌≡◌, ◌≤◌, ◌∙◌, Option, None, Some, MatchOption, false, not, length, ap, arith}
use Rattle.std.specs.Option.{is_some}
use Rattle.streams.specs.Given.{given_at}
use Rattle.streams.proofs.Firsts.{nothing_given}
use Rattle.streams.proofs.Islands.{none_is}
use Rattle.streams.proofs.Places.{held}
use Rattle.streams.proofs.gathered.Gathered.first_conflict.Goals as goal

none_by : {X : Type 0} (o : Option X) (P : Type 0) (Q : X → Type 0) → is_some o ≡ false → MatchOption o P Q → P
none_by None P Q e h = h
none_by (Some x) P Q e h = absurd (cc)

pub returns-then-is_none : goal.returns-then-is_none
returns-then-is_none g c =
    let s = c.args.self.now in
    let none = none_by c.island_after.result _ _ (c.is_none.ensures ∙ ap not c.if-is_none.true) c.island_after.ensures in
    c.first_after.ensures
    ∙ nothing_given (given_at s) c.args.fin c.args.place c.args.octets.now (λ p ge.
    let past : length s.known.octets.items ≤ p = omega (arith, ge, c.if-place-known.true, c.known.ensures.count) in
    held s p past ∙ none_is s.islands c.requires.sound.islands.ordered p (λ end island is. let le = none end island is in omega (arith, le, ge)))
