use Rattle.std.proofs.Common.{◌∙◌, ◌∷◌, [], map, ap, inl, inr}
use Rattle.std.proofs.lemmas.List.{map-append}
use Rattle.mrt.specs.Reader.{shown_of}
use Rattle.bgp_check.proofs.Taken.{left_is}
use Rattle.bgp_check.proofs.passing.Kept.take.Goals as goal

pub returns-then-is_passed_over : goal.returns-then-is_passed_over
returns-then-is_passed_over g c = inl (c.is_passed_over.ensures.0 c.if-is_passed_over.true, c.pass_over.ensures)

pub returns : goal.returns
returns g c =
    inr (
      λ passed. let k = c.is_passed_over.ensures.1 passed in let f = c.if-is_passed_over.false in cc,
      left_is _ _ _ _ c.args.self.now.received c.args.self.now.sent c.in_ok-push-2.ensures.items
          (ap (map shown_of) c.in_ok-push.ensures.items ∙ map-append shown_of c.args.self.now.records.items (c.args.shown ∷ [])),
    )
