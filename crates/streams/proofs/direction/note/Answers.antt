use Rattle.std.proofs.Common.{◌≡◌, ◌<◌, ◌∙◌, ap, true, List, arith, subst}
use Rattle.std.specs.Option.{is_some}
use Rattle.streams.specs.declared.direction.Shown.{Shown}
use Rattle.streams.specs.Directions.{first_above}
use Rattle.streams.proofs.Showing.{above-push, shows_no_more}
use Rattle.streams.proofs.direction.note.Goals as goal

pub returns-in_ok-push : goal.returns-in_ok-push
returns-in_ok-push g c = λ place.
    ap (λ (xs : List Shown). first_above xs place) c.in_ok-push.ensures.items
    ∙ above-push c.args.shown.now.items _ place

pub returns-else-greatest-below : goal.returns-else-greatest-below
returns-else-greatest-below g c = λ place.
    shows_no_more (first_above c.args.shown.now.items place) place c.args.below c.args.packet c.greatest.result (omega arith)
    (subst (λ (xs : List Shown). place < c.greatest.result → is_some (first_above xs place) ≡ true) c.deref.ensures.value (c.greatest.ensures place))
