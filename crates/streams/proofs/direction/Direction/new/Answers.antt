use Rattle.std.proofs.Common.{◌≡◌, ap, List, arith, rules, refl, []}
use Rattle.streams.specs.declared.direction.Shown.{Shown}
use Rattle.streams.specs.Directions.{first_above}
use Rattle.streams.specs.History.{given_of, end_of, fin_of}
use Rattle.streams.specs.Sent.{first_shown}
use Rattle.streams.proofs.direction.Direction.new.Goals as goal

pub returns : goal.returns
unfolding given_of end_of fin_of first_shown
returns g c = λ side. let empty : c.new-2.result.items ≡ [] = search rules in record {
  sound = c.new.ensures.sound;
  given = c.new.ensures.given;
  size = omega (arith, c.new.ensures.size);
  end = refl;
  fin = refl;
  rst = refl;
  shown = λ place. ap (λ (xs : List Shown). first_above xs place) empty;
  acknowledged = refl;
  acknowledged_by = refl;
}
