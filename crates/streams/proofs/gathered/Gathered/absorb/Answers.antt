use Rattle.std.proofs.Common.{◌≡◌, ◌∙◌, Some, sym, ap, arith}
use Rattle.streams.specs.Given.{extent_of}
use Rattle.streams.proofs.Holding.{Absorbs, given_absorbed, islands_absorbed, from_absorbed, covered_absorbed, counted_absorbed, size_absorbed}
use Rattle.streams.proofs.Places.{is_at_other}
use Rattle.streams.proofs.gathered.Gathered.absorb.Goals as goal

same_value : {X : Type 0} (a b : X) → Some a ≡ Some b → a ≡ b
same_value a b e = cc

pub loop-end-preserved : goal.loop-end-preserved
loop-end-preserved g c =
    let now = c.loop-end.self in
    let so_far = c.loop-end.invariant in
    let touches = c.in-Some.ensures in
    let island = c.in-Some-remove.island in
    let end = c.in-Some.end in
    let same : touches.island ≡ island = same_value touches.island island (sym touches.is ∙ sym c.in-Some-remove.ensures.value) in
    let x : Absorbs now _ end island = record {
      are = so_far.islands;
      from = so_far.from;
      covered = so_far.covered;
      is = sym c.in-Some-remove.ensures.value;
      begins = omega (arith, touches.begins, ap extent_of same);
      octets = c.in_ok-join.ensures.octets;
      runs = c.in_ok-join.ensures.runs;
      ordered = c.remove.ensures.ordered;
      gone = c.remove.ensures.updates.1;
      others = λ q other. c.remove.ensures.updates.2 q (is_at_other end q other);
    } in record {
      covered = covered_absorbed now _ end island x;
      counted = counted_absorbed now _ end island x so_far.counted;
      islands = islands_absorbed now _ end island x;
      from = from_absorbed now _ end island x;
      given = λ at. given_absorbed now _ end island x at ∙ so_far.given at;
      size = size_absorbed now _ end island x c.remove.ensures.entries ∙ so_far.size;
    }
