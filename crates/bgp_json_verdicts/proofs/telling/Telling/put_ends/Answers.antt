use Rattle.std.proofs.Common.{◌≡◌, ◌∙◌, ◌++◌, List, [], ◌∷◌, ap, refl, map}
use Rattle.std.proofs.Math.ListN.{drop_of_length-le}
use Rattle.std.specs.List.{flat_map}
use Rattle.bgp_judge.specs.Ends.{end_value}
use Rattle.bgp_text.proofs.Pieces.{Joins}
use Rattle.bgp_json_verdicts.specs.Lines.{LineValue, end_lines}
use Rattle.bgp_json_verdicts.proofs.Parts.{none_left, one_more}
use Rattle.bgp_json_verdicts.proofs.Told.{and_tell, nothing_told}
use Rattle.bgp_json_verdicts.proofs.telling.Telling.put_ends.Goals as goal

-- lines of values that were told of elements
of_values : {X Y : Type 0} (value : X → Y) (lines : Y → List LineValue) (xs : List X)
    → flat_map (λ x. lines (value x)) xs ≡ flat_map lines (map value xs)
of_values value lines [] = refl
of_values value lines (x ∷ xs) = ap (λ (rest : List LineValue). lines (value x) ++ rest) (of_values value lines xs)

pub loop-end-init : goal.loop-end-init
loop-end-init g c = ([], nothing_told g.met.W.Sink.nothing c.args.lines.now c.args.self.now, refl)

pub loop-end-preserved : goal.loop-end-preserved
loop-end-preserved g c =
    let law : Joins g.W.Sink = record { joined = g.met.W.Sink.joined } in
    let so_far = c.loop-end.invariant in
    let e = c.end-item.result in (
      so_far.0 ++ end_lines (end_value e),
      and_tell law so_far.1 c.put_end.ensures,
      one_more (λ x. end_lines (end_value x)) so_far.0 (flat_map (λ x. end_lines (end_value x)) c.args.ends.now) c.args.ends.now c.loop-end.end-index e c.loop-end-test.true c.end-item.is so_far.2,
    )

pub returns : goal.returns
returns g c =
    let so_far = c.loop-end.invariant in
    let all : so_far.0 ≡ flat_map end_lines (map end_value c.args.ends.now) =
    none_left (λ x. end_lines (end_value x)) so_far.0 (flat_map (λ x. end_lines (end_value x)) c.args.ends.now) c.args.ends.now c.loop-end.end-index (drop_of_length-le c.args.ends.now c.loop-end-test.false) so_far.2
    ∙ of_values end_value end_lines c.args.ends.now
    in
    rw all at so_far.1
