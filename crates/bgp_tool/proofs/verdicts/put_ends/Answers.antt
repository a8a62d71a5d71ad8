use Rattle.std.proofs.Common.{◌≡◌, ◌∙◌, ◌++◌, List, ℕ, [], ◌∷◌, ap, refl, map}
use Rattle.std.proofs.Math.ListN.{drop_of_length-le}
use Rattle.std.specs.List.{flat_map}
use Rattle.bgp_judge.specs.Ends.{end_value}
use Rattle.bgp_tool.specs.VerdictText.{end_text}
use Rattle.bgp_text.proofs.Joined.{one_more, none_left}
use Rattle.bgp_text.proofs.Pieces.{Joins, and_then, nothing_yet}
use Rattle.bgp_tool.proofs.verdicts.put_ends.Goals as goal

-- texts of values that were told of elements
of_values : {X Y : Type 0} (value : X → Y) (text : Y → List ℕ) (xs : List X)
    → flat_map (λ x. text (value x)) xs ≡ flat_map text (map value xs)
of_values value text [] = refl
of_values value text (x ∷ xs) = ap (λ (rest : List ℕ). text (value x) ++ rest) (of_values value text xs)

pub loop-end-init : goal.loop-end-init
loop-end-init g c =
    ([], nothing_yet g.W.Sink g.met.W.Sink.nothing c.args.lines.now.outlet c.args.lines.now.held.items, refl)

pub loop-end-preserved : goal.loop-end-preserved
loop-end-preserved g c =
    let law : Joins g.W.Sink = record { joined = g.met.W.Sink.joined } in
    let so_far = c.loop-end.invariant in
    let e = c.end-item.result in (
      so_far.0 ++ end_text (end_value e),
      and_then law so_far.1 c.put_end.ensures,
      one_more (λ x. end_text (end_value x)) so_far.0 (flat_map (λ x. end_text (end_value x)) c.args.ends.now) c.args.ends.now c.loop-end.end-index e c.loop-end-test.true c.end-item.is so_far.2,
    )

pub returns : goal.returns
returns g c =
    let so_far = c.loop-end.invariant in
    let all : so_far.0 ≡ flat_map end_text (map end_value c.args.ends.now) =
    none_left (λ x. end_text (end_value x)) so_far.0 (flat_map (λ x. end_text (end_value x)) c.args.ends.now) c.args.ends.now c.loop-end.end-index (drop_of_length-le c.args.ends.now c.loop-end-test.false) so_far.2
    ∙ of_values end_value end_text c.args.ends.now
    in
    rw all at so_far.1
