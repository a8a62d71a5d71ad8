use Rattle.std.proofs.Common.{◌≡◌, ◌∙◌, ◌++◌, [], refl, map}
use Rattle.std.proofs.Math.ListN.{drop_of_length-le}
use Rattle.std.specs.List.{flat_map}
use Rattle.bgp_judge.specs.Ends.{end_value}
use Rattle.bgp_text.proofs.Joined.{one_more, none_left}
use Rattle.bgp_text.proofs.Pieces.{Joins, and_then, nothing_yet}
use Rattle.bgp_check_text.proofs.EachEnd.{of_values}
use Rattle.bgp_check_text.specs.Reached.{reached_value}
use Rattle.bgp_check_text.specs.States.{or_state}
use Rattle.bgp_check_text.proofs.states.put_or_states.Goals as goal

pub loop-ending-init : goal.loop-ending-init
loop-ending-init g c =
    ([], nothing_yet g.W.Sink g.met.W.Sink.nothing c.args.lines.now.outlet c.args.lines.now.held.items, refl)

pub loop-ending-preserved : goal.loop-ending-preserved
loop-ending-preserved g c =
    let law : Joins g.W.Sink = record { joined = g.met.W.Sink.joined } in
    let so_far = c.loop-ending.invariant in
    let e = c.ending-item.result in
    let text = or_state (reached_value c.args.reached.now) in (
      so_far.0 ++ text (end_value e),
      and_then law so_far.1 c.put_or_state.ensures,
      one_more (λ x. text (end_value x)) so_far.0 (flat_map (λ x. text (end_value x)) c.args.endings.now) c.args.endings.now c.loop-ending.ending-index e c.loop-ending-test.true c.ending-item.is so_far.2,
    )

pub returns : goal.returns
returns g c =
    let so_far = c.loop-ending.invariant in
    let text = or_state (reached_value c.args.reached.now) in
    let all : so_far.0 ≡ flat_map text (map end_value c.args.endings.now) =
    none_left (λ x. text (end_value x)) so_far.0 (flat_map (λ x. text (end_value x)) c.args.endings.now) c.args.endings.now c.loop-ending.ending-index (drop_of_length-le c.args.endings.now c.loop-ending-test.false) so_far.2
    ∙ of_values end_value text c.args.endings.now
    in
    rw all at so_far.1
