use Rattle.std.proofs.Common.{◌≡◌, ◌++◌, [], get_or, refl}
use Rattle.std.proofs.Math.ListN.{drop_of_length-le}
use Rattle.std.proofs.lemmas.List.{get_or_default}
use Rattle.std.specs.List.{flat_map}
use Rattle.bgp_text.proofs.Joined.{one_more, none_left}
use Rattle.bgp_text.proofs.Pieces.{Joins, and_then, nothing_yet}
use Rattle.bgp_check_text.specs.States.{or_count}
use Rattle.bgp_check_text.proofs.states.put_or_counts.Goals as goal

pub loop-count-init : goal.loop-count-init
loop-count-init g c =
    ([], nothing_yet g.W.Sink g.met.W.Sink.nothing c.args.lines.now.outlet c.args.lines.now.held.items, refl)

pub loop-count-preserved : goal.loop-count-preserved
loop-count-preserved g c =
    let law : Joins g.W.Sink = record { joined = g.met.W.Sink.joined } in
    let so_far = c.loop-count.invariant in
    let n = get_or c.args.counts.now c.loop-count.count-index 0 in (
      so_far.0 ++ or_count n,
      and_then law so_far.1 c.put_or_count.ensures,
      one_more or_count so_far.0 (flat_map or_count c.args.counts.now) c.args.counts.now c.loop-count.count-index n c.loop-count-test.true (get_or_default c.args.counts.now c.loop-count.count-index 0 n c.loop-count-test.true) so_far.2,
    )

pub returns : goal.returns
returns g c =
    let so_far = c.loop-count.invariant in
    let all : so_far.0 ≡ flat_map or_count c.args.counts.now =
    none_left or_count so_far.0 (flat_map or_count c.args.counts.now) c.args.counts.now c.loop-count.count-index (drop_of_length-le c.args.counts.now c.loop-count-test.false) so_far.2 in
    rw all at so_far.1
