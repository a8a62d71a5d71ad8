use Rattle.std.proofs.Common.{◌++◌, [], ◌∷◌}
use Rattle.bgp_text.proofs.Pieces.{Joins, and_then, nothing_yet}
use Rattle.bgp_ladder.proofs.Words.{all_deeds, one_deed}
use Rattle.bgp_ladder.proofs.deed.put_deeds.Goals as goal

pub loop-place-init : goal.loop-place-init
loop-place-init g c =
    ([], nothing_yet g.W.Sink g.met.W.Sink.nothing c.args.lines.now.outlet c.args.lines.now.held.items, λ behind are. are)

pub loop-place-preserved : goal.loop-place-preserved
loop-place-preserved g c =
    let law : Joins g.W.Sink = record { joined = g.met.W.Sink.joined } in
    let (octets, writes, more) = c.loop-place.invariant in
    let said = c.put_deed_text.ensures in (
      octets ++ (said.0 ++ 0 ∷ []),
      and_then law writes (and_then law said.2 c.put.ensures),
      one_deed c.args.framings c.args.opens.now c.loop-place.last c.take_shown.new.opens c.args.entries.now c.loop-place.place _ c.loop-place-test.true octets said.0 more said.1 c.take_shown.ensures,
    )

pub returns : goal.returns
returns g c =
    let (octets, writes, more) = c.loop-place.invariant in
    (octets, all_deeds c.args.framings c.args.opens.now c.loop-place.last c.args.entries.now c.loop-place.place c.loop-place-test.false octets more, writes)
