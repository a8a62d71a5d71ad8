use Rattle.std.proofs.Common.{◌≡◌, ◌+◌, ℕ, length, reverse, subst, add-one, arith}
use Rattle.streams.specs.Connections.{numbered}
use Rattle.bgp_tool.specs.Status.{code_of}
use Rattle.bgp_text.proofs.Pieces.{Joins}
use Rattle.bgp_recording_tool.specs.Judging.{Puts}
use Rattle.bgp_recording_tool.specs.Connections.{AreTold}
use Rattle.bgp_recording_tool.proofs.Puttings.{one_more_at}
use Rattle.bgp_recording_tool.proofs.judging.judge_each.Goals as goal

pub loop-index-preserved : goal.loop-index-preserved
loop-index-preserved g c = λ packets segments taken holds.
    let law : Joins g.W.Sink = record { joined = g.met.W.Sink.joined } in
    one_more_at law c.args.lines.now c.loop-index.lines c.put_opening.new.lines c.report_connection-told.new.lines c.args.remarks.now.items c.loop-index.remarks.items
    c.report_connection-told.new.remarks.items c.args.config.now c.args.report c.args.import.now packets segments c.loop-index.index (c.loop-index.index + 1) (code_of c.loop-index.status)
    (code_of c.report_connection-told.result) (code_of c.status_over-status.result) c.in-Some.opening (add-one c.loop-index.index)
    (c.loop-index.invariant packets segments taken holds) (c.in-Some.ensures (reverse segments) (length packets) holds)
    c.put_opening.ensures (c.report_connection-told.ensures packets segments taken holds) c.status_over-status.ensures

pub returns : goal.returns
returns g c = λ packets segments taken holds.
    let all : c.loop-index.index ≡ length (numbered (reverse segments)) =
    omega (arith, c.loop-index-test.false, c.loop-index.auto.index-end, c.count-index-end.ensures (reverse segments) (length packets) holds) in
    subst (λ (n : ℕ). Puts c.args.lines.now c.loop-index.lines c.args.remarks.now.items c.loop-index.remarks.items (code_of c.loop-index.status)
    (AreTold c.args.config.now c.args.report c.args.import.now packets segments n)) all (c.loop-index.invariant packets segments taken holds)
