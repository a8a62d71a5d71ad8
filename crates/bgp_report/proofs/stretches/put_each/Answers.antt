use Rattle.std.proofs.Common.{◌≤◌, ◌++◌, [], List, arith, length, map, refl, subst}
use Rattle.std.proofs.lemmas.List.{length-map, take_all}
use Rattle.bgp_text.proofs.Pieces.{Joins, and_then, nothing_yet}
use Rattle.bgp_check_capture_tool.specs.Marks.{MarkValue, mark_value}
use Rattle.bgp_report.proofs.InLadders.{together}
use Rattle.bgp_report.proofs.InStretches.{stretches_on}
use Rattle.bgp_report.specs.Stretches.{AreFrom}
use Rattle.bgp_report.proofs.stretches.put_each.Goals as goal

pub loop-place-init : goal.loop-place-init
loop-place-init g c = λ text noted. ([], refl, nothing_yet g.W.Sink g.met.W.Sink.nothing c.args.lines.now.outlet c.args.lines.now.held.items)

pub loop-place-preserved : goal.loop-place-preserved
loop-place-preserved g c = λ text noted.
    let law : Joins g.W.Sink = record { joined = g.met.W.Sink.joined } in
    let marks = c.args.marks.now in
    let place = c.loop-place.place in
    let mark = c.index-marks-place.result in
    let (pieces, are, put) = c.loop-place.invariant text noted in
    let (one, is, more) = c.put_judged.ensures text noted in
    let opens = c.is_open-is_open.ensures (map mark_value marks) c.some_no-some_no.ensures in (
      pieces ++ one,
      stretches_on marks place mark c.loop-place-test.true c.index-marks-place.is text c.is_open-is_open.result pieces one opens are is,
      together pieces one (and_then law put more),
    )

pub returns : goal.returns
returns g c = λ text noted.
    let (pieces, are, put) = c.loop-place.invariant text noted in
    let all = map mark_value c.args.marks.now in
    let same = length-map c.args.marks.now mark_value in
    let past = c.loop-place-test.false in
    let most : length all ≤ c.loop-place.place = omega (arith, same, past) in (
      pieces,
      subst (λ (ms : List MarkValue). AreFrom text all 0 ms pieces) (take_all c.loop-place.place all most) are,
      put,
    )
