use Rattle.std.proofs.Common.{◌++◌, [], List, arith, refl, subst}
use Rattle.std.proofs.lemmas.List.{take_all}
use Rattle.bgp_text.proofs.Pieces.{Joins, and_then, nothing_yet}
use Rattle.bgp_check_tool.specs.declared.marks.BothMarks.{BothMarks}
use Rattle.bgp_report.proofs.InLadders.{counted_on, ladders_on, together}
use Rattle.bgp_report.specs.Ladders.{AreLadders}
use Rattle.bgp_report.proofs.ladders.put_each.Goals as goal

pub loop-place-init : goal.loop-place-init
loop-place-init g c = (
  refl,
  omega arith,
  λ port packets text held noted. ([], refl, nothing_yet g.W.Sink g.met.W.Sink.nothing c.args.lines.now.outlet c.args.lines.now.held.items),
)

pub loop-place-preserved : goal.loop-place-preserved
loop-place-preserved g c =
    let law : Joins g.W.Sink = record { joined = g.met.W.Sink.joined } in
    let marks = c.args.marks.now in
    let place = c.loop-place.place in
    let (counted, most, so_far) = c.loop-place.invariant in
    let within = c.put_both-count.ensures.within in (
      counted_on marks place _ c.loop-place-test.true c.loop-place.count counted c.put_both-count.result c.put_both-count.ensures.behind,
      omega arith,
      λ port packets text held noted.
          let (pieces, are, put) = so_far port packets text held noted in
          let (one, is, more) = c.put_both-count.ensures.ladders port packets text held noted in (
            pieces ++ one,
            ladders_on marks place _ c.loop-place-test.true c.loop-place.count counted port c.args.within packets text pieces one are is,
            together pieces one (and_then law put more),
          ),
    )

pub returns : goal.returns
returns g c = λ port packets text held noted.
    let (counted, most, so_far) = c.loop-place.invariant in
    let (pieces, are, put) = so_far port packets text held noted in
    (pieces, subst (λ (ms : List BothMarks). AreLadders port c.args.within packets text 0 ms pieces) (take_all c.loop-place.place c.args.marks.now c.loop-place-test.false) are, put)
