use Rattle.std.proofs.Common.{◌++◌, [], List, arith, refl, subst}
use Rattle.bgp_text.proofs.Pieces.{Joins, and_then, nothing_yet}
use Rattle.bgp_text.specs.Lines.{Writes}
use Rattle.bgp_html.specs.Pieces.{Piece, html_of}
use Rattle.bgp_ladder.proofs.Ends.{together}
use Rattle.bgp_ladder.proofs.InPossible.{further, none_left}
use Rattle.bgp_ladder.proofs.possible.put_possible.Goals as goal

pub loop-place-init : goal.loop-place-init
loop-place-init g c = (
  omega arith,
  [],
  nothing_yet g.W.Sink g.met.W.Sink.nothing c.args.lines.now.outlet c.args.lines.now.held.items,
  refl,
)

pub loop-place-preserved : goal.loop-place-preserved
loop-place-preserved g c =
    let law : Joins g.W.Sink = record { joined = g.met.W.Sink.joined } in
    let (before, rows, put, is) = c.loop-place.invariant in
    let (more, wrote, one) = c.put_ended-first.ensures.puts in (
      c.put_ended-first.ensures.within,
      rows ++ more,
      together rows more (and_then law put wrote),
      further rows more _ _ _ is one,
    )

pub returns : goal.returns
returns g c =
    let (before, rows, put, is) = c.loop-place.invariant in
    subst (λ (ps : List Piece). Writes c.args.lines.now c.loop-place.lines (html_of ps)) (none_left c.args.numbering c.args.text.now _ c.loop-place.place rows _ c.loop-place-test.false is) put
