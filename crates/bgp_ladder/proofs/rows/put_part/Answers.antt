use Rattle.std.proofs.Common.{[], refl}
use Rattle.bgp_text.proofs.Pieces.{nothing_yet}
use Rattle.bgp_ladder.specs.Ladder.{row_pieces, sum_pieces}
use Rattle.std.specs.Prelude.{None}
use Rattle.bgp_ladder.proofs.rows.put_part.Goals as goal

pub returns-in-Own : goal.returns-in-Own
returns-in-Own g c = rw c.in-Own.is (λ opens deed. (
  row_pieces c.args.ladder.now c.args.before.now.greatest c.args.before.now.previous c.args.number c.args.entry.now c.args.text.now,
  (c.args.text.now, deed, refl),
  c.put_row.ensures,
))

pub returns-in-Last : goal.returns-in-Last
returns-in-Last g c = rw c.in-Last.is (λ opens deed. (
  row_pieces c.args.ladder.now c.args.before.now.greatest None c.args.number c.args.entry.now c.args.text.now,
  (c.args.text.now, deed, refl),
  c.put_row-in-Last.ensures,
))

pub returns-in-Sum : goal.returns-in-Sum
returns-in-Sum g c = rw c.in-Sum.is (λ opens deed. (
  sum_pieces c.args.ladder.now c.args.number c.in-Sum.count c.args.entry.now c.args.last.now,
  refl,
  c.put_sum.ensures,
))

pub returns-in-Summed : goal.returns-in-Summed
returns-in-Summed g c = rw c.in-Summed.is (λ opens deed. (
  [],
  refl,
  nothing_yet g.W.Sink g.met.W.Sink.nothing c.args.lines.now.outlet c.args.lines.now.held.items,
))
