use Rattle.std.proofs.lemmas.Bool.{lt-ltb}
use Rattle.bgp_text.proofs.Pieces.{Joins, and_then}
use Rattle.bgp_check_lines.proofs.notes.put_delayed.Goals as goal

pub returns-then-delayed-gt0 : goal.returns-then-delayed-gt0
returns-then-delayed-gt0 g c =
    let law : Joins g.W.Sink = record { joined = g.met.W.Sink.joined } in
    rw (lt-ltb 0 c.args.delayed c.if-delayed-gt0.true) (and_then law c.put.ensures c.put_decimal.ensures)
