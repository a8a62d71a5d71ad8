use Rattle.bgp_lines.specs.UpdateLine.{behind_word}
use Rattle.bgp_text.proofs.Pieces.{Joins, and_then}
use Rattle.bgp_lines.proofs.update_line.put_behind_word.Goals as goal

pub returns-in-Some : goal.returns-in-Some
unfolding behind_word
returns-in-Some g c =
    let law : Joins g.W.Sink = record { joined = g.met.W.Sink.joined } in
    rw c.in-Some.is (and_then law c.put_said.ensures c.put_flags.ensures)
