use Rattle.bgp_text.proofs.Pieces.{Joins}
use Rattle.bgp_verdict_lines.proofs.Puts.{then_lines}
use Rattle.bgp_explain.proofs.tally.put_yes_lines.Goals as goal

pub returns : goal.returns
returns g c =
    let law : Joins g.W.Sink = record { joined = g.met.W.Sink.joined } in
    then_lines law c.put_tally.ensures (then_lines law c.put_ignored_in.ensures (then_lines law c.put_skipped.ensures c.put_idle_note.ensures))
