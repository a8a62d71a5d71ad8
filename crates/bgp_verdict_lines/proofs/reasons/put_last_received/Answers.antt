use Rattle.bgp_why.specs.Asked.{asked_text, last_received_line}
use Rattle.bgp_verdict_lines.proofs.SameTexts.{received_same}
use Rattle.bgp_verdict_lines.proofs.Puts.{in_text, one_line}
use Rattle.bgp_verdict_lines.proofs.reasons.put_last_received.Goals as goal

pub returns-in-Text : goal.returns-in-Text
returns-in-Text g c = in_text c.args.lines.now _ _ c.in-Text.is c.put_last_received.ensures

pub returns-in-Json : goal.returns-in-Json
unfolding last_received_line
returns-in-Json g c =
    let asked = c.args.asked.now in
    one_line c.args.lines.now _ _ _ _ _ c.in-Json.is c.tell_last_received.ensures
    (received_same c.args.style.now.first c.args.place.now asked.name (asked_text c.args.style.now.peer_as_is_free asked.state asked.message))
