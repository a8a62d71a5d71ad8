use Rattle.bgp_why.specs.Asked.{asked_text}
use Rattle.bgp_why.specs.Message.{name_text}
use Rattle.bgp_verdict_lines.proofs.received.tell_last_received.Goals as goal

pub returns : goal.returns
returns g c =
    let asked = c.args.asked.now in
    rw c.new-at.ensures at
    (c.tell_received.ensures (name_text asked.name) (asked_text c.args.style.now.peer_as_is_free asked.state asked.message) c.name_text-name.ensures c.asked_text-text.ensures)
