use Rattle.std.proofs.Common.{map}
use Rattle.bgp_why.specs.UpdateParts.{shown_part}
use Rattle.bgp_why.specs.Applying.{update_asks}
use Rattle.bgp_why.specs.Message.{name_text}
use Rattle.bgp_verdict_lines.proofs.received.tell_last_update.Goals as goal

pub returns : goal.returns
returns g c =
    let asked = c.args.asked.now in
    rw c.new-at.ensures at
    (c.tell_received.ensures (name_text c.args.name.now) (update_asks asked.applied asked.refused (map shown_part asked.parts.items)) c.name_text-name.ensures c.update_text-text.ensures)
