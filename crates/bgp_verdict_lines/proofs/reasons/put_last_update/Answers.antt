use Rattle.std.proofs.Common.{map}
use Rattle.bgp_why.specs.UpdateParts.{shown_part}
use Rattle.bgp_why.specs.Applying.{last_update_line, update_asks}
use Rattle.bgp_verdict_lines.proofs.SameTexts.{received_same}
use Rattle.bgp_verdict_lines.proofs.Puts.{in_text, one_line}
use Rattle.bgp_verdict_lines.proofs.reasons.put_last_update.Goals as goal

pub returns-in-Text : goal.returns-in-Text
returns-in-Text g c = in_text c.args.lines.now _ _ c.in-Text.is c.put_last_update.ensures

pub returns-in-Json : goal.returns-in-Json
unfolding last_update_line
returns-in-Json g c =
    let asked = c.args.asked.now in
    one_line c.args.lines.now _ _ _ _ _ c.in-Json.is c.tell_last_update.ensures
    (received_same c.args.style.now.first c.args.place.now c.args.name.now (update_asks asked.applied asked.refused (map shown_part asked.parts.items)))
