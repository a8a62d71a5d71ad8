use Rattle.bgp_check_lines.proofs.Puts.{in_json, in_text}
use Rattle.bgp_check_lines.proofs.reason.put_reason.Goals as goal

pub returns-in-Text : goal.returns-in-Text
returns-in-Text g c = in_text c.args.lines.now _ _ c.in-Text.is c.put_reason.ensures

pub returns-in-Json : goal.returns-in-Json
returns-in-Json g c = in_json c.args.lines.now _ _ _ _ c.in-Json.is c.tell_reason.ensures
