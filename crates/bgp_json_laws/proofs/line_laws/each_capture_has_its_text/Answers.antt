use Rattle.bgp_json_laws.proofs.Captures.{same_capture}
use Rattle.bgp_json_laws.proofs.line_laws.each_capture_has_its_text.Goals as goal

pub returns : goal.returns
returns c = same_capture
