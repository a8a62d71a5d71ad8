use Rattle.bgp_list_laws.proofs.Captures.{same_captures}
use Rattle.bgp_list_laws.proofs.laws.each_session_list_determines_its_text.Goals as goal

pub returns : goal.returns
returns c = same_captures
