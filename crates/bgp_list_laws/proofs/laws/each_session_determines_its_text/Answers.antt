use Rattle.bgp_list_laws.proofs.Sessions.{same_sessions}
use Rattle.bgp_list_laws.proofs.laws.each_session_determines_its_text.Goals as goal

pub returns : goal.returns
returns c = same_sessions
