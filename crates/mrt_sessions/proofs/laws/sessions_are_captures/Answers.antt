use Rattle.mrt_sessions.proofs.OneSession.{sessions_are_captures}
use Rattle.mrt_sessions.proofs.laws.sessions_are_captures.Goals as goal

pub returns : goal.returns
returns c = sessions_are_captures
