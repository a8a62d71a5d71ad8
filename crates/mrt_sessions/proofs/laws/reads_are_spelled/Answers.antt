use Rattle.mrt_sessions.proofs.OneSession.{reads_are_spelled}
use Rattle.mrt_sessions.proofs.laws.reads_are_spelled.Goals as goal

pub returns : goal.returns
returns c = reads_are_spelled
