use Rattle.std.proofs.Common.{refl}
use Rattle.bgp_commands.proofs.answering.answer_from.Goals as goal

pub returns-in-Capture : goal.returns-in-Capture
returns-in-Capture g c = rw c.in-Capture.is (c.decode_session.result, (refl, c.decode_session.ensures))

pub returns-in-Judge : goal.returns-in-Judge
returns-in-Judge g c = rw c.in-Judge.is (c.judge.result, (refl, c.judge.ensures))
