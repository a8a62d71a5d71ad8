use Rattle.bgp_wire.proofs.WholeMessages.{message_is_frame, keepalive_is_frame, written_is_frame, frame_is_whole}
use Rattle.bgp_wire.proofs.laws.whole_messages_are_frames.Goals as goal

pub returns-clause-message : goal.returns-clause-message
returns-clause-message c = message_is_frame

pub returns-clause-keepalive : goal.returns-clause-keepalive
returns-clause-keepalive c = keepalive_is_frame

pub returns-clause-written : goal.returns-clause-written
returns-clause-written c = written_is_frame

pub returns-clause-back : goal.returns-clause-back
returns-clause-back c = frame_is_whole
