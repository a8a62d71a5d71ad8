use Rattle.bgp_open.proofs.WrittenNotification.{notification_frame}
use Rattle.bgp_open.proofs.laws.written_notification_is_a_frame.Goals as goal

pub returns : goal.returns
returns c = notification_frame
