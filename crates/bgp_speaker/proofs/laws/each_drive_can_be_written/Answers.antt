use Rattle.bgp_speaker.proofs.EachShown.{each_written, seconds_in_order}
use Rattle.bgp_speaker.proofs.laws.each_drive_can_be_written.Goals as goal

pub returns-clause-written : goal.returns-clause-written
returns-clause-written c = each_written

pub returns-clause-seconds : goal.returns-clause-seconds
returns-clause-seconds c = seconds_in_order
