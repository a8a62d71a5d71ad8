use Rattle.bgp_speaker.proofs.DrivesARun.{drives_run, drives_complete}
use Rattle.bgp_speaker.proofs.KeptInOrder.{kept_ascend}
use Rattle.bgp_speaker.proofs.PlainLinks.{links_plain}
use Rattle.bgp_speaker.proofs.Undelayed.{drive_undelayed}
use Rattle.bgp_speaker.proofs.laws.each_drive_is_a_run.Goals as goal

pub returns-clause-run : goal.returns-clause-run
returns-clause-run c = drives_run

pub returns-clause-complete : goal.returns-clause-complete
returns-clause-complete c = drives_complete

pub returns-clause-undelayed : goal.returns-clause-undelayed
returns-clause-undelayed c = drive_undelayed

pub returns-clause-plain : goal.returns-clause-plain
returns-clause-plain c = links_plain

pub returns-clause-ascend : goal.returns-clause-ascend
returns-clause-ascend c = kept_ascend
