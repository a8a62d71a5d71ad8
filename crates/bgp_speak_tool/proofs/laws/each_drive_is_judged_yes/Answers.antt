use Rattle.bgp_speak_tool.specs.Driven.{DrivesSpellTheirRecords}
use Rattle.bgp_speak_tool.proofs.DriveJudged.{drives_spell, not_refused, drives_judged}
use Rattle.bgp_speak_tool.proofs.laws.each_drive_is_judged_yes.Goals as goal

pub returns : goal.returns
returns c =
    let written = c.each_drive_can_be_written.ensures in
    let reading = c.each_capture_has_one_reading.ensures in
    let spells : DrivesSpellTheirRecords = drives_spell c.written_captures_are_read.ensures written.written written.seconds in
    record {
      spells = spells;
      sound = not_refused spells reading.never_both;
      yes = drives_judged spells reading.spelling c.each_drive_is_a_run.ensures.complete;
    }
