-- What is put of one connection whose records are judged, and what there is to tell of it besides.
use Rattle.std.specs.Prelude.{◌↔◌, ◌≡◌, ℕ, Bool, IsTrue, List, Option}
use Rattle.packets.specs.Packet.{Recorded}
use Rattle.streams.specs.Passed.{Segment}
use Rattle.mrt.specs.declared.sink.Sink as sinks
use Rattle.bgp_parts.specs.Confederations.{SomeShowConfederations}
use Rattle.bgp_open.specs.declared.config.Config.{Config}
use Rattle.bgp_judge.specs.Verdict.{HasVerdict, VerdictValue}
use Rattle.bgp_import.specs.declared.importing.Import.{Import}
use Rattle.bgp_import.specs.declared.note.Notes.{Notes}
use Rattle.bgp_recording.specs.Captured.{records_of}
use Rattle.bgp_recording.specs.declared.entry.Entry.{Entry}
use Rattle.bgp_verdict_lines.specs.Lines.{PutsLines}
use Rattle.bgp_verdict_lines.specs.declared.verdict_lines.VerdictLines.{VerdictLines}
use Rattle.bgp_explain.specs.LeftOut.{JudgesWithout}
use Rattle.bgp_explain.specs.declared.left_out.LeftOut.{LeftOut}
use Rattle.bgp_explain.specs.declared.report.Report.{Report}
use Rattle.bgp_recording_tool.specs.declared.remark.Remark.{Remark}
use Rattle.bgp_recording_tool.specs.Connections.{IsFound, IsInstead, IsMoreOf}
use Rattle.bgp_recording_tool.specs.Found.{Found}
use Rattle.bgp_recording_tool.specs.Remarks.{AddsTold, AreRemarks}
use Rattle.bgp_recording_tool.specs.Told.{told_status, told_text, told_with}

-- The verdict on the records of these entries, or what is found over all orders of the connection
-- with this number: of a no the sent message that none explains, or the ends of another that is a
-- yes; and what stands after it, with this exit status.
pub record PutsReport {X T : Type 0} {sink : sinks.Ghosts T} (config : Config) (report : Report)
    (wanted : Import) (packets : List Recorded) (segments : List Segment)
    (number named : Option ℕ) (entries : List Entry) (notes : Notes)
    (lines lines' : VerdictLines X T sink) (remarks remarks' : List Remark) (status : ℕ) : Type 0 where
  pub verdict : VerdictValue
  pub found : Found
  pub others : List Entry
  pub more : List ℕ
  pub is : HasVerdict config (records_of entries) verdict
  pub is_found : IsFound config wanted packets segments number verdict others found
  pub is_more : IsMoreOf report config entries others verdict found more
  pub instead : IsInstead config wanted packets segments report number entries verdict found
  pub wrote : PutsLines lines lines' (told_text (told_with verdict found more))
  pub confederation : Bool
  pub shows : IsTrue confederation ↔ SomeShowConfederations (records_of entries)
  pub left_out : LeftOut
  pub leaves_out : JudgesWithout config (records_of entries) left_out
  pub added : AddsTold remarks remarks'
      (AreRemarks named wanted.within entries notes confederation left_out verdict found)
  pub tells : status ≡ told_status (told_with verdict found more)

-- nothing is put or added
pub record PutsNothing {X T : Type 0} {sink : sinks.Ghosts T} (lines lines' : VerdictLines X T sink)
    (remarks remarks' : List Remark) : Type 0 where
  pub same_lines : lines' ≡ lines
  pub same_remarks : remarks' ≡ remarks
