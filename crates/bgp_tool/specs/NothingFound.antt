-- What is said of a file in which a command found nothing that it reads.
use Rattle.std.specs.Prelude.{ℕ, Bool, true, false, List, Option, None, Some, option_map}
use Rattle.std.specs.Prelude.{if◌then◌else◌}
use Rattle.std.specs.Borrow.{Bor}
use Rattle.mrt.specs.declared.fault.CaptureFault.{CaptureFault}
use Rattle.mrt.specs.declared.fault.FaultKind.{FaultKind}
use Rattle.mrt.specs.declared.fault.FaultKind.TheVariants as kinds
use Rattle.bgp_tool.specs.declared.front.Form.{Form}
use Rattle.bgp_tool.specs.declared.note.CaptureCommand.{CaptureCommand}
use Rattle.bgp_tool.specs.declared.note.Note.{Note}
use Rattle.bgp_tool.specs.declared.note.Note.TheVariants.{NoCapture, NoSessions}

-- a device or memory failed, whatever the file is
abbrev pub is_of_system : FaultKind → Bool
is_of_system kinds.Truncated = false
is_of_system kinds.TooLong = false
is_of_system kinds.Body = false
is_of_system kinds.BadState = false
is_of_system kinds.NotAMessage = false
is_of_system kinds.TimeBack = false
is_of_system kinds.RouteRefresh = false
is_of_system kinds.AddPath = false
is_of_system kinds.Device = true
is_of_system kinds.Memory = true

module _ (command : CaptureCommand) (file : Bor (List ℕ)) where
  -- The file has no record of a session: by what it is, if it is no capture, and by why it isn't
  -- read to its end, if it isn't. That it is a capture which is refused is said elsewhere.
  abbrev pub without_records_by : Option Form → Option CaptureFault → Option Note
  without_records_by None None = Some (NoSessions file)
  without_records_by (Some form) None = Some (NoCapture file form command)
  without_records_by form (Some fault) =
      if is_of_system fault.kind then None
      else option_map (λ form. NoCapture file form command) form

  -- The file is refused before its first packet: by what it is, if it is no recording.
  abbrev pub without_packets_by : Option Form → Option Note
  without_packets_by form = option_map (λ form. NoCapture file form command) form
