-- How a reader goes on to the next packet, whose octets its buffer has then.
use Rattle.std.specs.Prelude.{◌≤◌, ◌+◌, ℕ, Bool, List, Option, None, Some, Result, Ok, Err, length}
use Rattle.packets.specs.Fault.{device_count}
use Rattle.packets.specs.Reading.{recorded_in}
use Rattle.packets.specs.Reader.{ReaderState, Answers, Ends, Fails}
use Rattle.packets.specs.declared.fault.FileFault.{FileFault}
use Rattle.packets.specs.declared.reading.Found.{Found}

-- how many failures a call counts: one where it answers that a device failed
abbrev pub failures_of : {X : Type 0} → Result X FileFault → ℕ
failures_of (Ok answer) = 0
failures_of (Err fault) = device_count fault.kind

-- A packet was found, and the buffer has its octets; or the end, or a fault.
module _ {S : Type 0} (gives : S → S → List ℕ → Type 0) (has_ended : S → Bool) where
  pub record Finds (old new : S) (from after : ReaderState) (buffer : List ℕ) (found : Found)
      : Type 0 where
    pub answers : Answers gives has_ended old new from after (recorded_in found buffer)
    pub within : found.at + found.count ≤ length buffer

  abbrev pub Advances : S → S → ReaderState → ReaderState → List ℕ
      → Result (Option Found) FileFault → Type 0
  Advances old new from after buffer (Ok (Some found)) = Finds old new from after buffer found
  Advances old new from after buffer (Ok None) = Ends gives has_ended old new from after
  Advances old new from after buffer (Err fault) = Fails gives has_ended old new from after fault
