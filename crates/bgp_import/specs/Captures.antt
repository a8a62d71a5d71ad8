-- The capture of a connection's entries, and which of them were put off.
use Rattle.std.specs.Prelude.{◌≡◌, ◌+◌, ℕ, List, [], ◌∷◌, map, max, nat_lt}
use Rattle.std.specs.Prelude.{Option, None, Some, if◌then◌else◌}
use Rattle.bgp_prefix.specs.Shown.{ShownRecord, Received, Sent, Changed}
use Rattle.bgp_prefix.specs.declared.session.Session.{Session}
use Rattle.mrt.specs.Reader.{shown_of}
use Rattle.mrt.specs.Written.{capture_octets, IsWritable}
use Rattle.streams.specs.declared.passed.Side.{Side}
use Rattle.streams.specs.declared.passed.Side.TheVariants.{Local, Peer}
use Rattle.bgp_recording.specs.declared.entry.Entry.{Entry}
use Rattle.bgp_import.specs.AsNumber.{IsAsNumber}
use Rattle.bgp_import.specs.declared.capture.AsNumbers.{AsNumbers}

-- what an entry's record shows
abbrev pub shown_by : Entry → ShownRecord
shown_by entry = shown_of entry.record

-- its record can be written
abbrev pub CanBeWritten : Session → Entry → Type 0
CanBeWritten session entry = IsWritable session (shown_by entry)

-- ---- the AS numbers

-- the message that a record shows, if this system sent it
abbrev pub shown_message : Side → ShownRecord → Option (List ℕ)
shown_message Peer (Received second octets) = Some octets
shown_message Peer (Sent second octets) = None
shown_message Peer (Changed second old new) = None
shown_message Local (Received second octets) = None
shown_message Local (Sent second octets) = Some octets
shown_message Local (Changed second old new) = None

abbrev pub message_from : Side → Entry → Option (List ℕ)
message_from side entry = shown_message side (shown_by entry)

-- the AS number of a system is that of its first message, and 0 where it has none
abbrev pub IsAsNumberBy : Option (List ℕ) → Type 0 → ℕ → Type 0
IsAsNumberBy None Later number = Later
IsAsNumberBy (Some octets) Later number = IsAsNumber octets number

abbrev pub IsAsNumberOf : Side → List Entry → ℕ → Type 0
IsAsNumberOf side [] number = number ≡ 0
IsAsNumberOf side (entry ∷ later) number =
    IsAsNumberBy (message_from side entry) (IsAsNumberOf side later number) number

abbrev pub AreAsNumbers : List Entry → AsNumbers → Type 0
AreAsNumbers entries numbers =
    IsAsNumberOf Peer entries numbers.peer × IsAsNumberOf Local entries numbers.local

-- ---- the octets

-- the records of entries, one after another
abbrev pub entries_octets : Session → AsNumbers → List Entry → List ℕ
entries_octets session numbers entries =
    capture_octets session numbers.peer numbers.local (map shown_by entries)

-- these octets are the capture of the entries
pub record IsCapture (session : Session) (entries : List Entry) (octets : List ℕ) : Type 0 where
  pub numbers : AsNumbers
  pub are_numbers : AreAsNumbers entries numbers
  pub whole : octets ≡ entries_octets session numbers entries

-- ---- what was put off

-- How many received messages stand after a sent one that was made by a packet after the one by
-- which they came, where the latest of those that were sent before is `made`.
abbrev pub made_by : ℕ → ℕ → ShownRecord → ℕ
made_by made packet (Received second octets) = made
made_by made packet (Sent second octets) = max packet made
made_by made packet (Changed second old new) = made

abbrev pub counted : ℕ → ℕ → ShownRecord → ℕ
counted made packet (Received second octets) = if nat_lt packet made then 1 else 0
counted made packet (Sent second octets) = 0
counted made packet (Changed second old new) = 0

abbrev pub put_off : ℕ → List Entry → ℕ
put_off made [] = 0
put_off made (entry ∷ later) =
    counted made entry.packet (shown_by entry)
    + put_off (made_by made entry.packet (shown_by entry)) later
