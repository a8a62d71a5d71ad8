-- When other rules of framing find the same messages in a connection.
use Rattle.std.specs.Prelude.{◌≤◌, ℕ, List, length}
use Rattle.std.specs.List.{AllByRecursion}
use Rattle.bgp_prefix.specs.Shown.{Changed, Received, Sent, ShownRecord}
use Rattle.bgp_recording.specs.Captured.{records_of}
use Rattle.bgp_recording.specs.Recorded.{IsRecordedInOrder}
use Rattle.bgp_recording.specs.declared.entry.Entry.{Entry}
use Rattle.bgp_recording.specs.declared.framing.Framings.{Framings}
use Rattle.bgp_recording.specs.declared.framing.Unshown.{Unshown}
use Rattle.bgp_ended.specs.SameMessages.{FindsTheSame}
use Rattle.streams.specs.declared.connection.Connection.{Connection}

-- a message isn't longer than one that nobody offered to extend
abbrev pub IsPlainRecord : ShownRecord → Type 0
IsPlainRecord (Received second octets) = length octets ≤ 4096
IsPlainRecord (Sent second octets) = length octets ≤ 4096
IsPlainRecord (Changed second old new) = Unit {0}

abbrev pub ArePlain : List ShownRecord → Type 0
ArePlain records = AllByRecursion IsPlainRecord records

-- ---- the law

-- So what is made of a connection by the old rules is made of it by the new ones, too, if they find
-- the same in both streams.
abbrev pub RecordsAreFramedAlike : Type 0
RecordsAreFramedAlike =
    (old new : Framings) (within : ℕ) (connection : Connection) (entries : List Entry)
    (received sent : Unshown)
    → FindsTheSame (ArePlain (records_of entries)) old.received new.received received
    → FindsTheSame (ArePlain (records_of entries)) old.sent new.sent sent
    → IsRecordedInOrder old within connection entries received sent
    → IsRecordedInOrder new within connection entries received sent
