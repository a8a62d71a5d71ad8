-- A session of a file is that of the file as a capture of the session.
use Rattle.std.specs.Prelude.{◌⊎◌, ℕ, Bool, true, IsTrue, List, Option, None, Some}
use Rattle.bgp_prefix.specs.Shown.{ShownRecord}
use Rattle.bgp_prefix.specs.declared.session.RouteRefresh.TheVariants as refreshes
use Rattle.bgp_prefix.specs.declared.session.Session.{Session}
use Rattle.mrt.specs.Capture.{IsFirstFault, Spells}
use Rattle.mrt.specs.declared.fault.CaptureFault.{CaptureFault}
use Rattle.mrt.specs.declared.fault.FaultKind.{FaultKind}
use Rattle.mrt_sessions.specs.declared.addresses.Addresses.{Addresses}
use Rattle.mrt_sessions.specs.declared.lengths.ExtendedMessages.{ExtendedMessages}
use Rattle.mrt_sessions.specs.File.{HasRecords, HasSuchRecords, Located}
use Rattle.mrt_sessions.specs.Reading.{IsReading}
use Rattle.mrt_sessions.specs.ReadsAs.{ReadsAs, addresses_in}
use Rattle.mrt_sessions.specs.Sessions.{records_between}

-- the session between these addresses, all of whose messages may be extended ones (RFC 8654)
abbrev pub extended_session : Addresses → Session
extended_session addresses = record {
  peer = addresses.peer;
  local = addresses.local;
  refresh = refreshes.NotOffered;
  extended = true;
}

abbrev pub all_extended : ExtendedMessages
all_extended = record { received = true; sent = true }

-- Its fault, if there is one; else that of the file; or else the octets spell these records.
abbrev pub IsCapture : Session → List ℕ → List ShownRecord → Option CaptureFault → ℕ
    → Option FaultKind → Type 0
IsCapture session octets records (Some fault) offset refusal =
    IsFirstFault session octets records fault.kind fault.offset
IsCapture session octets records None offset (Some kind) =
    IsFirstFault session octets records kind offset
IsCapture session octets records None offset None = Spells session octets records

-- What is read of a session, all of whose messages may be extended ones, is what a capture of it
-- has: the same records, and the same end or fault.
abbrev pub SessionsAreCaptures : Type 0
SessionsAreCaptures =
    (octets : List ℕ) (named : List Located) (offset : ℕ) (refusal : Option FaultKind)
    (addresses : Addresses) (records : List ShownRecord) (fault : Option CaptureFault)
    → HasRecords octets named offset refusal
    → IsReading addresses all_extended (records_between addresses named) records fault
    → IsCapture (extended_session addresses) octets records fault offset refusal

-- Where a file has no refusal, and a session's records in it are read as some records, these are
-- what a capture of the session has: if its messages may be extended ones, or no body is longer
-- than is read where they may not.
abbrev pub ReadsAreSpelled : Type 0
ReadsAreSpelled =
    (session : Session) (octets : List ℕ) (named : List Located) (offset : ℕ) (is_plain : Bool)
    (records : List ShownRecord)
    → HasSuchRecords octets named offset None is_plain
    → IsTrue is_plain ⊎ IsTrue session.extended
    → ReadsAs session None (records_between (addresses_in session) named) records
    → Spells session octets records
