-- What a reader of a capture answers, call by call: the next record of the session, the end, or the
-- first fault; and how it stands then.
use Rattle.std.specs.Prelude.{◌≡◌, ◌+◌, ◌⊎◌, ◌++◌, ◌==◌, ℕ, Bool, true, false, List, []}
use Rattle.std.specs.Prelude.{◌∷◌, length, map, slice_get}
use Rattle.std.specs.Prelude.{Option, None, Some, Result, Ok, Err, IsTrue, is_some, if◌then◌else◌}
use Rattle.bgp_prefix.specs.Shown.{ShownRecord, Received, Sent, Changed}
use Rattle.bgp_prefix.specs.declared.session.Session.{Session}
use Rattle.mrt.specs.Capture.{Piece, Shown, ArePieces, IsBegun, last_of, joined, records_of}
use Rattle.mrt.specs.Capture.{others_of, micro_of}
use Rattle.mrt.specs.Capture as capture
use Rattle.mrt.specs.Skipped.{skipped_in, none_skipped, both_skipped}
use Rattle.mrt.specs.Fault.{fault_number}
use Rattle.mrt.specs.Reading.{IsRefused}
use Rattle.mrt.specs.declared.record.Record.{Record}
use Rattle.mrt.specs.declared.record.Record.TheVariants as records
use Rattle.mrt.specs.declared.record.Endpoints.{Endpoints}
use Rattle.mrt.specs.declared.skipped.SkippedRecords.{SkippedRecords}
use Rattle.mrt.specs.declared.fault.CaptureFault.{CaptureFault}
use Rattle.mrt.specs.declared.fault.FaultKind.{FaultKind}
use Rattle.mrt.specs.declared.fault.FaultKind.TheVariants as kinds

-- what a `Record` says
abbrev pub shown_of : Record → ShownRecord
shown_of (records.In second octets) = Received second octets.now
shown_of (records.Out second octets) = Sent second octets.now
shown_of (records.Change second old new) = Changed second old new

-- How a reader stands: how many octets the records have that it answered or skipped; the second of
-- the session's last record; the fraction of that, in microseconds, if it has one; where what it
-- last answered begins; whether it told the end; the fault that it found; the first nine different
-- pairs of addresses for which it skipped a record; how many it skipped.
pub record ReaderState : Type 0 where
  pub passed : ℕ
  pub last : Option ℕ
  pub micro : Option ℕ
  pub place : ℕ
  pub is_ended : Bool
  pub fault : Option CaptureFault
  pub others : List Endpoints
  pub skipped : SkippedRecords

-- pairs of addresses in nine places, each of which has one or none
abbrev pub places_of : List Endpoints → List (Option Endpoints)
places_of others = map (slice_get others) (0 ∷ 1 ∷ 2 ∷ 3 ∷ 4 ∷ 5 ∷ 6 ∷ 7 ∷ 8 ∷ [])

-- one that has read nothing
abbrev pub fresh_reader : ReaderState
fresh_reader = record {
  passed = 0;
  last = None;
  micro = None;
  place = 0;
  is_ended = false;
  fault = None;
  others = [];
  skipped = none_skipped;
}

-- A reader's buffer, of this length, has room for each body that is read of any session, unless the
-- reader has read nothing or found a fault.
abbrev pub HasRoom : ℕ → ReaderState → Type 0
HasRoom len state = (len ≡ 65583) ⊎ (state ≡ fresh_reader) ⊎ IsTrue (is_some state.fault)

-- one that has passed these pieces
abbrev pub after_pieces : ReaderState → List Piece → ReaderState
after_pieces state pieces = record state {
  passed = state.passed + length (joined pieces);
  last = last_of state.last pieces;
  others = others_of state.others pieces;
  skipped = both_skipped state.skipped (skipped_in pieces);
}

-- one that answers the end, a fault, or the record of these octets behind what it had passed
abbrev pub at_end : ReaderState → ReaderState
at_end state = record state { place = state.passed; is_ended = true }

abbrev pub at_fault : ReaderState → CaptureFault → ReaderState
at_fault state fault = record state { place = state.passed; fault = Some fault }

abbrev pub at_record : ReaderState → ReaderState → List ℕ → ReaderState
at_record before state octets =
    record state { place = before.passed; micro = micro_of octets }

-- What a call answers, that reads on from `from` for a session, over a source that goes from `old`
-- to `new`. The members are the source's.
module _ {S : Type 0} (gives : S → S → List ℕ → Type 0) (has_ended : S → Bool)
    (session : Session) where
  -- The octets that were given are those of skipped records and of the record that is answered, and
  -- no more.
  pub record Answers (old new : S) (from after : ReaderState) (answer : ShownRecord) : Type 0 where
    pub skipped : List Piece
    pub octets : List ℕ
    pub only : records_of skipped ≡ []
    pub pieces : ArePieces session from.last (skipped ++ Shown octets ∷ [])
    pub shown : capture.shown_of octets ≡ answer
    pub exactly : gives old new (joined (skipped ++ Shown octets ∷ []))
    pub stands : after
        ≡ at_record (after_pieces from skipped) (after_pieces from (skipped ++ Shown octets ∷ []))
        octets

  -- They are those of skipped records, and the source has ended.
  pub record Ends (old new : S) (from after : ReaderState) : Type 0 where
    pub skipped : List Piece
    pub only : records_of skipped ≡ []
    pub pieces : ArePieces session from.last skipped
    pub exactly : gives old new (joined skipped)
    pub ended : IsTrue (has_ended new)
    pub stands : after ≡ at_end (after_pieces from skipped)

  -- They are those of skipped records and a rest. The place where the rest begins is refused,
  -- whatever follows; or a device failed, and the rest is a record that has begun; or there was no
  -- memory, and nothing was read, neither in this call nor before.
  pub record Fails (old new : S) (from after : ReaderState) (fault : CaptureFault) : Type 0 where
    pub skipped : List Piece
    pub rest : List ℕ
    pub only : records_of skipped ≡ []
    pub pieces : ArePieces session from.last skipped
    pub taken : gives old new (joined skipped ++ rest)
    pub why : IsRefused session (last_of from.last skipped) rest (has_ended new) fault.kind
        ⊎ ((fault.kind ≡ kinds.Device) × IsBegun session rest)
        ⊎ ((fault.kind ≡ kinds.Memory) × (new ≡ old) × (from ≡ fresh_reader))
    pub offset : fault.offset ≡ (after_pieces from skipped).passed
    pub stands : after ≡ at_fault (after_pieces from skipped) fault

  -- by the answer
  abbrev pub IsAnswer : S → S → ReaderState → ReaderState → Result (Option Record) CaptureFault
      → Type 0
  IsAnswer old new from after (Ok (Some answer)) = Answers old new from after (shown_of answer)
  IsAnswer old new from after (Ok None) = Ends old new from after
  IsAnswer old new from after (Err fault) = Fails old new from after fault

  -- nothing was read, and the reader is as before
  abbrev pub IsSame : S → S → ReaderState → ReaderState → Type 0
  IsSame old new from after = (new ≡ old) × (after ≡ from)

  -- After a fault it answers that fault, and after the end the end.
  abbrev pub NextBy : Option CaptureFault → Bool → S → S → ReaderState → ReaderState
      → Result (Option Record) CaptureFault → Type 0
  NextBy (Some fault) is_ended old new from after answer =
      IsSame old new from after × (answer ≡ Err fault)
  NextBy None true old new from after answer = IsSame old new from after × (answer ≡ Ok None)
  NextBy None false old new from after answer = IsAnswer old new from after answer

  abbrev pub IsNext : S → S → ReaderState → ReaderState → Result (Option Record) CaptureFault
      → Type 0
  IsNext old new from after answer = NextBy from.fault from.is_ended old new from after answer

-- How many failures a call counts: one where it is the first to answer that a device failed.
abbrev pub device_count : FaultKind → ℕ
device_count kind = if fault_number kind == 9 then 1 else 0

abbrev pub failures_in : ReaderState → Result (Option Record) CaptureFault → ℕ
failures_in from (Ok answer) = 0
failures_in from (Err fault) = if is_some from.fault then 0 else device_count fault.kind
