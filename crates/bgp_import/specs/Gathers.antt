-- What is gathered of a recording by reading it to its end, packet by packet.
use Rattle.std.specs.Prelude.{◌≡◌, ◌⊎◌, ◌+◌, ◌++◌, ℕ, Bool, true, false, List, [], length}
use Rattle.std.specs.Prelude.{Option, None, Some, Result, Ok, Err, IsTrue, reverse}
use Rattle.packets.specs.Context.{Context, Start}
use Rattle.packets.specs.Packet.{Recorded}
use Rattle.packets.specs.Fault.{device_count}
use Rattle.packets.specs.Reader.{HasRead}
use Rattle.packets.specs.Recording.{Spells}
use Rattle.packets.specs.declared.fault.FaultKind.TheVariants as kinds
use Rattle.streams.specs.Passed.{Segment}
use Rattle.streams.specs.Choice.{IsRefused}
use Rattle.streams.specs.Connections.{numbered}
use Rattle.streams.specs.Held.{HoldsConnections}
use Rattle.streams.specs.declared.fault.Fault.{Fault}
use Rattle.bgp_import.specs.Importing.{IsPassageRefused}
use Rattle.bgp_import.specs.Selecting.{AreTaken}
use Rattle.bgp_import.specs.declared.cut_short.CutShort.{CutShort}
use Rattle.bgp_import.specs.declared.gathering.Gathered.{Gathered}
use Rattle.bgp_import.specs.declared.refusal.Refusal.{Refusal}
use Rattle.bgp_import.specs.declared.refusal.Refusal.TheVariants as refusals
use Rattle.bgp_import.specs.declared.selection.Selection.{Selection}

-- What is gathered is the connections of these segments, told from the last one back to the first,
-- of a recording of so many packets.
pub record HoldsSession {Z : Type 0} (segments : List Segment) (count : ℕ) (gathered : Gathered Z)
    : Type 0 where
  pub connections : HoldsConnections segments gathered.connections
  pub last : gathered.last_packet ≡ count

-- what is told of a recording of so many packets that is whole, or was cut short
abbrev pub cut_short_by : Bool → ℕ → Option CutShort
cut_short_by false count = None
cut_short_by true count = Some (record { before = count })

-- the connection that is asked for isn't there, or is refused
pub record IsNotChosen (number : Option ℕ) (count : ℕ) (segments : List Segment)
    (refusal : Refusal) : Type 0 where
  pub fault : Fault
  pub refused : IsRefused number count (numbered segments) fault
  pub is : refusal ≡ refusals.Connection fault

-- a device failed, or there was no memory, at the packet of this number
abbrev pub IsUpset : Refusal → ℕ → Type 0
IsUpset refusal number =
    (refusal ≡ refusals.File (record { kind = kinds.Device; packet = number }))
    ⊎ (refusal ≡ refusals.File (record { kind = kinds.Memory; packet = number }))
    ⊎ (refusal ≡ refusals.Memory number)

-- These octets begin with packets, none of which is refused, and at the next one a device failed,
-- or there was no memory.
pub record IsInterrupted (selection : Selection) (octets : List ℕ) (refusal : Refusal)
    : Type 0 where
  pub front : List ℕ
  pub rest : List ℕ
  pub packets : List Recorded
  pub segments : List Segment
  pub after : Context
  pub whole : octets ≡ front ++ rest
  pub read : HasRead Start front packets after
  pub taken : AreTaken selection 0 packets segments
  pub upset : IsUpset refusal (length packets + 1)

-- whatever follows on these octets, which is nothing where the source has ended, the recording is
-- refused so
abbrev pub IsRefusedBy : Selection → List ℕ → Bool → Refusal → Type 0
IsRefusedBy selection octets ended refusal =
    (more : List ℕ) → (IsTrue ended → more ≡ [])
    → IsPassageRefused selection (octets ++ more) refusal

-- What is gathered of a source that goes from `old` to `new`. The members are the source's.
module _ {S : Type 0} (gives : S → S → List ℕ → Type 0) (has_ended : S → Bool)
    (selection : Selection) (old new : S) where
  -- The octets that were given are all of the recording, and these packets, whether it is whole or
  -- was cut short; and these are their segments of the session.
  pub record HasReadAll (octets : List ℕ) (packets : List Recorded) (segments : List Segment)
      (cut : Bool) : Type 0 where
    pub exactly : gives old new octets
    pub ended : IsTrue (has_ended new)
    pub spells : Spells octets packets cut
    pub taken : AreTaken selection 0 packets segments

  -- it was read to its end
  pub record IsGathered {Z : Type 0} (gathered : Gathered Z) : Type 0 where
    pub octets : List ℕ
    pub packets : List Recorded
    pub segments : List Segment
    pub cut : Bool
    pub all : HasReadAll octets packets segments cut
    pub holds : HoldsSession (reverse segments) (length packets) gathered
    pub is_cut : gathered.is_cut_short ≡ cut

  -- or refused, by the octets that were given so far
  pub record IsStopped (refusal : Refusal) : Type 0 where
    pub octets : List ℕ
    pub exactly : gives old new octets
    pub why : IsRefusedBy selection octets (has_ended new) refusal
        ⊎ IsInterrupted selection octets refusal

  abbrev pub Gathers : {Z : Type 0} → Result (Gathered Z) Refusal → Type 0
  Gathers (Ok gathered) = IsGathered gathered
  Gathers (Err refusal) = IsStopped refusal

-- how many failures of the source a refusal is: one where a device failed
abbrev pub failures_by : Refusal → ℕ
failures_by (refusals.File fault) = device_count fault.kind
failures_by (refusals.Packet fault number) = 0
failures_by (refusals.Connection fault) = 0
failures_by (refusals.Memory number) = 0
failures_by (refusals.RouteRefresh number from place) = 0

abbrev pub failures_in : {X : Type 0} → Result X Refusal → ℕ
failures_in (Ok answer) = 0
failures_in (Err refusal) = failures_by refusal
