-- What is read of a recording: its packets, up to its end or to what keeps it from being read on.
use Rattle.std.specs.Prelude.{◌≡◌, ◌⊎◌, ◌+◌, ◌++◌, ℕ, Bool, List, [], ◌∷◌, Option, None, Some}
use Rattle.std.specs.Prelude.{Result, IsTrue, length}
use Rattle.std.specs.List.{AllByRecursion}
use Rattle.std.specs.Result.{result_err}
use Rattle.packets.specs.Context.{Context, Start}
use Rattle.packets.specs.Packet.{Recorded}
use Rattle.packets.specs.Reader.{Describes, HasRead}
use Rattle.packets.specs.Recording.{IsBegun, IsFirstFault, Spells}
use Rattle.packets.specs.declared.fault.FaultKind.{FaultKind}
use Rattle.packets.specs.declared.fault.FaultKind.TheVariants as kinds
use Rattle.segments.specs.Found.{found_in}
use Rattle.segments.specs.Segment.{UnknownLink}
use Rattle.segments.specs.declared.fault.PacketFault.TheVariants as faults
use Rattle.bgp_import.specs.Gathers.{cut_short_by, failures_by}
use Rattle.bgp_import.specs.declared.cut_short.CutShort.{CutShort}
use Rattle.bgp_import.specs.declared.refusal.Refusal.{Refusal}
use Rattle.bgp_import.specs.declared.refusal.Refusal.TheVariants as refusals
use Rattle.bgp_import.specs.Talks.{HoldsEach, HoldsSome, IsLinkKnown}
use Rattle.bgp_import.specs.Wrapped.{AreCounted}
use Rattle.bgp_import.specs.declared.talks.Talks.{Talks}

-- these octets begin with these packets, and what is left is such where they end
pub record Begins (octets : List ℕ) (packets : List Recorded) (Is : Context → List ℕ → Type 0)
    : Type 0 where
  pub front : List ℕ
  pub rest : List ℕ
  pub after : Context
  pub whole : octets ≡ front ++ rest
  pub read : HasRead Start front packets after
  pub is : Is after rest

-- they are these packets, and no more
abbrev pub AreAll : List ℕ → List Recorded → Type 0
AreAll octets packets = Begins octets packets (λ after rest. rest ≡ [])

-- whatever follows on these octets, which is nothing where the source has ended, the file is
-- refused after these packets
abbrev pub IsFaulty : List ℕ → Bool → List Recorded → FaultKind → Type 0
IsFaulty octets ended packets kind =
    (more : List ℕ) → (IsTrue ended → more ≡ [])
    → IsFirstFault (octets ++ more) packets kind

-- The file is refused after these packets; or a device failed within what begins there; or there
-- was no memory for the buffer, before anything was read, or for an interface that is described
-- there; or the link of the next packet is unknown; or there was no memory for it.
abbrev pub IsCut : List ℕ → Bool → List Recorded → Refusal → Type 0
IsCut octets ended packets (refusals.File fault) =
    (fault.packet ≡ length packets + 1)
    × (IsFaulty octets ended packets fault.kind
    ⊎ ((fault.kind ≡ kinds.Device) × Begins octets packets IsBegun)
    ⊎ ((fault.kind ≡ kinds.Memory)
    × Begins octets packets (λ after rest. (packets ≡ []) ⊎ Describes after rest)))
IsCut octets ended packets (refusals.Packet fault number) =
    (number ≡ length packets + 1)
    × ((packet : Recorded) × (link_type : ℕ) × (fault ≡ faults.Link link_type)
    × (found_in packet.link_type packet.octets ≡ UnknownLink link_type)
    × AreAll octets (packets ++ packet ∷ []))
IsCut octets ended packets (refusals.Memory number) =
    (number ≡ length packets + 1)
    × ((packet : Recorded) × AreAll octets (packets ++ packet ∷ []))
IsCut octets ended packets (refusals.Connection fault) = ⊥
IsCut octets ended packets (refusals.RouteRefresh number from place) = ⊥

-- none of them is of a link whose type is unknown
abbrev pub AreKnown : List Recorded → Type 0
AreKnown packets = AllByRecursion IsLinkKnown packets

-- These packets are read of a source that goes from `old` to `new`: they are all of the file,
-- whether it is whole or was cut short, where nothing kept it from being read on. The members are
-- the source's.
module _ {S : Type 0} (gives : S → S → List ℕ → Type 0) (has_ended : S → Bool) (old new : S) where
  abbrev pub IsReadBy : List ℕ → List Recorded → Bool → Option Refusal → Type 0
  IsReadBy octets packets short None = IsTrue (has_ended new) × Spells octets packets short
  IsReadBy octets packets short (Some refusal) = IsCut octets (has_ended new) packets refusal

  pub record IsReadTo (packets : List Recorded) (short : Bool) (stopped : Option Refusal) : Type 0
    where
      pub octets : List ℕ
      pub exactly : gives old new octets
      pub is : IsReadBy octets packets short stopped
      pub known : AreKnown packets

-- that the file was cut short, after so many packets, is told where it was read so far
abbrev pub cut_short_at : ℕ → Bool → Option Refusal → Option CutShort
cut_short_at count short None = cut_short_by short count
cut_short_at count short (Some refusal) = None

-- how many packets were looked at: one more where the next one was of no use
abbrev pub looked_at : List Recorded → Option Refusal → ℕ
looked_at packets None = length packets
looked_at packets (Some (refusals.File fault)) = length packets
looked_at packets (Some (refusals.Packet fault number)) = number
looked_at packets (Some (refusals.Memory number)) = number
looked_at packets (Some (refusals.Connection fault)) = length packets
looked_at packets (Some (refusals.RouteRefresh number from place)) = length packets

-- memory was refused
abbrev pub IsMemory : Option Refusal → Type 0
IsMemory None = ⊥
IsMemory (Some (refusals.Memory number)) = Unit {0}
IsMemory (Some (refusals.File fault)) = ⊥
IsMemory (Some (refusals.Packet fault number)) = ⊥
IsMemory (Some (refusals.Connection fault)) = ⊥
IsMemory (Some (refusals.RouteRefresh number from place)) = ⊥

-- how many failures of the source that is: one where a device failed
abbrev pub failures_of : Option Refusal → ℕ
failures_of None = 0
failures_of (Some refusal) = failures_by refusal

-- What taking all packets comes to. How many are wrapped is told where they were read to the end.
pub record TakesAll {S Z : Type 0} (gives : S → S → List ℕ → Type 0) (has_ended : S → Bool)
    (port : ℕ) (old new : S) (talks : Talks Z) (count : ℕ) (short : Bool)
    (taken : Result (Unit {0}) Refusal) : Type 0 where
  pub packets : List Recorded
  pub read : IsReadTo gives has_ended old new packets short (result_err taken)
  pub some : HoldsSome port packets talks
  pub all : ¬ IsMemory (result_err taken) → HoldsEach port packets talks
  pub many : count ≡ looked_at packets (result_err taken)
  pub wrapped : result_err taken ≡ None → AreCounted packets talks.wrapped
