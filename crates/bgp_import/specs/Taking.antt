-- What taking packets one after another comes to.
use Rattle.std.specs.Prelude.{◌≡◌, ◌⊎◌, ℕ, Bool, List, length, reverse}
use Rattle.std.specs.Prelude.{Result, Ok, Err}
use Rattle.packets.specs.Packet.{Recorded}
use Rattle.segments.specs.declared.fault.PacketFault.{PacketFault}
use Rattle.streams.specs.Passed.{Segment}
use Rattle.streams.specs.Held.{HoldsConnections}
use Rattle.streams.specs.declared.connections.Connections.{Connections}
use Rattle.bgp_import.specs.Gathers.{HasReadAll, IsStopped}
use Rattle.bgp_import.specs.Selecting.{IsPacketRefused}
use Rattle.bgp_import.specs.declared.refusal.Refusal.{Refusal}
use Rattle.bgp_import.specs.declared.refusal.Refusal.TheVariants as refusals
use Rattle.bgp_import.specs.declared.selection.Selection.{Selection}

-- the packet of this number is refused; or there was no memory for its segment
abbrev pub IsNotTaken : Selection → ℕ → Recorded → Refusal → Type 0
IsNotTaken selection number packet refusal =
    ((fault : PacketFault) × IsPacketRefused selection packet fault
    × (refusal ≡ refusals.Packet fault number))
    ⊎ (refusal ≡ refusals.Memory number)

module _ {S : Type 0} (gives : S → S → List ℕ → Type 0) (has_ended : S → Bool)
    (selection : Selection) (old new : S) where
  -- all were taken, so many, of a recording that is whole or was cut short, and these connections
  -- are held of them
  pub record HasTakenAll {Z : Type 0} (connections : Connections Z) (count : ℕ) (cut : Bool)
      : Type 0 where
    pub octets : List ℕ
    pub packets : List Recorded
    pub segments : List Segment
    pub all : HasReadAll gives has_ended selection old new octets packets segments cut
    pub holds : HoldsConnections (reverse segments) connections
    pub many : count ≡ length packets

  abbrev pub TakesAll : {Z : Type 0} → Connections Z → ℕ → Bool → Result (Unit {0}) Refusal
      → Type 0
  TakesAll connections count cut (Ok done) = HasTakenAll connections count cut
  TakesAll connections count cut (Err refusal) =
      IsStopped gives has_ended selection old new refusal
