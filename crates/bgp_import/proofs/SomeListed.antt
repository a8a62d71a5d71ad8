-- Where something isn't listed, there is something to tell of.
use Rattle.std.proofs.Common.{◌≡◌, ℕ, List, Option, Some, inl, inr, reverse, subst}
use Rattle.packets.specs.Packet.{Recorded}
use Rattle.segments.specs.declared.fault.PacketFault.{PacketFault}
use Rattle.segments.specs.declared.found.Addresses.{Addresses}
use Rattle.streams.specs.Held.{HoldsConnections}
use Rattle.streams.specs.Passed.{Segment}
use Rattle.streams.specs.declared.connections.Connections.{Connections}
use Rattle.bgp_import.specs.Pairs.{selection_of}
use Rattle.bgp_import.specs.Places.{HasEach, IsNumber}
use Rattle.bgp_import.specs.Talks.{HoldsAll, HoldsBy, IsRefusedAt}
use Rattle.bgp_import.proofs.Alone.{same_taken, taken_not_refused}

-- of two addresses for which a packet is refused
pub some_refused : {Z : Type 0} (port : ℕ) (packets : List Recorded) (q : Addresses) (connections : Connections Z) (refusal : Option (PacketFault × ℕ)) (fault : PacketFault) (number : ℕ)
    → refusal ≡ Some (fault, number) → HoldsBy port packets q connections refusal → ¬ HasEach port packets (λ place. ⊥) q
some_refused port packets q connections refusal fault number is h (inl theirs) =
    let at : IsRefusedAt port packets q fault number = subst (λ (r : Option (PacketFault × ℕ)). HoldsBy port packets q connections r) is h in
    taken_not_refused (selection_of q port) at.front at.later packets at.packet theirs.segments fault at.whole theirs.taken at.refused
some_refused port packets q connections refusal fault number is h (inr refused) = refused.is_place

-- and of those that have a connection
pub some_connection : {Z : Type 0} (port : ℕ) (packets : List Recorded) (q : Addresses) (connections : Connections Z) → HoldsAll port packets q connections
    → ((segments : List Segment) → HoldsConnections (reverse segments) connections → (number : ℕ) × IsNumber segments number) → ¬ HasEach port packets (λ place. ⊥) q
some_connection port packets q connections all some (inl theirs) =
    let same : all.segments ≡ theirs.segments = same_taken (selection_of q port) 0 packets all.segments theirs.segments all.taken theirs.taken in
    let (number, is) = some all.segments all.holds in
    theirs.each number (subst (λ (s : List Segment). IsNumber s number) same is)
some_connection port packets q connections all some (inr refused) = refused.is_place
