use Rattle.std.proofs.Common.{◌≡◌, ◌⊎◌, ℕ, List}
use Rattle.std.specs.BTreeMap.{is_at}
use Rattle.std.specs.Map.{lookup}
use Rattle.packets.specs.Packet.{Recorded}
use Rattle.segments.specs.contracts.found.AddressesOrd.TheImpl as order
use Rattle.segments.specs.declared.found.Addresses.{Addresses}
use Rattle.bgp_import.specs.Listed.{AreListed, IsPlaceOf}
use Rattle.bgp_import.specs.Pairs.{AreOrdered}
use Rattle.bgp_import.specs.Places.{HasEach}
use Rattle.bgp_import.specs.Talks.{HoldsEach, HoldsSome, talk_at}
use Rattle.bgp_import.proofs.listed.listed_in.Given as goal

-- what there is to tell of the addresses so far is listed
abbrev pub invariant-loop-addresses : goal.invariant-loop-addresses
invariant-loop-addresses g l = record {
  listed : (port : ℕ) (packets : List Recorded) → HoldsSome port packets l.talks → AreListed port packets l.listed.entries;
  all : (port : ℕ) (packets : List Recorded) → HoldsEach port packets l.talks → (q : Addresses) → AreOrdered q
      → (lookup (is_at (order.ghosts.cmp q)) l.addresses-iterator ≡ talk_at l.talks q) ⊎ HasEach port packets (IsPlaceOf l.listed) q;
}
