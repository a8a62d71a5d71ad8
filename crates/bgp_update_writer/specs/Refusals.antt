-- What keeps an update from being written, and the numbers of that.
use Rattle.std.specs.Prelude.{◌≡◌, ◌<◌, ℕ, All, IsTrue, length}
use Rattle.bgp_prefix.specs.declared.family.Family.{Family}
use Rattle.bgp_prefix.specs.declared.family.Family.TheVariants as families
use Rattle.bgp_open.specs.declared.link.Link.{Link}
use Rattle.bgp_open.specs.Families.{contains}
use Rattle.bgp_path.specs.declared.path.NextHop.{NextHop}
use Rattle.bgp_path.specs.declared.path.NextHop.TheVariants as hops
use Rattle.bgp_attr.specs.ReadBack.{IsForPeer}
use Rattle.bgp_update.specs.Clean.{most_octets}
use Rattle.bgp_update.specs.Found.{side_of}
use Rattle.bgp_update_writer.specs.declared.update.UpdateFault.{UpdateFault}
use Rattle.bgp_update_writer.specs.declared.update.UpdateFault.TheVariants as faults
use Rattle.bgp_update_writer.specs.Update.{UpdateValue, Announces, Withdraws, family_of_update}
use Rattle.bgp_update_writer.specs.Written.{update_octets}

-- the session exchanges routes of the family
abbrev pub IsFamilyUsed : Link → UpdateValue → Type 0
IsFamilyUsed link value = IsTrue (contains link.families (family_of_update value))

-- the next hop of an announcement has 4 octets for IPv4, and 16 or 32 for IPv6 (RFC 4271, 5.1.3;
-- RFC 2545, 3)
abbrev pub IsHopOf : Family → NextHop → Type 0
IsHopOf families.V4 (hops.V4 address) = Unit {0}
IsHopOf families.V4 (hops.V6 address) = ⊥
IsHopOf families.V4 (hops.V6WithLinkLocal address link_local) = ⊥
IsHopOf families.V6 (hops.V4 address) = ⊥
IsHopOf families.V6 (hops.V6 address) = Unit {0}
IsHopOf families.V6 (hops.V6WithLinkLocal address link_local) = Unit {0}

-- what is sent has path identifiers before the prefixes of the family (RFC 7911, 3), which aren't
-- written here yet
abbrev pub WantsIdentifiers : Link → UpdateValue → Type 0
WantsIdentifiers link value = IsTrue (contains link.sent.identified (family_of_update value))

-- each prefix is of the family, and so is the next hop, and the path may be sent to this peer: it
-- would discard no attribute, and no large community stands twice
abbrev pub IsTakenAsMeant : Link → UpdateValue → Type 0
IsTakenAsMeant link (Announces family prefixes path) =
    All (λ prefix. prefix.family ≡ family) prefixes
    × IsHopOf family path.next_hop × IsForPeer (side_of link) path
IsTakenAsMeant link (Withdraws family prefixes) = All (λ prefix. prefix.family ≡ family) prefixes

-- it may be sent
abbrev pub IsSendable : Link → UpdateValue → Type 0
IsSendable link value = (¬ WantsIdentifiers link value) × IsTakenAsMeant link value

-- it has more octets than an UPDATE may have on the link (RFC 4271, 4.1; RFC 8654, 4)
abbrev pub IsTooLarge : Link → UpdateValue → Type 0
IsTooLarge link value = most_octets link < length (update_octets link value)

-- the numbers of the refusals
abbrev pub update_number : UpdateFault → ℕ
update_number faults.TooLarge = 1
update_number faults.FamilyNotInUse = 2
update_number faults.NotClean = 3
update_number faults.Memory = 4
