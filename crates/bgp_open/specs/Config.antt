-- When parts make a configuration of the local system.
use Rattle.std.specs.Prelude.{◌≡◌, ◌≢◌, ◌<◌, ◌^◌, ◌==◌, ◌⊎◌, Bool, false, IsTrue, ℕ}
use Rattle.bgp_wire.specs.AsNumber.{needs_four_octets}
use Rattle.bgp_open.specs.Families.{IsEmpty}
use Rattle.bgp_open.specs.RouteOffer.{nothing}
use Rattle.bgp_open.specs.declared.config.ConfigParts.{ConfigParts}

-- the peer is internal: both AS numbers are equal (RFC 4271, 1.1)
abbrev pub is_internal : ConfigParts → Bool
is_internal parts = parts.local_as == parts.peer_as

-- the same parts, but that nothing is offered about routes
abbrev pub offering_nothing : ConfigParts → ConfigParts
offering_nothing parts = record {
  local_as = parts.local_as;
  peer_as = parts.peer_as;
  local_id = parts.local_id;
  hold = parts.hold;
  families = parts.families;
  as4 = parts.as4;
  delay_open = parts.delay_open;
  large_hold = parts.large_hold;
  session = parts.session;
  offers = nothing;
}

-- a Hold Time that none may have: it is to be 0 or at least 3 seconds (RFC 4271, 4.2)
abbrev pub IsBadHold : ℕ → Type 0
IsBadHold hold = (hold ≡ 1) ⊎ (hold ≡ 2)

-- two octets can hold both AS numbers (RFC 6793, 1)
abbrev pub HaveTwoOctets : ConfigParts → Type 0
HaveTwoOctets parts =
    (¬ IsTrue (needs_four_octets parts.local_as)) × (¬ IsTrue (needs_four_octets parts.peer_as))

-- AS numbers and the BGP Identifier aren't 0 (RFC 7607, 2; RFC 6286, 2.1), the Hold Time may be
-- proposed, a family is offered, the time for which the peer's OPEN is waited for isn't 0
-- (RFC 4271, 8.2.2), and without four-octet AS numbers both AS numbers have two octets
-- (RFC 6793, 1)
pub record IsConfig (parts : ConfigParts) : Type 0 where
  pub local_as : parts.local_as ≢ 0
  pub peer_as : parts.peer_as ≢ 0
  pub local_id : parts.local_id ≢ 0
  pub hold : ¬ IsBadHold parts.hold
  pub families : ¬ IsEmpty parts.families
  pub large_hold : parts.large_hold ≢ 0
  pub two_octets : parts.as4 ≡ false → HaveTwoOctets parts

-- each number is one that its field in code can hold: 32 bits, or 16 for the Hold Time
pub record AreNumbers (parts : ConfigParts) : Type 0 where
  pub local_as : parts.local_as < 2 ^ 32
  pub peer_as : parts.peer_as < 2 ^ 32
  pub local_id : parts.local_id < 2 ^ 32
  pub hold : parts.hold < 2 ^ 16
  pub large_hold : parts.large_hold < 2 ^ 32
