-- The parts of the value of an MP attribute, whatever its family is (RFC 4760, 3 and 4).
use Rattle.std.specs.Prelude.{ℕ, ◌+◌, nat_lt, List, if◌then◌else◌, length, take, drop, slice_index}
use Rattle.std.specs.Prelude.{Option, None, Some}
use Rattle.byteorder.specs.Endian.{big_number}
use Rattle.bgp_update.specs.declared.mp_parts.ReachParts as reach
use Rattle.bgp_update.specs.declared.mp_parts.UnreachParts as unreach

-- AFI in two octets, SAFI in one, the length of the next hop and the next hop, a reserved octet,
-- which means nothing, and the destinations to the end
pub record ReachFields : Type 0 where
  pub afi : ℕ
  pub safi : ℕ
  pub next_hop : List ℕ
  pub reserved : ℕ
  pub nlri : List ℕ

-- AFI, SAFI, and the destinations to the end
pub record UnreachFields : Type 0 where
  pub afi : ℕ
  pub safi : ℕ
  pub withdrawn : List ℕ

-- the fields of MP_REACH_NLRI: none if the value is too short for them
abbrev pub reach_fields : List ℕ → Option ReachFields
reach_fields value =
    if nat_lt (length value) (5 + slice_index value 3)
    then None
    else Some (record {
      afi = big_number 2 value;
      safi = slice_index value 2;
      next_hop = take (slice_index value 3) (drop 4 value);
      reserved = slice_index value (4 + slice_index value 3);
      nlri = drop (5 + slice_index value 3) value;
    })

-- the fields of MP_UNREACH_NLRI: none if the value is too short for them
abbrev pub unreach_fields : List ℕ → Option UnreachFields
unreach_fields value =
    if nat_lt (length value) 3
    then None
    else Some (record {
      afi = big_number 2 value;
      safi = slice_index value 2;
      withdrawn = drop 3 value;
    })

-- what the parts that were read are to a contract
abbrev pub reach_of : reach.ReachParts → ReachFields
reach_of parts = record {
  afi = parts.afi;
  safi = parts.safi;
  next_hop = parts.next_hop.now;
  reserved = parts.reserved;
  nlri = parts.nlri.now;
}

abbrev pub unreach_of : unreach.UnreachParts → UnreachFields
unreach_of parts = record {
  afi = parts.afi;
  safi = parts.safi;
  withdrawn = parts.withdrawn.now;
}
