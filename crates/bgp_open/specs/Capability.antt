-- Capabilities as code has them (RFC 5492, 4), and what they say.
use Rattle.std.specs.Prelude.{ℕ, List, map}
use Rattle.bgp_open.specs.Triplet.{Triplet}
use Rattle.bgp_open.specs.Open.{OpenFields}
use Rattle.bgp_open.specs.declared.triplet.RawTriplet.{RawTriplet}
use Rattle.bgp_open.specs.declared.capability.Capability.{Capability}

-- what borrowed octets of a triplet say
abbrev pub triplet_of : RawTriplet → Triplet
triplet_of triplet = record { code = triplet.code; value = triplet.value.now }

-- what a capability says
abbrev pub capability_of : Capability → Triplet
capability_of capability = record { code = capability.code; value = capability.value.now }

-- what an OPEN with these fields and capabilities says
abbrev pub said : ℕ → ℕ → ℕ → List Capability → OpenFields
said my_as hold id capabilities = record {
  my_as = my_as;
  hold = hold;
  id = id;
  capabilities = map capability_of capabilities;
}
