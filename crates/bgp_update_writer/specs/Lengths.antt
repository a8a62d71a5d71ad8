-- How many octets the fields of an UPDATE that is written have.
use Rattle.std.specs.Prelude.{◌≡◌, ◌≤◌, ◌+◌, ℕ, List, [], length}
use Rattle.bgp_prefix.specs.declared.family.Family.TheVariants as families
use Rattle.bgp_open.specs.declared.link.Link.{Link}
use Rattle.bgp_update.specs.Clean.{most_octets}
use Rattle.bgp_update_writer.specs.declared.lengths.Lengths.{Lengths}
use Rattle.bgp_update_writer.specs.Applied.{IsFitUpdate}
use Rattle.bgp_update_writer.specs.Update.{UpdateValue, Announces, Withdraws}
use Rattle.bgp_update_writer.specs.Written.{reach_octets, unreach_octets, withdrawn_octets}
use Rattle.bgp_update_writer.specs.Written.{announced_octets, field_octets}

-- the value of its MP attribute, where there is one
abbrev pub mp_octets : UpdateValue → List ℕ
mp_octets (Announces families.V4 prefixes path) = []
mp_octets (Announces families.V6 prefixes path) = reach_octets path.next_hop prefixes
mp_octets (Withdraws families.V4 prefixes) = []
mp_octets (Withdraws families.V6 prefixes) = unreach_octets prefixes

pub record AreLengths (link : Link) (value : UpdateValue) (lengths : Lengths) : Type 0 where
  pub withdrawn : lengths.withdrawn ≡ length (withdrawn_octets value)
  pub mp_value : lengths.mp_value ≡ length (mp_octets value)
  pub attributes : lengths.attributes ≡ length (field_octets link value)
  pub nlri : lengths.nlri ≡ length (announced_octets value)
  pub room : 23 + lengths.withdrawn + lengths.attributes + lengths.nlri ≤ most_octets link
  pub fits : IsFitUpdate value
