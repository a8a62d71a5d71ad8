-- An UPDATE has its path attributes in one way.
use Rattle.std.proofs.Common.{◌≡◌, ◌↔◌, Bool, IsTrue, ℕ, List, subst, sym}
use Rattle.bgp_attr.specs.First.{first_of}
use Rattle.bgp_attr.specs.Split.{attributes_of}
use Rattle.bgp_attr.specs.Types.{type_number}
use Rattle.bgp_attr.specs.declared.types.AttrType.TheVariants.{AsPath}
use Rattle.bgp_update.specs.Sections.{IsUpdate, Sections}
use Rattle.bgp_update.proofs.OneSplit.{one_split}
use Rattle.bgp_parts.specs.Confederations.{HasConfederation, is_path_in_one}

-- its first AS_PATH begins with a segment of a confederation
abbrev is_in_one : Sections → Bool
is_in_one s = is_path_in_one (first_of (type_number AsPath) (attributes_of s.attributes))

pub has_by : (octets : List ℕ) (s : Sections) (found : Bool) → IsUpdate octets s
    → found ≡ is_path_in_one (first_of (type_number AsPath) (attributes_of s.attributes))
    → IsTrue found ↔ HasConfederation octets
has_by octets s found update is = (
  λ yes. record { sections = s; update = update; path = subst IsTrue is yes },
  λ has. subst IsTrue (sym is) (subst (λ (t : Sections). IsTrue (is_in_one t)) (one_split octets has.sections s has.update update) has.path),
)
