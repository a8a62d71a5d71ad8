-- What is written for a path is read back as it.
use Rattle.std.specs.Prelude.{◌≡◌, ◌⊎◌, All, IsTrue, false, [], None, Some}
use Rattle.bgp_attr.specs.declared.classes.AttrVerdict.TheVariants.{Good}
use Rattle.bgp_attr.specs.declared.classes.Side.{Side}
use Rattle.bgp_attr.specs.declared.types.AttrType.{AttrType}
use Rattle.std.specs.List.{IsDistinct}
use Rattle.bgp_path.specs.Fit.{IsFit}
use Rattle.bgp_path.specs.LargeCommunities.{same_large_community}
use Rattle.bgp_path.specs.Path.{PathValue}
use Rattle.bgp_attr.specs.Class.{class_of}
use Rattle.bgp_attr.specs.First.{first_of, has_repeats, value_among}
use Rattle.bgp_attr.specs.PathFrom.{path_from}
use Rattle.bgp_attr.specs.Types.{type_number}
use Rattle.bgp_attr.specs.Writing.{attribute_in, path_attributes}

-- an external peer is sent no LOCAL_PREF, ORIGINATOR_ID and CLUSTER_LIST, which it would discard
-- (RFC 4271, 5.1.5; RFC 4456, 8), and no peer a large community twice (RFC 8092, 3)
abbrev pub IsForPeer : Side → PathValue → Type 0
IsForPeer side p =
    (IsTrue side.internal
    ⊎ ((p.local_pref ≡ None) × (p.originator_id ≡ None) × (p.cluster_list ≡ [])))
    × IsDistinct same_large_community p.large_communities

-- of what is written for a path each attribute is Good, each type stands once, the first of a type
-- is the one that was written, and the path is read back
abbrev pub ReadsBack : Type 0
ReadsBack =
    (side : Side) (p : PathValue) → IsFit p → IsForPeer side p
    → All (λ a. class_of side a ≡ Some Good) (path_attributes side p)
    × (has_repeats (path_attributes side p) ≡ false)
    × ((t : AttrType) → first_of (type_number t) (path_attributes side p) ≡ attribute_in side p t)
    × (path_from side (value_among side (path_attributes side p)) p.next_hop ≡ p)
