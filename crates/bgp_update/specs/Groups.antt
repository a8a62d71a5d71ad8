-- The groups in which an UPDATE puts routes (RFC 4271, 4.3; RFC 4760, 3): those of the NLRI field
-- share a path, and those of MP_REACH_NLRI share another.
use Rattle.std.specs.Prelude.{◌≡◌, ◌⊎◌, ◌++◌, ℕ, List, [], ◌∷◌, Option, None, Some}
use Rattle.bgp_update.specs.declared.destination.Destination.{Destination}
use Rattle.bgp_open.specs.declared.link.Link.{Link}
use Rattle.bgp_update.specs.declared.outcomes.Changes.{Changes}
use Rattle.bgp_update.specs.declared.outcomes.Put.{Put}
use Rattle.bgp_update.specs.Changes.{base_destinations, mp_destinations}
use Rattle.bgp_update.specs.Found.{Found, found}
use Rattle.bgp_update.specs.Sections.{Sections, IsUpdate}

-- destinations as a group, which isn't there where they are none
abbrev pub group_with : List Destination → List (List Destination)
group_with [] = []
group_with (destination ∷ destinations) = (destination ∷ destinations) ∷ []

-- those that are announced: the NLRI field is a group, and MP_REACH_NLRI is another
abbrev pub announced_groups : Link → Found → List (List Destination)
announced_groups link x =
    group_with (base_destinations link x.nlri) ++ group_with (mp_destinations x.reach.state)

-- these are the groups, or routes are withdrawn for a fault and there is none
abbrev pub AreGroupsBy : Link → Found → List (List Destination) → Type 0
AreGroupsBy link x groups = (groups ≡ announced_groups link x) ⊎ (groups ≡ [])

-- the octets are an UPDATE, and these are its groups
abbrev pub AreGroups : Link → List ℕ → List (List Destination) → Type 0
AreGroups link octets groups =
    (s : Sections) × IsUpdate octets s × AreGroupsBy link (found link s) groups

-- the destinations of a group
abbrev pub group_destinations : {X : Type 0} → Put X → List Destination
group_destinations p = p.destinations.items

-- a group that may not be there
abbrev pub group_if : {X : Type 0} → Option (Put X) → List (List Destination)
group_if None = []
group_if (Some p) = group_destinations p ∷ []

-- the groups of changes
abbrev pub groups_of : {X : Type 0} → Changes X → List (List Destination)
groups_of c = group_if c.nlri ++ group_if c.mp_reach_nlri
