-- Each destination that is removed or put has an identifier by the form in which it was received.
use Rattle.std.proofs.Common.{◌≡◌, ◌++◌, ℕ, Bool, true, false, List, [], ◌∷◌, All, Option, None, Some, is_some, refl, sym, ap, subst, ◌∙◌, inl, inr}
use Rattle.std.proofs.lemmas.Bool.{cases_Bool}
use Rattle.std.proofs.lemmas.List.Elements.{All-nil, All-cons, All-append, All-map}
use Rattle.bgp_open.specs.Family.{Family}
use Rattle.bgp_open.specs.Family.TheVariants.{V4}
use Rattle.bgp_open.specs.declared.link.Link.{Link}
use Rattle.bgp_open.specs.declared.route_form.RouteForm.{RouteForm}
use Rattle.bgp_open.specs.Families.{contains}
use Rattle.bgp_attr.specs.Path.{PathValue}
use Rattle.bgp_attr.specs.declared.types.AttrType.TheVariants as types
use Rattle.bgp_attr.specs.First.{first_by_type}
use Rattle.bgp_attr.specs.Split.{attributes_of}
use Rattle.bgp_update.specs.declared.destination.Destination.{Destination}
use Rattle.bgp_update.specs.Destinations.{AreDestinations, destinations_of, is_identified, path_at}
use Rattle.bgp_update.specs.Changes.{Route, announcements, base_destinations, base_hop, destinations_among, mp_hop, mp_destinations, path_with, routes_with, withdrawals}
use Rattle.bgp_update.specs.Found.{found}
use Rattle.bgp_update.specs.Laws.{IsDestinationOf, DestinationsAreOf, DestinationsAreByForm}
use Rattle.bgp_update.specs.Mp.{Mp, Absent, Cut, Other, Unused, Broken, Sound}
use Rattle.bgp_update.specs.MpValue.{Contents, reach_contents, unreach_contents}
use Rattle.bgp_update.specs.Sections.{Sections}
use Rattle.bgp_update.proofs.DestinationLists.{reads_destinations}
use Rattle.bgp_update.proofs.MpValues.{reads_mp_values}
use Rattle.bgp_update.proofs.NextHops.{IsRead, was_read}

abbrev AreOf : RouteForm → List Destination → Type 0
AreOf form destinations = All (IsDestinationOf form) destinations

-- ---- the destinations of a field

named : (identified : Bool) (octets : List ℕ) → is_some (path_at identified octets) ≡ identified
named true octets = refl
named false octets = refl

each_of : (form : RouteForm) (family : Family) (octets : List ℕ) (destinations : List Destination) → AreDestinations (is_identified form family) family octets destinations → AreOf form destinations
each_of form family octets [] are = All-nil (IsDestinationOf form)
each_of form family octets (d ∷ rest) (n, begins, are) =
    All-cons (IsDestinationOf form) d rest
    (ap is_some begins.path ∙ named (is_identified form family) octets ∙ ap (is_identified form) (sym begins.prefix.of_family))
    (each_of form family _ rest are)

base_of : (form : RouteForm) (link : Link) (octets : List ℕ) → AreOf form (base_destinations link (destinations_of (is_identified form V4) V4 octets))
base_of form link octets = go (destinations_of (is_identified form V4) V4 octets) refl
  where
    go : (read : Option (List Destination)) → destinations_of (is_identified form V4) V4 octets ≡ read → AreOf form (base_destinations link read)
    go None e = All-nil (IsDestinationOf form)
    go (Some destinations) e = elim (cases_Bool (contains link.families V4)) [
      | inl used ↦ rw used (each_of form V4 octets destinations ((reads_destinations (is_identified form V4) V4 octets destinations).1 e))
      | inr other ↦ rw other (All-nil (IsDestinationOf form))
    ]

mp_of : (form : RouteForm) (state : Mp) → ((family : Family) (contents : Contents) → state ≡ Sound family contents → AreOf form contents.destinations) → AreOf form (mp_destinations state)
mp_of form Absent each = All-nil (IsDestinationOf form)
mp_of form Cut each = All-nil (IsDestinationOf form)
mp_of form Other each = All-nil (IsDestinationOf form)
mp_of form (Unused family) each = All-nil (IsDestinationOf form)
mp_of form (Broken family) each = All-nil (IsDestinationOf form)
mp_of form (Sound family contents) each = each family contents refl

reach_of : (form : RouteForm) (family : Family) (contents : Contents) → IsRead (reach_contents form) family contents → AreOf form contents.destinations
reach_of form family contents r =
    let v = (reads_mp_values.reach form family r.value contents).1 r.is in
    each_of form family v.nlri contents.destinations v.destinations

unreach_of : (form : RouteForm) (family : Family) (contents : Contents) → IsRead (unreach_contents form) family contents → AreOf form contents.destinations
unreach_of form family contents r =
    let v = (reads_mp_values.unreach form family r.value contents).1 r.is in
    each_of form family _ contents.destinations v.destinations

-- ---- those of an UPDATE

abbrev IsOf : RouteForm → Route → Type 0
IsOf form route = IsDestinationOf form route.destination

routes_of : (form : RouteForm) (path : PathValue) (destinations : List Destination) → AreOf form destinations → All (IsOf form) (routes_with path destinations)
routes_of form path destinations each = All-map (IsOf form) (λ (d : Destination). record { destination = d; path = path }) destinations each

withdrawals_of : (link : Link) (s : Sections) → AreOf link.received (withdrawals link (found link s))
withdrawals_of link s =
    let x = found link s in
    All-append (IsDestinationOf link.received) (base_destinations link x.withdrawn) (mp_destinations x.unreach.state) (base_of link.received link s.withdrawn)
    (mp_of link.received x.unreach.state
    (λ family contents is. unreach_of link.received family contents
    (was_read (unreach_contents link.received) link.families (first_by_type (attributes_of s.attributes) types.MpUnreachNlri) family contents is)))

announcements_of : (link : Link) (s : Sections) → All (IsOf link.received) (announcements link (found link s) (attributes_of s.attributes))
announcements_of link s =
    let attributes = attributes_of s.attributes in
    let x = found link s in
    let one = path_with link attributes (base_hop link attributes) in
    let other = path_with link attributes (mp_hop x.reach.state) in
    All-append (IsOf link.received) (routes_with one (base_destinations link x.nlri)) (routes_with other (mp_destinations x.reach.state))
    (routes_of link.received one (base_destinations link x.nlri) (base_of link.received link s.nlri))
    (routes_of link.received other (mp_destinations x.reach.state)
    (mp_of link.received x.reach.state
    (λ family contents is. reach_of link.received family contents
    (was_read (reach_contents link.received) link.families (first_by_type attributes types.MpReachNlri) family contents is))))

withdrawn_too : (form : RouteForm) (withdrawn : List Destination) (announced : List Route) → AreOf form withdrawn → All (IsOf form) announced
    → DestinationsAreOf form (record { remove = withdrawn ++ destinations_among announced; put = [] })
withdrawn_too form withdrawn announced w a = record {
  remove = All-append (IsDestinationOf form) withdrawn (destinations_among announced) w (All-map (IsDestinationOf form) (λ (route : Route). route.destination) announced a);
  put = All-nil (IsOf form);
}

pub destinations_by_form : DestinationsAreByForm
destinations_by_form link octets changes disabled (inl malformed) = absurd malformed.1
destinations_by_form link octets changes disabled (inr (s, is, by)) = elim by.1 [
  | inl faulty ↦
      subst (DestinationsAreOf link.received) (sym faulty.1)
      (withdrawn_too link.received _ _ (withdrawals_of link s) (announcements_of link s))
  | inr right ↦ subst (DestinationsAreOf link.received) (sym right.1) (record { remove = withdrawals_of link s; put = announcements_of link s })
]
