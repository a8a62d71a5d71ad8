-- Each route that is put has a next hop by the form in which it was received.
use Rattle.std.proofs.Common.{◌≡◌, ◌==◌, ℕ, nat_lt, Bool, true, List, [], ◌∷◌, length, All, Option, None, Some, refl, sym, ap, subst, ◌∙◌, inl, inr}
use Rattle.std.proofs.lemmas.Bool.{cases_Bool}
use Rattle.std.proofs.lemmas.List.Elements.{All-nil, All-cons, All-head, All-tail, All-append}
use Rattle.bgp_open.specs.Family.{Family}
use Rattle.bgp_open.specs.Family.TheVariants as families
use Rattle.bgp_update.specs.declared.destination.Destination.{Destination}
use Rattle.bgp_open.specs.declared.families.Families.{Families}
use Rattle.bgp_open.specs.declared.link.Link.{Link}
use Rattle.bgp_open.specs.declared.route_form.RouteForm.{RouteForm}
use Rattle.bgp_open.specs.Families.{contains}
use Rattle.bgp_attr.specs.NextHop.{NextHop}
use Rattle.bgp_attr.specs.NextHop.TheVariants as hops
use Rattle.bgp_attr.specs.Path.{PathValue}
use Rattle.bgp_attr.specs.declared.types.AttrType.TheVariants as types
use Rattle.bgp_attr.specs.Field.{Attribute}
use Rattle.bgp_attr.specs.First.{first_by_type}
use Rattle.bgp_attr.specs.PathFrom.{next_hop_from}
use Rattle.bgp_attr.specs.Split.{attributes_of}
use Rattle.bgp_update.specs.Changes.{Route, RouteChanges, announcements, base_hop, base_destinations, hop_or, mp_hop, mp_destinations, path_with, routes_with}
use Rattle.bgp_update.specs.Found.{found}
use Rattle.bgp_update.specs.Laws.{IsNextHopOf, NextHopsAreByForm}
use Rattle.bgp_update.specs.Mp.{Mp, Absent, Cut, Other, Unused, Broken, Sound, mp_state, in_family, with_contents}
use Rattle.bgp_update.specs.MpValue.{Contents, family_in, ipv6_hop_in, next_hop_in, reach_contents}
use Rattle.bgp_update.specs.Destinations.{AreDestinations, destinations_of, is_identified}
use Rattle.bgp_update.specs.Sections.{Sections}
use Rattle.bgp_update.proofs.MpValues.{reads_mp_values}
use Rattle.bgp_update.proofs.DestinationLists.{reads_destinations}

-- ---- a next hop that was read

ipv6 : (form : RouteForm) (octets : List ℕ) (hop : NextHop) → ipv6_hop_in octets ≡ Some hop → IsNextHopOf form families.V6 hop
ipv6 form octets (hops.V6 a) e = tt
ipv6 form octets (hops.V6WithLinkLocal a b) e = tt
ipv6 form octets (hops.V4 a) e = elim (cases_Bool (length octets == 16)) [
  | inl h ↦ let f = rw h at e in absurd cc
  | inr h ↦ elim (cases_Bool (length octets == 32)) [
    | inl k ↦ let f = rw (h, k) at e in absurd cc
    | inr k ↦ let f = rw (h, k) at e in absurd cc
  ]
]

any : (form : RouteForm) (hop : NextHop) → form.ipv6_next_hops ≡ true → IsNextHopOf form families.V4 hop
any form (hops.V4 a) on = tt
any form (hops.V6 a) on = on
any form (hops.V6WithLinkLocal a b) on = on

own : (form : RouteForm) (hop : NextHop) (a : ℕ) → hops.V4 a ≡ hop → IsNextHopOf form families.V4 hop
own form hop a e = subst (IsNextHopOf form families.V4) e tt

some_hop : (a : NextHop) (hop : NextHop) → Some a ≡ Some hop → a ≡ hop
some_hop a hop e = cc

read_hop : (form : RouteForm) (family : Family) (octets : List ℕ) (hop : NextHop) → next_hop_in form.ipv6_next_hops family octets ≡ Some hop → IsNextHopOf form family hop
read_hop form families.V6 octets hop e = ipv6 form octets hop e
read_hop form families.V4 octets hop e = elim (cases_Bool (length octets == 4)) [
  | inl four ↦ own form hop _ (some_hop _ hop (rw four at e))
  | inr longer ↦ elim (cases_Bool form.ipv6_next_hops) [
    | inl on ↦ any form hop on
    | inr off ↦ let none = rw (longer, off) at e in absurd cc
  ]
]

-- ---- destinations of a field are of its family

abbrev AreOf : Family → List Destination → Type 0
AreOf family destinations = All (λ d. d.prefix.family ≡ family) destinations

each_of : (identified : Bool) (family : Family) (octets : List ℕ) (destinations : List Destination) → AreDestinations identified family octets destinations → AreOf family destinations
each_of identified family octets [] are = All-nil (λ (d : Destination). d.prefix.family ≡ family)
each_of identified family octets (d ∷ rest) (n, begins, are) =
    All-cons (λ (e : Destination). e.prefix.family ≡ family) d rest begins.prefix.of_family (each_of identified family _ rest are)

base_of : (identified : Bool) (link : Link) (octets : List ℕ) → AreOf families.V4 (base_destinations link (destinations_of identified families.V4 octets))
base_of identified link octets = go (destinations_of identified families.V4 octets) refl
  where
    go : (read : Option (List Destination)) → destinations_of identified families.V4 octets ≡ read → AreOf families.V4 (base_destinations link read)
    go None e = All-nil (λ (d : Destination). d.prefix.family ≡ families.V4)
    go (Some destinations) e = elim (cases_Bool (contains link.families families.V4)) [
      | inl used ↦ rw used (each_of identified families.V4 octets destinations ((reads_destinations identified families.V4 octets destinations).1 e))
      | inr other ↦ rw other (All-nil (λ (d : Destination). d.prefix.family ≡ families.V4))
    ]

-- ---- routes with one path

abbrev IsBy : RouteForm → Route → Type 0
IsBy form route = IsNextHopOf form route.destination.prefix.family route.path.next_hop

each_route : (form : RouteForm) (family : Family) (path : PathValue) (destinations : List Destination) → AreOf family destinations → IsNextHopOf form family path.next_hop
    → All (IsBy form) (routes_with path destinations)
each_route form family path destinations of hop = go destinations of
  where
    go : (ps : List Destination) → AreOf family ps → All (IsBy form) (routes_with path ps)
    go [] each = All-nil (IsBy form)
    go (p ∷ ps) each =
        All-cons (IsBy form) (record { destination = p; path = path }) (routes_with path ps) (subst (λ (f : Family). IsNextHopOf form f path.next_hop) (sym (All-head (λ q. q.prefix.family ≡ family) p ps each)) hop) (go ps (All-tail (λ q. q.prefix.family ≡ family) p ps each))

base_hop_is : (form : RouteForm) (value : Option (List ℕ)) → IsNextHopOf form families.V4 (next_hop_from value)
base_hop_is form None = tt
base_hop_is form (Some value) = tt

-- ---- and those of MP_REACH_NLRI

pub record IsRead (read : Family → List ℕ → Option Contents) (family : Family) (contents : Contents) : Type 0 where
  pub value : List ℕ
  pub is : read family value ≡ Some contents

sound : (read : Family → List ℕ → Option Contents) (f family : Family) (value : List ℕ) (found : Option Contents) (contents : Contents) → read f value ≡ found → with_contents f found ≡ Sound family contents
    → IsRead read family contents
sound read f family value None contents e is = absurd cc
sound read f family value (Some c) contents e is =
    let same : f ≡ family = cc in
    let same_contents : c ≡ contents = cc in
    record { value = value; is = subst (λ (g : Family). read g value ≡ Some contents) same (e ∙ ap Some same_contents) }

in_use : (read : Family → List ℕ → Option Contents) (used : Families) (value : List ℕ) (family : Family) (contents : Contents) (named : Option Family)
    → in_family used read value named ≡ Sound family contents → IsRead read family contents
in_use read used value family contents None is = absurd cc
in_use read used value family contents (Some f) is = elim (cases_Bool (contains used f)) [
  | inl h ↦ sound read f family value (read f value) contents refl (rw h at is)
  | inr h ↦ let other = rw h at is in absurd cc
]

pub was_read : (read : Family → List ℕ → Option Contents) (used : Families) (attribute : Option Attribute) (family : Family) (contents : Contents)
    → mp_state used read attribute ≡ Sound family contents → IsRead read family contents
was_read read used None family contents is = absurd cc
was_read read used (Some a) family contents is = elim (cases_Bool (nat_lt (length a.value) 3)) [
  | inl h ↦ let cut = rw h at is in absurd cc
  | inr h ↦ in_use read used a.value family contents (family_in a.value) (rw h at is)
]

mp_by_form : (form : RouteForm) (path : NextHop → PathValue) → ((hop : NextHop) → (path hop).next_hop ≡ hop) → (state : Mp)
    → ((family : Family) (contents : Contents) → state ≡ Sound family contents → IsRead (reach_contents form) family contents)
    → All (IsBy form) (routes_with (path (mp_hop state)) (mp_destinations state))
mp_by_form form path own Absent read = All-nil (IsBy form)
mp_by_form form path own Cut read = All-nil (IsBy form)
mp_by_form form path own Other read = All-nil (IsBy form)
mp_by_form form path own (Unused family) read = All-nil (IsBy form)
mp_by_form form path own (Broken family) read = All-nil (IsBy form)
mp_by_form form path own (Sound family contents) read =
    let r = read family contents refl in
    let v = (reads_mp_values.reach form family r.value contents).1 r.is in
    let hop : IsNextHopOf form family v.address = read_hop form family v.hop v.address v.is_hop in
    let same : v.address ≡ (path (mp_hop (Sound family contents))).next_hop = sym (own (mp_hop (Sound family contents)) ∙ ap hop_or v.next_hop) in
    each_route form family (path (mp_hop (Sound family contents))) contents.destinations (each_of (is_identified form family) family v.nlri contents.destinations v.destinations) (subst (IsNextHopOf form family) same hop)

-- ---- all routes

announced_by_form : (link : Link) (s : Sections) → All (IsBy link.received) (announcements link (found link s) (attributes_of s.attributes))
announced_by_form link s =
    let attributes = attributes_of s.attributes in
    let x = found link s in
    All-append (IsBy link.received) (routes_with (path_with link attributes (base_hop link attributes)) (base_destinations link x.nlri))
    (routes_with (path_with link attributes (mp_hop x.reach.state)) (mp_destinations x.reach.state))
    (each_route link.received families.V4 (path_with link attributes (base_hop link attributes)) (base_destinations link x.nlri) (base_of (is_identified link.received families.V4) link s.nlri) (base_hop_is link.received _))
    (mp_by_form link.received (path_with link attributes) (λ hop. refl) x.reach.state (λ family contents is. was_read (reach_contents link.received) link.families (first_by_type attributes types.MpReachNlri) family contents is))

pub next_hops_by_form : NextHopsAreByForm
next_hops_by_form link octets changes disabled (inl malformed) = absurd malformed.1
next_hops_by_form link octets changes disabled (inr (s, is, by)) = elim by.1 [
  | inl faulty ↦ subst (λ (c : RouteChanges). All (IsBy link.received) c.put) (sym faulty.1) (All-nil (IsBy link.received))
  | inr right ↦ subst (λ (c : RouteChanges). All (IsBy link.received) c.put) (sym right.1) (announced_by_form link s)
]
