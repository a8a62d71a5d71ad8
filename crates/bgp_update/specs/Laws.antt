-- Laws of UPDATEs and their outcomes.
use Rattle.std.specs.Prelude.{◌≡◌, ◌↔◌, ℕ, List, [], is_some, IsTrue, All}
use Rattle.bgp_open.specs.Family.{Family}
use Rattle.bgp_open.specs.Family.TheVariants as families
use Rattle.bgp_open.specs.declared.config.Config.{Config}
use Rattle.bgp_open.specs.declared.families.Families.{Families}
use Rattle.bgp_open.specs.declared.link.Link.{Link}
use Rattle.bgp_open.specs.declared.route_form.RouteForm.{RouteForm}
use Rattle.bgp_open.specs.Families.{no_families}
use Rattle.bgp_open.specs.Link.{link_of}
use Rattle.bgp_open.specs.Open.{open_of}
use Rattle.bgp_open.specs.TwoEnds.{ArePeers}
use Rattle.bgp_attr.specs.NextHop.{NextHop}
use Rattle.bgp_attr.specs.NextHop.TheVariants as hops
use Rattle.bgp_attr.specs.Message.{message_octets}
use Rattle.bgp_attr.specs.Limit.{Limit}
use Rattle.bgp_attr.specs.Framing.{IsFrame}
use Rattle.bgp_update.specs.declared.destination.Destination.{Destination}
use Rattle.bgp_update.specs.Destinations.{is_identified}
use Rattle.bgp_update.specs.Changes.{RouteChanges}
use Rattle.bgp_update.specs.Clean.{IsClean}
use Rattle.bgp_update.specs.Outcome.{Outcome, Applied, IsOutcome}
use Rattle.bgp_update.specs.Sections.{Sections, section_octets, IsUpdate}

-- an UPDATE has its three fields in one way
abbrev pub HasOneSplit : Type 0
HasOneSplit = (octets : List ℕ) (s t : Sections) → IsUpdate octets s → IsUpdate octets t → s ≡ t

-- some outcome is allowed of these octets
abbrev pub HasAnOutcome : Link → List ℕ → Type 0
HasAnOutcome link octets = (outcome : Outcome) × IsOutcome link octets outcome

-- wherever an UPDATE is applied, it changes the same
abbrev pub HasOneChange : Type 0
HasOneChange =
    (link : Link) (octets : List ℕ) (changes others : RouteChanges) (disabled other : Families)
    → IsOutcome link octets (Applied changes disabled)
    → IsOutcome link octets (Applied others other)
    → changes ≡ others

-- in these two forms, over these two links, an UPDATE is read alike: reading asks a link and a form
-- for nothing else
pub record IsReadAlike (one : Link) (one_form : RouteForm) (other : Link) (other_form : RouteForm)
    : Type 0 where
  pub as4 : one.as4 ≡ other.as4
  pub internal : one.internal ≡ other.internal
  pub families : one.families ≡ other.families
  pub form : one_form ≡ other_form

-- what is received over the second link is read as what is sent over the first. A link whose two
-- forms are one is so to itself.
abbrev pub IsReceiver : Link → Link → Type 0
IsReceiver sender receiver = IsReadAlike sender sender.sent receiver receiver.received

-- two systems that are configured for one another, and that settle links by each other's OPENs, read
-- alike what goes between them: each what the other sends
pub record ReadAlike (config other : Config) (octets others : List ℕ) : Type 0 where
  pub sent : IsReceiver (link_of config (open_of others)) (link_of other (open_of octets))
  pub received : IsReceiver (link_of other (open_of octets)) (link_of config (open_of others))

abbrev pub PeersReadAlike : Type 0
PeersReadAlike =
    (config other : Config) (octets others : List ℕ) → ArePeers config other octets others
    → ReadAlike config other octets others

-- of an UPDATE that is clean when it is sent there is one outcome where it is received: it is
-- applied, and nothing is disabled
abbrev pub CleanHasOneOutcome : Type 0
CleanHasOneOutcome =
    (sender receiver : Link) (octets : List ℕ) → IsReceiver sender receiver
    → IsClean sender octets
    → (changes : RouteChanges)
    × ((outcome : Outcome)
    → IsOutcome receiver octets outcome ↔ (outcome ≡ Applied changes no_families))

-- an IPv4 route has an IPv6 next hop only if the form has them (RFC 8950, 4), and an IPv6 route has
-- no IPv4 next hop
abbrev pub IsNextHopOf : RouteForm → Family → NextHop → Type 0
IsNextHopOf form families.V4 (hops.V4 address) = Unit {0}
IsNextHopOf form families.V4 (hops.V6 address) = IsTrue form.ipv6_next_hops
IsNextHopOf form families.V4 (hops.V6WithLinkLocal address link_local) =
    IsTrue form.ipv6_next_hops
IsNextHopOf form families.V6 (hops.V4 address) = ⊥
IsNextHopOf form families.V6 (hops.V6 address) = Unit {0}
IsNextHopOf form families.V6 (hops.V6WithLinkLocal address link_local) = Unit {0}

-- each route that is put has a next hop by the received form: under the plain one, one of its own
-- family (RFC 4760, 3)
abbrev pub NextHopsAreByForm : Type 0
NextHopsAreByForm =
    (link : Link) (octets : List ℕ) (changes : RouteChanges) (disabled : Families)
    → IsOutcome link octets (Applied changes disabled)
    → All (λ route. IsNextHopOf link.received route.destination.prefix.family route.path.next_hop)
    changes.put

-- a destination has a path identifier exactly if routes of its family are identified in the form
-- (RFC 7911, 3)
abbrev pub IsDestinationOf : RouteForm → Destination → Type 0
IsDestinationOf form destination =
    is_some destination.path ≡ is_identified form destination.prefix.family

-- each destination that is removed or put has an identifier exactly if the received form says so
pub record DestinationsAreOf (form : RouteForm) (changes : RouteChanges) : Type 0 where
  pub remove : All (IsDestinationOf form) changes.remove
  pub put : All (λ route. IsDestinationOf form route.destination) changes.put

abbrev pub DestinationsAreByForm : Type 0
DestinationsAreByForm =
    (link : Link) (octets : List ℕ) (changes : RouteChanges) (disabled : Families)
    → IsOutcome link octets (Applied changes disabled)
    → DestinationsAreOf link.received changes

-- over links that read alike the same outcomes are allowed, and the same UPDATEs are clean
pub record DependsOnForm : Type 0 where
  pub outcome : (one other : Link) (octets : List ℕ) (outcome : Outcome)
      → IsReadAlike one one.received other other.received
      → IsOutcome one octets outcome → IsOutcome other octets outcome
  pub clean : (one other : Link) (octets : List ℕ)
      → IsReadAlike one one.sent other other.sent → one.extended ≡ other.extended
      → IsClean one octets → IsClean other octets

-- an UPDATE whose three fields are empty (RFC 4724, 2, calls it the End-of-RIB marker of IPv4)
abbrev pub empty_update : List ℕ
empty_update =
    message_octets 2 (section_octets (record { withdrawn = []; attributes = []; nlri = [] }))

-- there is a clean UPDATE on every link, and it is a whole frame, whichever limit there is
pub record HasCleanUpdate : Type 0 where
  pub clean : (link : Link) → IsClean link empty_update
  pub frame : (limit : Limit) → IsFrame limit empty_update
