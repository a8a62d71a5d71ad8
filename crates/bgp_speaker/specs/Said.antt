-- What the core sends for a want: just these octets, but for an UPDATE, which may be spelled in any
-- way that reads as its one change.
use Rattle.std.specs.Prelude.{◌≡◌, if◌then◌else◌, ℕ, false, List, [], ◌∷◌, Option, None, Some}
use Rattle.bgp_prefix.specs.declared.family.Family.{Family}
use Rattle.bgp_prefix.specs.declared.family.Family.TheVariants.{V4, V6}
use Rattle.bgp_prefix.specs.Prefix.{PrefixBits}
use Rattle.bgp_wire.specs.declared.header.Limit.TheVariants.{Plain}
use Rattle.bgp_wire.specs.Framing.{IsFrame}
use Rattle.bgp_wire.specs.Message.{message_octets}
use Rattle.bgp_open.specs.declared.link.Link.{Link}
use Rattle.bgp_open.specs.OwnOpen.{own_fields}
use Rattle.bgp_open.specs.Written.{open_octets, notification_octets}
use Rattle.bgp_path.specs.declared.as_path.SegmentKind.TheVariants.{Sequence}
use Rattle.bgp_path.specs.declared.path.NextHop.{NextHop}
use Rattle.bgp_path.specs.declared.path.NextHop.TheVariants as hops
use Rattle.bgp_path.specs.declared.path.Origin.TheVariants.{Igp}
use Rattle.bgp_path.specs.Path.{PathValue}
use Rattle.bgp_update.specs.Changes.{RouteChanges}
use Rattle.bgp_update.specs.Clean.{IsClean}
use Rattle.bgp_update.specs.Plain.{plain}
use Rattle.bgp_update_writer.specs.Applied.{IsJustApplied}
use Rattle.bgp_machine.specs.declared.want.FaultSet.{FaultSet}
use Rattle.bgp_machine.specs.declared.want.Want.{Want}
use Rattle.bgp_machine.specs.declared.want.Want.TheVariants.{OwnOpen, KeepAlive, CleanUpdate, Cease}
use Rattle.bgp_machine.specs.declared.want.Want.TheVariants.{HoldExpired, SendHoldExpired}
use Rattle.bgp_machine.specs.declared.want.Want.TheVariants.{MachineError, Faults}
use Rattle.bgp_machine.specs.Want.{IsLeastFault, subcode_of}
use Rattle.bgp_speaker.specs.declared.speaker.Speaker.{Speaker}

-- ---- UPDATEs

-- the next hop of a family (RFC 4271, 5.1.3; RFC 4760, 3)
abbrev pub own_hop : Speaker → Family → NextHop
own_hop speaker V4 = hops.V4 speaker.next_hop4
own_hop speaker V6 = hops.V6 speaker.next_hop6

-- the path of what the core announces: ORIGIN IGP; to an external peer the local AS alone, to an
-- internal one no AS, and LOCAL_PREF 100 (RFC 4271, 5.1.1, 5.1.2 and 5.1.5)
abbrev pub own_path : Speaker → Link → Family → PathValue
own_path speaker link family = record {
  origin = Igp;
  as_path = if link.internal then []
      else (record { kind = Sequence; numbers = speaker.config.parts.local_as ∷ [] }) ∷ [];
  next_hop = own_hop speaker family;
  multi_exit_disc = None;
  local_pref = if link.internal then Some 100 else None;
  atomic_aggregate = false;
  aggregator = None;
  communities = [];
  originator_id = None;
  cluster_list = [];
  extended_communities = [];
  large_communities = [];
}

-- the prefix is reachable by that path
abbrev pub announced : Speaker → Link → PrefixBits → RouteChanges
announced speaker link prefix = record {
  remove = [];
  put = (record { destination = plain prefix; path = own_path speaker link prefix.family }) ∷ [];
}

-- the prefix is reachable no more
abbrev pub withdrawn : PrefixBits → RouteChanges
withdrawn prefix = record { remove = plain prefix ∷ []; put = [] }

-- The octets are a clean UPDATE that reads as these changes. It has at most 4096 octets on every
-- link, so that a capture of the session can hold it where the peer alone offers longer ones.
abbrev pub SaysChanges : Option Link → RouteChanges → List ℕ → Type 0
SaysChanges None changes octets = ⊥
SaysChanges (Some link) changes octets =
    IsFrame Plain octets × IsClean link octets × IsJustApplied link octets changes

-- ---- NOTIFICATIONs

abbrev pub SaysFault : FaultSet → List ℕ → Type 0
SaysFault faults octets =
    (code : ℕ) × (subcode : ℕ) × (detail : List ℕ) × IsLeastFault faults code subcode detail
    × (octets ≡ notification_octets code subcode detail)

-- ---- wants, where a message of this Type moves the session

abbrev pub Says : Speaker → Option Link → ℕ → RouteChanges → Want → List ℕ → Type 0
Says speaker link kind changes OwnOpen octets =
    octets ≡ open_octets (own_fields speaker.config)
Says speaker link kind changes KeepAlive octets = octets ≡ message_octets 4 []
Says speaker link kind changes CleanUpdate octets = SaysChanges link changes octets
-- Administrative Shutdown (RFC 4486, 4)
Says speaker link kind changes Cease octets = octets ≡ notification_octets 6 2 []
Says speaker link kind changes HoldExpired octets = octets ≡ notification_octets 4 0 []
-- no row that the core takes wants it (RFC 9687, 5)
Says speaker link kind changes SendHoldExpired octets = octets ≡ notification_octets 8 0 []
-- with the message's Type as data (RFC 6608, 3)
Says speaker link kind changes (MachineError state) octets =
    octets ≡ notification_octets 5 (subcode_of state) (kind ∷ [])
Says speaker link kind changes (Faults faults) octets = SaysFault faults octets

-- all wants, in order
abbrev pub SaysEach : Speaker → Option Link → ℕ → RouteChanges → List Want → List (List ℕ)
    → Type 0
SaysEach speaker link kind changes [] messages = messages ≡ []
SaysEach speaker link kind changes (want ∷ wants) [] = ⊥
SaysEach speaker link kind changes (want ∷ wants) (octets ∷ messages) =
    Says speaker link kind changes want octets
    × SaysEach speaker link kind changes wants messages
