-- The rules by which what stands at a place of a capture is judged for one session, in their order:
-- the first that holds decides (RFC 6396, 2 and 4.4; the order and the limit are this project's
-- profile).
use Rattle.std.specs.Prelude.{◌≡◌, ◌≢◌, ◌<◌, ◌≤◌, ◌+◌, ◌⊎◌, ℕ, List, [], ◌∷◌, length}
use Rattle.std.specs.Prelude.{Option, None, Some, if◌then◌else◌}
use Rattle.bgp_prefix.specs.declared.session.Session.{Session}
use Rattle.bgp_prefix.specs.declared.session.RouteRefresh.TheVariants as refreshes
use Rattle.bgp_wire.specs.declared.header.Limit.{Limit}
use Rattle.bgp_wire.specs.Header.{IsSound, IsSynchronized, limit_with}
use Rattle.bgp_wire.specs.Header as wire
use Rattle.mrt.specs.Layout.{Header, header_of, body_of, IsBgp4mp, form_of, LacksFields}
use Rattle.mrt.specs.Layout.{peer_in, local_in, content_in, old_state_in, new_state_in, IsState}
use Rattle.mrt.specs.declared.layout.Form.{Form}
use Rattle.mrt.specs.declared.layout.Form.TheVariants as forms
use Rattle.mrt.specs.declared.fault.FaultKind.{FaultKind}
use Rattle.mrt.specs.declared.fault.FaultKind.TheVariants as kinds

-- A place of a capture: how many octets are left from there on, and the header, the body and the
-- content of the record at their front, as far as they are there.
pub record Place : Type 0 where
  pub left : ℕ
  pub header : Header
  pub body : List ℕ
  pub content : List ℕ

-- the place from which on these octets are left
abbrev pub place_of : List ℕ → Place
place_of octets = record {
  left = length octets;
  header = header_of octets;
  body = body_of octets;
  content = content_in (header_of octets) (body_of octets);
}

-- ---- what can hold of a place, each by itself

-- the octets end before the body does
abbrev pub IsCut : Place → Type 0
IsCut place = place.left < 12 + place.header.count

-- The most octets of a body that is read: 48 before a message of 65535 where the local system
-- offers extended messages (RFC 8654), which it may then receive, and else 8192.
unfoldable pub body_limit : Session → ℕ
body_limit session = if session.extended then 65583 else 8192

-- a record of type BGP4MP or BGP4MP_ET has a longer body than is read
abbrev pub HasLongBody : Session → Place → Type 0
HasLongBody session place =
    IsBgp4mp place.header.kind × (body_limit session < place.header.count)

-- the addresses are not both the session's
abbrev pub IsOfOtherSession : Session → Place → Type 0
IsOfOtherSession session place =
    (peer_in place.header place.body ≢ session.peer)
    ⊎ (local_in place.header place.body ≢ session.local)

-- the record is of this form
abbrev pub IsOfForm : Form → Place → Type 0
IsOfForm form place = form_of place.header.subtype ≡ Some form

abbrev pub IsMessage : Place → Type 0
IsMessage place = IsOfForm forms.Received place ⊎ IsOfForm forms.Sent place

-- a change of state names two states, and one of them is none of the six
abbrev pub HasBadState : List ℕ → Type 0
HasBadState content =
    (length content ≡ 4) × ((¬ IsState (old_state_in content)) ⊎ (¬ IsState (new_state_in content)))

-- a message's type is 5, ROUTE-REFRESH (RFC 2918)
abbrev pub IsRouteRefresh : List ℕ → Type 0
IsRouteRefresh content = (19 ≤ length content) × (wire.type_of (wire.header_of content) ≡ 5)

-- A message is a whole ROUTE-REFRESH: that its type is none of the four is the one fault of its
-- header, as its marker is all 255 and its Length 19 to 4096, by either limit; and its Length is
-- the count of the octets.
pub record IsWholeRefresh (content : List ℕ) : Type 0 where
  pub least : 19 ≤ length content
  pub greatest : length content ≤ 4096
  pub marker : IsSynchronized (wire.header_of content)
  pub count : wire.length_of (wire.header_of content) ≡ length content
  pub kind : wire.type_of (wire.header_of content) ≡ 5

-- a message's header is sound by this limit, and its Length isn't the count of the octets
abbrev pub HasOtherLength : Limit → List ℕ → Type 0
HasOtherLength limit content =
    (19 ≤ length content) × IsSound limit (wire.header_of content)
    × (wire.length_of (wire.header_of content) ≢ length content)

-- the second is below that of the session's record before
abbrev pub IsBefore : ℕ → Option ℕ → Type 0
IsBefore second None = ⊥
IsBefore second (Some last) = second < last

-- ---- the rules

pub data Rule : Type 0 where
  Nothing : Rule
  CutHeader : Rule
  OtherTypeCut : Rule
  OtherType : Rule
  LongBody : Rule
  CutBody : Rule
  OtherSubtype : Rule
  NoFields : Rule
  OtherSession : Rule
  WithAddPath : Rule
  NoStates : Rule
  BadStates : Rule
  CutMessage : Rule
  Refresh : Rule
  WholeRefresh : Rule
  OtherLength : Rule
  Back : Rule
  Allowed : Rule

-- when each holds, of a session whose record before, if there is one, is of the second `last`
abbrev pub Holds : Session → Option ℕ → Place → Rule → Type 0
Holds session last place Nothing = place.left ≡ 0
Holds session last place CutHeader = place.left < 12
Holds session last place OtherTypeCut = (¬ IsBgp4mp place.header.kind) × IsCut place
Holds session last place OtherType = ¬ IsBgp4mp place.header.kind
Holds session last place LongBody = body_limit session < place.header.count
Holds session last place CutBody = IsCut place
Holds session last place OtherSubtype = form_of place.header.subtype ≡ None
Holds session last place NoFields = LacksFields place.header place.body
Holds session last place OtherSession = IsOfOtherSession session place
Holds session last place WithAddPath = IsOfForm forms.AddPath place
Holds session last place NoStates = IsOfForm forms.Change place × (length place.content ≢ 4)
Holds session last place BadStates = IsOfForm forms.Change place × HasBadState place.content
Holds session last place CutMessage = IsMessage place × (length place.content < 19)
Holds session last place Refresh =
    IsMessage place × IsRouteRefresh place.content × (session.refresh ≡ refreshes.Refused)
Holds session last place WholeRefresh =
    IsMessage place × IsWholeRefresh place.content × (session.refresh ≡ refreshes.PassedOver)
-- The limit is that of messages which the local system receives, also for those that it sends.
Holds session last place OtherLength =
    IsMessage place × HasOtherLength (limit_with session.extended) place.content
Holds session last place Back = IsBefore place.header.second last
Holds session last place Allowed = Unit {0}

-- what a place is judged to be: the end; a record that is skipped, for its type or subtype, for its
-- addresses or as a ROUTE-REFRESH; a refusal of the capture; a record of the session
pub data Judgement : Type 0 where
  End : Judgement
  Skipped : Judgement
  SkippedSession : Judgement
  SkippedRefresh : Judgement
  Refused : FaultKind → Judgement
  OfSession : Judgement

-- what follows from each rule
abbrev pub judgement_of : Rule → Judgement
judgement_of Nothing = End
judgement_of CutHeader = Refused kinds.Truncated
judgement_of OtherTypeCut = Refused kinds.Truncated
judgement_of OtherType = Skipped
judgement_of LongBody = Refused kinds.TooLong
judgement_of CutBody = Refused kinds.Truncated
judgement_of OtherSubtype = Skipped
judgement_of NoFields = Refused kinds.Body
judgement_of OtherSession = SkippedSession
judgement_of WithAddPath = Refused kinds.AddPath
judgement_of NoStates = Refused kinds.Body
judgement_of BadStates = Refused kinds.BadState
judgement_of CutMessage = Refused kinds.NotAMessage
judgement_of Refresh = Refused kinds.RouteRefresh
judgement_of WholeRefresh = SkippedRefresh
judgement_of OtherLength = Refused kinds.NotAMessage
judgement_of Back = Refused kinds.TimeBack
judgement_of Allowed = OfSession

-- the rules on the contents of the session's records, in their order
abbrev pub content_rules : List Rule
content_rules =
    WithAddPath ∷ NoStates ∷ BadStates ∷ CutMessage ∷ Refresh ∷ WholeRefresh ∷ OtherLength ∷ Back
    ∷ Allowed ∷ []

-- those on whole records
abbrev pub record_rules : List Rule
record_rules = OtherSubtype ∷ NoFields ∷ OtherSession ∷ content_rules

-- all of them
abbrev pub rules : List Rule
rules = Nothing ∷ CutHeader ∷ OtherTypeCut ∷ OtherType ∷ LongBody ∷ CutBody ∷ record_rules

-- the first of the rules that holds says so
abbrev pub FirstSays : (Rule → Type 0) → List Rule → Judgement → Type 0
FirstSays Holds [] judgement = ⊥
FirstSays Holds (rule ∷ later) judgement =
    (Holds rule × (judgement ≡ judgement_of rule))
    ⊎ ((¬ Holds rule) × FirstSays Holds later judgement)

-- the place from which on these octets are left is judged so
abbrev pub IsJudged : Session → Option ℕ → List ℕ → Judgement → Type 0
IsJudged session last octets judgement =
    FirstSays (Holds session last (place_of octets)) rules judgement
