-- Laws of ROUTE-REFRESH messages (RFC 2918) in captures.
use Rattle.std.specs.Prelude.{◌≡◌, ◌≢◌, ◌↔◌, ◌++◌, ℕ, Bool, true, false, List, [], ◌∷◌, length}
use Rattle.std.specs.Prelude.{Option}
use Rattle.std.specs.List.{AllByRecursion, filter}
use Rattle.bgp_prefix.specs.Shown.{ShownRecord, Received, Sent, Changed}
use Rattle.bgp_prefix.specs.declared.session.Session.{Session}
use Rattle.bgp_prefix.specs.declared.session.RouteRefresh.TheVariants as refreshes
use Rattle.bgp_wire.specs.declared.header.Limit.{Limit}
use Rattle.bgp_wire.specs.Header.{HasHeaderFault}
use Rattle.bgp_wire.specs.Header as wire
use Rattle.mrt.specs.Rules.{Rule, Nothing, CutHeader, OtherTypeCut, OtherType, LongBody, CutBody}
use Rattle.mrt.specs.Rules.{OtherSubtype, NoFields, OtherSession, WithAddPath, NoStates, BadStates}
use Rattle.mrt.specs.Rules.{CutMessage, Refresh, OtherLength, Back, Allowed}
use Rattle.mrt.specs.Rules.{Judgement, Holds, FirstSays, IsJudged, place_of}
use Rattle.mrt.specs.Rules.{IsMessage, IsRouteRefresh, IsWholeRefresh}
use Rattle.mrt.specs.Capture.{Piece, Other, OtherEnds, PassedOver, Shown, IsCaptureText}
use Rattle.mrt.specs.Capture.{IsFirstFault, IsPiece, joined, records_of}
use Rattle.mrt.specs.Written.{IsWritable, FitsFields, CanBeCaptured, AreInOrder, capture_octets}
use Rattle.mrt.specs.declared.fault.FaultKind.TheVariants as kinds

-- ---- not passed over

-- the rules but for the one by which they are passed over
abbrev pub other_rules : List Rule
other_rules =
    Nothing ∷ CutHeader ∷ OtherTypeCut ∷ OtherType ∷ LongBody ∷ CutBody ∷ OtherSubtype ∷ NoFields
    ∷ OtherSession ∷ WithAddPath ∷ NoStates ∷ BadStates ∷ CutMessage ∷ Refresh ∷ OtherLength ∷ Back
    ∷ Allowed ∷ []

-- where they aren't passed over, each place is judged by these alone
abbrev pub NothingPassedOver : Type 0
NothingPassedOver =
    (session : Session) (last : Option ℕ) (octets : List ℕ) (judgement : Judgement) →
    session.refresh ≢ refreshes.PassedOver →
    (IsJudged session last octets judgement
    ↔ FirstSays (Holds session last (place_of octets)) other_rules judgement)

-- ---- passed over

-- the session without route refresh
abbrev pub without_refresh : Session → Session
without_refresh session = record session { refresh = refreshes.NotOffered }

-- the pieces that aren't passed over
abbrev pub is_kept : Piece → Bool
is_kept (Other octets) = true
is_kept (OtherEnds octets) = true
is_kept (PassedOver octets) = false
is_kept (Shown octets) = true

abbrev pub kept : List Piece → List Piece
kept pieces = filter is_kept pieces

-- The octets without what is passed over are a capture of the session without route refresh, whose
-- pieces are the others, with the same records and the same end or fault.
abbrev pub PassedOverAreTakenOut : Type 0
PassedOverAreTakenOut =
    (session : Session) (octets : List ℕ) (pieces : List Piece) (rest : List ℕ)
    (judgement : Judgement) →
    session.refresh ≡ refreshes.PassedOver →
    IsCaptureText session octets pieces rest judgement →
    IsCaptureText (without_refresh session) (joined (kept pieces) ++ rest) (kept pieces) rest
    judgement
    × (records_of (kept pieces) ≡ records_of pieces)

-- what is passed over is a message of such a session, and a whole ROUTE-REFRESH
abbrev pub PassedOverAreWhole : Type 0
PassedOverAreWhole =
    (session : Session) (last : Option ℕ) (octets : List ℕ) →
    IsPiece session last (PassedOver octets) →
    (session.refresh ≡ refreshes.PassedOver) × IsMessage (place_of octets)
    × IsWholeRefresh (place_of octets).content

-- the header of a whole ROUTE-REFRESH has one fault, by either limit: a type that is unknown
abbrev pub HasOneFault : Type 0
HasOneFault =
    (content : List ℕ) (limit : Limit) (subcode : ℕ) (detail : List ℕ) → IsWholeRefresh content →
    HasHeaderFault limit (wire.header_of content) subcode detail →
    (subcode ≡ 3) × (detail ≡ 5 ∷ [])

-- ---- refused

-- the message is a ROUTE-REFRESH
abbrev pub IsRefresh : ShownRecord → Type 0
IsRefresh (Received second octets) = IsRouteRefresh octets
IsRefresh (Sent second octets) = IsRouteRefresh octets
IsRefresh (Changed second old new) = ⊥

-- Records are written that a capture may have, and then one whose message is a ROUTE-REFRESH, where
-- the capture is refused for it; whatever is written after it.
abbrev pub FirstRefreshIsRefused : Type 0
FirstRefreshIsRefused =
    (session : Session) (peer_as local_as : ℕ) (before : List ShownRecord) (shown : ShownRecord)
    (later : List ShownRecord) →
    session.refresh ≡ refreshes.Refused →
    AllByRecursion (CanBeCaptured session) before → AreInOrder 0 before →
    IsWritable session shown → FitsFields session shown → IsRefresh shown →
    IsFirstFault session (capture_octets session peer_as local_as (before ++ shown ∷ later)) before
    kinds.RouteRefresh (length (capture_octets session peer_as local_as before))
