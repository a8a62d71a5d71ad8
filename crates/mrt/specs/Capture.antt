-- A capture of one session: records one after another, of which some are skipped and the others are
-- the session's, and then the end or the first fault (RFC 6396, 2).
use Rattle.std.specs.Prelude.{◌≡◌, ◌<◌, ◌-◌, ◌⊎◌, ◌++◌, ℕ, List, [], ◌∷◌, length, take}
use Rattle.std.specs.Prelude.{Option, None, Some, if◌then◌else◌}
use Rattle.std.specs.List.{flat_map, list_any}
use Rattle.bgp_prefix.specs.Shown.{ShownRecord, second_of}
use Rattle.bgp_prefix.specs.declared.session.Session.{Session}
use Rattle.mrt.specs.contracts.record.EndpointsPartialEq.TheImpl as equality
use Rattle.mrt.specs.Layout.{IsRecord, header_of, body_of, content_in, peer_in, local_in, shown_in}
use Rattle.mrt.specs.Layout.{micro_in}
use Rattle.mrt.specs.Rules.{Judgement, End, Skipped, SkippedSession, SkippedRefresh, Refused}
use Rattle.mrt.specs.Rules.{OfSession, IsJudged, IsCut, HasLongBody, place_of}
use Rattle.mrt.specs.declared.fault.FaultKind.{FaultKind}
use Rattle.mrt.specs.declared.record.Endpoints.{Endpoints}

-- One record's octets: skipped for its type or subtype, skipped for its addresses, a ROUTE-REFRESH
-- that is passed over, or the session's.
pub data Piece : Type 0 where
  Other : List ℕ → Piece
  OtherEnds : List ℕ → Piece
  PassedOver : List ℕ → Piece
  Shown : List ℕ → Piece

abbrev pub octets_of : Piece → List ℕ
octets_of (Other octets) = octets
octets_of (OtherEnds octets) = octets
octets_of (PassedOver octets) = octets
octets_of (Shown octets) = octets

abbrev pub judgement_of_piece : Piece → Judgement
judgement_of_piece (Other octets) = Skipped
judgement_of_piece (OtherEnds octets) = SkippedSession
judgement_of_piece (PassedOver octets) = SkippedRefresh
judgement_of_piece (Shown octets) = OfSession

-- the addresses that a record names
abbrev pub ends_of : List ℕ → Endpoints
ends_of octets = record {
  peer = peer_in (header_of octets) (body_of octets);
  local = local_in (header_of octets) (body_of octets);
}

-- what a record of the session shows
abbrev pub shown_of : List ℕ → ShownRecord
shown_of octets = shown_in (header_of octets) (content_in (header_of octets) (body_of octets))

-- the fraction of its second, in microseconds, if it has one
abbrev pub micro_of : List ℕ → Option ℕ
micro_of octets = micro_in (header_of octets) (body_of octets)

-- the octets are one record, and judged so, behind a record of the second `last`
pub record IsPiece (session : Session) (last : Option ℕ) (piece : Piece) : Type 0 where
  pub whole : IsRecord (octets_of piece)
  pub judged : IsJudged session last (octets_of piece) (judgement_of_piece piece)

-- the second of the session's last record
abbrev pub last_after : Option ℕ → Piece → Option ℕ
last_after last (Other octets) = last
last_after last (OtherEnds octets) = last
last_after last (PassedOver octets) = last
last_after last (Shown octets) = Some (second_of (shown_of octets))

abbrev pub last_of : Option ℕ → List Piece → Option ℕ
last_of last [] = last
last_of last (piece ∷ pieces) = last_of (last_after last piece) pieces

-- A record has begun of which octets are wanted still: of its header, or of a body that isn't too
-- long to be read.
abbrev pub IsBegun : Session → List ℕ → Type 0
IsBegun session octets =
    (length octets < 12) ⊎ (IsCut (place_of octets) × ¬ HasLongBody session (place_of octets))

-- pieces one after another
abbrev pub ArePieces : Session → Option ℕ → List Piece → Type 0
ArePieces session last [] = Unit {0}
ArePieces session last (piece ∷ pieces) =
    IsPiece session last piece × ArePieces session (last_after last piece) pieces

-- their octets
abbrev pub joined : List Piece → List ℕ
joined pieces = flat_map octets_of pieces

-- what they show: a record for each piece of the session
abbrev pub shown_by : Piece → List ShownRecord
shown_by (Other octets) = []
shown_by (OtherEnds octets) = []
shown_by (PassedOver octets) = []
shown_by (Shown octets) = shown_of octets ∷ []

abbrev pub records_of : List Piece → List ShownRecord
records_of pieces = flat_map shown_by pieces

-- and the fractions of their seconds, one for each record
abbrev pub micros_by : Piece → List (Option ℕ)
micros_by (Other octets) = []
micros_by (OtherEnds octets) = []
micros_by (PassedOver octets) = []
micros_by (Shown octets) = micro_of octets ∷ []

abbrev pub micros_of : List Piece → List (Option ℕ)
micros_of pieces = flat_map micros_by pieces

-- the addresses of those that are skipped for their addresses
abbrev pub other_ends : Piece → List Endpoints
other_ends (Other octets) = []
other_ends (OtherEnds octets) = ends_of octets ∷ []
other_ends (PassedOver octets) = []
other_ends (Shown octets) = []

abbrev pub other_ends_of : List Piece → List Endpoints
other_ends_of pieces = flat_map other_ends pieces

-- The different pairs of addresses, in the order of their first places: each pair, unless it is
-- among these or among those before it.
abbrev pub pairs_besides : List Endpoints → List Endpoints → List Endpoints
pairs_besides known [] = []
pairs_besides known (ends ∷ more) =
    if list_any (λ one. equality.ghosts.eq one ends) known then pairs_besides known more
    else ends ∷ pairs_besides (known ++ ends ∷ []) more

-- The first nine different pairs of those that are skipped for their addresses: these, and behind
-- them others, for which there is room.
abbrev pub others_of : List Endpoints → List Piece → List Endpoints
others_of known pieces =
    known ++ take (9 - length known) (pairs_besides known (other_ends_of pieces))

-- no piece stands where a place is judged so
abbrev pub IsStop : Judgement → Type 0
IsStop End = Unit {0}
IsStop Skipped = ⊥
IsStop SkippedSession = ⊥
IsStop SkippedRefresh = ⊥
IsStop (Refused kind) = Unit {0}
IsStop OfSession = ⊥

-- The octets are these pieces, and then a rest at which no piece stands: the end, where nothing is
-- left, or a fault.
pub record IsCaptureText (session : Session) (octets : List ℕ) (pieces : List Piece)
    (rest : List ℕ) (judgement : Judgement) : Type 0 where
  pub whole : octets ≡ joined pieces ++ rest
  pub each : ArePieces session None pieces
  pub last : IsJudged session (last_of None pieces) rest judgement
  pub stops : IsStop judgement

-- the octets spell these records
pub record Spells (session : Session) (octets : List ℕ) (records : List ShownRecord) : Type 0 where
  pub pieces : List Piece
  pub text : IsCaptureText session octets pieces [] End
  pub shown : records ≡ records_of pieces

-- The octets are refused for this fault, behind these records: `offset` is that of the record at
-- fault.
pub record IsFirstFault (session : Session) (octets : List ℕ) (records : List ShownRecord)
    (kind : FaultKind) (offset : ℕ) : Type 0 where
  pub pieces : List Piece
  pub rest : List ℕ
  pub text : IsCaptureText session octets pieces rest (Refused kind)
  pub shown : records ≡ records_of pieces
  pub place : offset ≡ length (joined pieces)
