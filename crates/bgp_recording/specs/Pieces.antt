-- The pieces of a stream: its messages (RFC 4271, 4.1), and the ROUTE-REFRESHes (RFC 2918) that are
-- passed over.
use Rattle.std.specs.Prelude.{◌<◌, ◌≤◌, ◌+◌, ◌++◌, ◌⊎◌, ℕ, Bool, true, false, List, [], ◌∷◌}
use Rattle.std.specs.Prelude.{◌≡◌, length, IsTrue}
use Rattle.bgp_prefix.specs.declared.session.RouteRefresh.{RouteRefresh}
use Rattle.bgp_prefix.specs.declared.session.RouteRefresh.TheVariants as refreshes
use Rattle.bgp_prefix.specs.declared.session.Session.{Session}
use Rattle.bgp_wire.specs.Framing.{IsFrame, IsShort, IsFaulty}
use Rattle.bgp_wire.specs.Header.{IsSynchronized, header_of, length_of, type_of, limit_with}
use Rattle.mrt.specs.Rules.{IsWholeRefresh}
use Rattle.bgp_recording.specs.declared.framing.Framing.{Framing}
use Rattle.bgp_recording.specs.declared.framing.Framings.{Framings}

-- ---- by which rules

-- where a session's ROUTE-REFRESHes are passed over
abbrev pub skips_with : RouteRefresh → Bool
skips_with refreshes.NotOffered = false
skips_with refreshes.Refused = false
skips_with refreshes.PassedOver = true

abbrev pub framing_of : Session → Framing
framing_of session = record {
  limit = limit_with session.extended;
  skips_refresh = skips_with session.refresh;
}

-- both directions by the same
abbrev pub alike : Framing → Framings
alike framing = record { received = framing; sent = framing }

-- those of a session
abbrev pub framings_of : Session → Framings
framings_of session = alike (framing_of session)

-- ---- pieces

pub data Piece : Type 0 where
  Kept : List ℕ → Piece
  PassedOver : List ℕ → Piece

abbrev pub octets_in : Piece → List ℕ
octets_in (Kept octets) = octets
octets_in (PassedOver octets) = octets

-- one after another
abbrev pub stream_of : List Piece → List ℕ
stream_of [] = []
stream_of (piece ∷ later) = octets_in piece ++ stream_of later

-- the messages among them
abbrev pub kept : List Piece → List (List ℕ)
kept [] = []
kept (Kept octets ∷ later) = octets ∷ kept later
kept (PassedOver octets ∷ later) = kept later

-- how many are passed over
abbrev pub passed_over : List Piece → ℕ
passed_over [] = 0
passed_over (Kept octets ∷ later) = passed_over later
passed_over (PassedOver octets ∷ later) = 1 + passed_over later

-- Passed over are whole ROUTE-REFRESHes, whose type is the one fault of their header; if any are.
abbrev pub IsPiece : Framing → Piece → Type 0
IsPiece framing (Kept octets) = IsFrame framing.limit octets
IsPiece framing (PassedOver octets) = IsTrue framing.skips_refresh × IsWholeRefresh octets

-- ---- where no piece stands

-- the header of a ROUTE-REFRESH, whose type is its one fault: by either limit it has 4096 octets at
-- the most
pub record IsRefreshHeader (header : List ℕ) : Type 0 where
  pub marker : IsSynchronized header
  pub least : 19 ≤ length_of header
  pub greatest : length_of header ≤ 4096
  pub kind : type_of header ≡ 5

-- a whole one stands at the front
pub record BeginsRefresh (octets : List ℕ) : Type 0 where
  pub header : IsRefreshHeader (header_of octets)
  pub whole : length_of (header_of octets) ≤ length octets

-- one that would be passed over stands at the front, and isn't all there
pub record IsCutRefresh (framing : Framing) (octets : List ℕ) : Type 0 where
  pub skips : IsTrue framing.skips_refresh
  pub long : 19 ≤ length octets
  pub header : IsRefreshHeader (header_of octets)
  pub cut : length octets < length_of (header_of octets)

-- less than a piece, so that more octets decide
abbrev pub IsShortOf : Framing → List ℕ → Type 0
IsShortOf framing octets = IsShort framing.limit octets ⊎ IsCutRefresh framing octets

-- a header with a fault stands at the front, and none that would be passed over
pub record IsFaultyOf (framing : Framing) (octets : List ℕ) : Type 0 where
  pub faulty : IsFaulty framing.limit octets
  pub stays : IsTrue framing.skips_refresh → ¬ IsRefreshHeader (header_of octets)
