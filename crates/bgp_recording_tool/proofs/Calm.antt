-- A capture that is read for a session which may have a ROUTE-REFRESH is read the same for one which may have none, unless it passes some over.
use Rattle.std.proofs.Common.{◌≡◌, ◌≢◌, ◌⊎◌, ℕ, List, [], ◌∷◌, Option, None, refl, subst, inl, inr}
use Rattle.bgp_prefix.specs.Shown.{ShownRecord}
use Rattle.bgp_prefix.specs.declared.session.Session.{Session}
use Rattle.bgp_prefix.specs.declared.session.RouteRefresh.TheVariants as refreshes
use Rattle.mrt.specs.Capture.{Piece, Other, OtherEnds, PassedOver, Shown, IsPiece, ArePieces, Spells, last_after, last_of, judgement_of_piece, octets_of}
use Rattle.mrt.specs.Rules.{Place, Rule, Holds, End, Refused, SkippedRefresh, Refresh, place_of, rules}
use Rattle.mrt.specs.declared.fault.FaultKind.TheVariants as kinds
use Rattle.mrt.specs.Written.{capture_octets, body_octets}
use Rattle.mrt.proofs.TakenOut.{IsSame, each_rule, never_passed, says_same, passed_over_by}
use Rattle.mrt.specs.RefreshLaws.{without_refresh}

-- each rule says the same of a session that refuses them, but for that one
pub each_but_one : (session : Session) → session.refresh ≡ refreshes.Refused → (last : Option ℕ) (place : Place) (rule : Rule)
    → IsSame (Holds session last place rule) (Holds (without_refresh session) last place rule) ⊎ (rule ≡ Refresh)
each_but_one session refused last place rule = elim (each_rule session last place rule) [
  | inl both ↦ inl both
  | inr refresh ↦ elim refresh [
    | inl is ↦ inr is
    | inr whole ↦ inl (
      λ holds. (let there = (subst (λ (r : Rule). Holds session last place r) whole holds).2 in absurd (cc)),
      λ holds. absurd (never_passed session last place (subst (λ (r : Rule). Holds (without_refresh session) last place r) whole holds)),
    )
  ]
]

module _ (session : Session) (unasked : session.refresh ≢ refreshes.PassedOver) where
  kept_same : (last : Option ℕ) (piece : Piece) → judgement_of_piece piece ≢ Refused kinds.RouteRefresh → judgement_of_piece piece ≢ SkippedRefresh
      → IsPiece session last piece → IsPiece (without_refresh session) last piece
  kept_same last piece other also is = record {
    whole = is.whole;
    judged = says_same session last (place_of (octets_of piece)) rules (judgement_of_piece piece) other also is.judged;
  }

  piece_same : (last : Option ℕ) (piece : Piece) → IsPiece session last piece → IsPiece (without_refresh session) last piece
  piece_same last (Other octets) is = kept_same last (Other octets) (λ e. absurd (cc)) (λ e. absurd (cc)) is
  piece_same last (OtherEnds octets) is = kept_same last (OtherEnds octets) (λ e. absurd (cc)) (λ e. absurd (cc)) is
  piece_same last (PassedOver octets) is = absurd (unasked (passed_over_by session last (place_of octets) rules is.judged).0)
  piece_same last (Shown octets) is = kept_same last (Shown octets) (λ e. absurd (cc)) (λ e. absurd (cc)) is

  pieces_same : (last : Option ℕ) (pieces : List Piece) → ArePieces session last pieces → ArePieces (without_refresh session) last pieces
  pieces_same last [] each = each
  pieces_same last (piece ∷ pieces) (is, each) = (piece_same last piece is, pieces_same (last_after last piece) pieces each)

  pub spells_same : (octets : List ℕ) (records : List ShownRecord) → Spells session octets records → Spells (without_refresh session) octets records
  spells_same octets records spells = record {
    pieces = spells.pieces;
    text = record {
      whole = spells.text.whole;
      each = pieces_same None spells.pieces spells.text.each;
      last = says_same session (last_of None spells.pieces) (place_of []) rules End (λ e. absurd (cc)) (λ e. absurd (cc)) spells.text.last;
      stops = spells.text.stops;
    };
    shown = spells.shown;
  }

-- what is written of records is the same
pub written_same : (session : Session) (peer_as local_as : ℕ) (records : List ShownRecord)
    → capture_octets (without_refresh session) peer_as local_as records ≡ capture_octets session peer_as local_as records
unfolding body_octets
written_same session peer_as local_as records = refl
