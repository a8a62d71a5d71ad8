-- A capture without the records that are passed over is read the same, of the session without route refresh.
use Rattle.std.proofs.Common.{◌≡◌, ◌≢◌, ◌∙◌, ◌⊎◌, ◌<◌, ◌≤◌, ℕ, List, [], ◌∷◌, Option, None, refl, sym, ap, subst, inl, inr, arith, length}
use Rattle.bgp_prefix.specs.Shown.{ShownRecord}
use Rattle.bgp_prefix.specs.declared.session.Session.{Session}
use Rattle.bgp_prefix.specs.declared.session.RouteRefresh.TheVariants as refreshes
use Rattle.bgp_wire.specs.declared.header.Limit.{Limit}
use Rattle.bgp_wire.specs.declared.header.Limit.TheVariants as limits
use Rattle.byteorder.specs.Endian.{big_bytes}
use Rattle.bgp_wire.specs.Header.{IsBadLength}
use Rattle.bgp_wire.specs.Header as wire
use Rattle.mrt.specs.Capture.{Piece, Other, OtherEnds, PassedOver, Shown, IsPiece, ArePieces, IsStop, last_after, last_of, judgement_of_piece, octets_of, records_of, shown_of}
use Rattle.mrt.specs.Rules.{Place, Rule, Holds, FirstSays, Judgement, End, Skipped, SkippedSession, SkippedRefresh, OfSession, Refused, judgement_of, place_of, body_limit, rules, IsMessage, IsWholeRefresh}
use Rattle.mrt.specs.Rules as r
use Rattle.mrt.specs.RefreshLaws.{without_refresh, kept, PassedOverAreTakenOut, PassedOverAreWhole, HasOneFault}
use Rattle.mrt.specs.declared.fault.FaultKind.TheVariants as kinds

-- ---- the rules

same_limit : (session : Session) → body_limit (without_refresh session) ≡ body_limit session
unfolding body_limit
same_limit session = refl

-- each rule says the same of both sessions, but for those on ROUTE-REFRESH
abbrev pub IsSame : Type 0 → Type 0 → Type 0
IsSame X Y = (X → Y) × (Y → X)

pub same : {X : Type 0} → IsSame X X
same = (λ x. x, λ x. x)

pub each_rule : (session : Session) (last : Option ℕ) (place : Place) (rule : Rule)
    → IsSame (Holds session last place rule) (Holds (without_refresh session) last place rule) ⊎ (rule ≡ r.Refresh) ⊎ (rule ≡ r.WholeRefresh)
each_rule session last place r.Nothing = inl same
each_rule session last place r.CutHeader = inl same
each_rule session last place r.OtherTypeCut = inl same
each_rule session last place r.OtherType = inl same
each_rule session last place r.LongBody = inl (
  subst (λ (n : ℕ). n < place.header.count) (sym (same_limit session)),
  subst (λ (n : ℕ). n < place.header.count) (same_limit session),
)
each_rule session last place r.CutBody = inl same
each_rule session last place r.OtherSubtype = inl same
each_rule session last place r.NoFields = inl same
each_rule session last place r.OtherSession = inl same
each_rule session last place r.WithAddPath = inl same
each_rule session last place r.NoStates = inl same
each_rule session last place r.BadStates = inl same
each_rule session last place r.CutMessage = inl same
each_rule session last place r.Refresh = inr (inl refl)
each_rule session last place r.WholeRefresh = inr (inr refl)
each_rule session last place r.OtherLength = inl same
each_rule session last place r.Back = inl same
each_rule session last place r.Allowed = inl same

-- these never hold without
pub never_refused : (session : Session) (last : Option ℕ) (place : Place) → ¬ Holds (without_refresh session) last place r.Refresh
never_refused session last place holds = let no = holds.2 in absurd (cc)

pub never_passed : (session : Session) (last : Option ℕ) (place : Place) → ¬ Holds (without_refresh session) last place r.WholeRefresh
never_passed session last place holds = let no = holds.2 in absurd (cc)

-- what isn't said by one of them is said of both sessions
pub says_same : (session : Session) (last : Option ℕ) (place : Place) (some : List Rule) (judgement : Judgement)
    → judgement ≢ Refused kinds.RouteRefresh → judgement ≢ SkippedRefresh → FirstSays (Holds session last place) some judgement
    → FirstSays (Holds (without_refresh session) last place) some judgement
says_same session last place [] judgement other also says = says
says_same session last place (rule ∷ later) judgement other also (inl (holds, is)) = elim (each_rule session last place rule) [
  | inl both ↦ inl (both.0 holds, is)
  | inr refresh ↦ elim refresh [
    | inl refused ↦ absurd (other (is ∙ ap judgement_of refused))
    | inr passed ↦ absurd (also (is ∙ ap judgement_of passed))
  ]
]
says_same session last place (rule ∷ later) judgement other also (inr (not, says)) = inr (
  (elim (each_rule session last place rule) [
    | inl both ↦ λ holds. not (both.1 holds)
    | inr refresh ↦ elim refresh [
      | inl refused ↦ λ holds. never_refused session last place (subst (λ (x : Rule). Holds (without_refresh session) last place x) refused holds)
      | inr passed ↦ λ holds. never_passed session last place (subst (λ (x : Rule). Holds (without_refresh session) last place x) passed holds)
    ]
  ]),
  says_same session last place later judgement other also says,
)

-- where they are passed over, none is refused
passes : (session : Session) (last : Option ℕ) (place : Place) (some : List Rule) (judgement : Judgement)
    → session.refresh ≡ refreshes.PassedOver → judgement ≢ SkippedRefresh → FirstSays (Holds session last place) some judgement
    → FirstSays (Holds (without_refresh session) last place) some judgement
passes session last place [] judgement passed other says = says
passes session last place (rule ∷ later) judgement passed other (inl (holds, is)) = elim (each_rule session last place rule) [
  | inl both ↦ inl (both.0 holds, is)
  | inr refresh ↦ elim refresh [
    | inl refused ↦ (let there = subst (λ (x : Rule). Holds session last place x) refused holds in let no = there.2 in absurd (cc))
    | inr whole ↦ absurd (other (is ∙ ap judgement_of whole))
  ]
]
passes session last place (rule ∷ later) judgement passed other (inr (not, says)) = inr (
  (elim (each_rule session last place rule) [
    | inl both ↦ λ holds. not (both.1 holds)
    | inr refresh ↦ elim refresh [
      | inl refused ↦ λ holds. never_refused session last place (subst (λ (x : Rule). Holds (without_refresh session) last place x) refused holds)
      | inr whole ↦ λ holds. never_passed session last place (subst (λ (x : Rule). Holds (without_refresh session) last place x) whole holds)
    ]
  ]),
  passes session last place later judgement passed other says,
)

-- what is passed over is what that rule says
rule_of_passed : (session : Session) (last : Option ℕ) (place : Place) (rule : Rule) → Holds session last place rule → SkippedRefresh ≡ judgement_of rule
    → (session.refresh ≡ refreshes.PassedOver) × IsMessage place × IsWholeRefresh place.content
rule_of_passed session last place r.Nothing holds is = absurd (cc)
rule_of_passed session last place r.CutHeader holds is = absurd (cc)
rule_of_passed session last place r.OtherTypeCut holds is = absurd (cc)
rule_of_passed session last place r.OtherType holds is = absurd (cc)
rule_of_passed session last place r.LongBody holds is = absurd (cc)
rule_of_passed session last place r.CutBody holds is = absurd (cc)
rule_of_passed session last place r.OtherSubtype holds is = absurd (cc)
rule_of_passed session last place r.NoFields holds is = absurd (cc)
rule_of_passed session last place r.OtherSession holds is = absurd (cc)
rule_of_passed session last place r.WithAddPath holds is = absurd (cc)
rule_of_passed session last place r.NoStates holds is = absurd (cc)
rule_of_passed session last place r.BadStates holds is = absurd (cc)
rule_of_passed session last place r.CutMessage holds is = absurd (cc)
rule_of_passed session last place r.Refresh holds is = absurd (cc)
rule_of_passed session last place r.WholeRefresh holds is = (holds.2, holds.0, holds.1)
rule_of_passed session last place r.OtherLength holds is = absurd (cc)
rule_of_passed session last place r.Back holds is = absurd (cc)
rule_of_passed session last place r.Allowed holds is = absurd (cc)

pub passed_over_by : (session : Session) (last : Option ℕ) (place : Place) (some : List Rule) → FirstSays (Holds session last place) some SkippedRefresh
    → (session.refresh ≡ refreshes.PassedOver) × IsMessage place × IsWholeRefresh place.content
passed_over_by session last place [] says = absurd says
passed_over_by session last place (rule ∷ later) (inl here) = rule_of_passed session last place rule here.0 here.1
passed_over_by session last place (rule ∷ later) (inr there) = passed_over_by session last place later there.1

pub passed_over_are_whole : PassedOverAreWhole
passed_over_are_whole session last octets is = passed_over_by session last (place_of octets) rules is.judged

-- ---- the pieces

no_refresh : (judgement : Judgement) → IsStop judgement → judgement ≢ SkippedRefresh
no_refresh judgement stops is = subst IsStop is stops

module _ (session : Session) (passed : session.refresh ≡ refreshes.PassedOver) where
  piece_kept : (last : Option ℕ) (piece : Piece) → judgement_of_piece piece ≢ SkippedRefresh → IsPiece session last piece → IsPiece (without_refresh session) last piece
  piece_kept last piece other is = record {
    whole = is.whole;
    judged = passes session last (place_of (octets_of piece)) rules (judgement_of_piece piece) passed other is.judged;
  }

  record Kept (last : Option ℕ) (pieces : List Piece) : Type 0 where
    each : ArePieces (without_refresh session) last (kept pieces)
    end : last_of last (kept pieces) ≡ last_of last pieces
    shown : records_of (kept pieces) ≡ records_of pieces

  pieces_kept : (last : Option ℕ) (pieces : List Piece) → ArePieces session last pieces → Kept last pieces
  pieces_kept last [] each = record { each = tt; end = refl; shown = refl }
  pieces_kept last (Other octets ∷ pieces) (is, each) =
      let later = pieces_kept last pieces each in
      record { each = (piece_kept last (Other octets) (λ e. absurd (cc)) is, later.each); end = later.end; shown = later.shown }
  pieces_kept last (OtherEnds octets ∷ pieces) (is, each) =
      let later = pieces_kept last pieces each in
      record { each = (piece_kept last (OtherEnds octets) (λ e. absurd (cc)) is, later.each); end = later.end; shown = later.shown }
  pieces_kept last (PassedOver octets ∷ pieces) (is, each) =
      let later = pieces_kept last pieces each in record { each = later.each; end = later.end; shown = later.shown }
  pieces_kept last (Shown octets ∷ pieces) (is, each) =
      let later = pieces_kept (last_after last (Shown octets)) pieces each in
      record {
        each = (piece_kept last (Shown octets) (λ e. absurd (cc)) is, later.each);
        end = later.end;
        shown = ap (λ (rs : List ShownRecord). shown_of octets ∷ rs) later.shown;
      }

pub passed_over_are_taken_out : PassedOverAreTakenOut
passed_over_are_taken_out session octets pieces rest judgement passed text =
    let are = pieces_kept session passed None pieces text.each in (
      record {
        whole = refl;
        each = are.each;
        last = subst (λ (l : Option ℕ). FirstSays (Holds (without_refresh session) l (place_of rest)) rules judgement) (sym are.end)
            (passes session (last_of None pieces) (place_of rest) rules judgement passed (no_refresh judgement text.stops) text.last);
        stops = text.stops;
      },
      are.shown,
    )

-- ---- the one fault

not_long : (limit : Limit) (count : ℕ) → 19 ≤ count → count ≤ 4096 → ¬ IsBadLength limit 5 count
not_long limits.Plain count least most bad = elim bad [
  | inl short ↦ absurd (omega (arith, short))
  | inr others ↦ elim others [
    | inl long ↦ absurd (omega (arith, long))
    | inr keepalive ↦ absurd (omega (arith, keepalive.0))
  ]
]
not_long limits.Extended count least most bad = elim bad [
  | inl short ↦ absurd (omega (arith, short))
  | inr others ↦ elim others [
    | inl long ↦ absurd (omega (arith, long))
    | inr keepalive ↦ absurd (omega (arith, keepalive.0))
  ]
]

pub has_one_fault : HasOneFault
has_one_fault content limit subcode detail is fault = elim fault [
  | inl marker ↦ absurd (marker.1 is.marker)
  | inr others ↦ elim others [
    | inl bad ↦ absurd (not_long limit (length content) is.least is.greatest
        (subst (λ (n : ℕ). IsBadLength limit n (length content)) is.kind (subst (λ (n : ℕ). IsBadLength limit (wire.type_of (wire.header_of content)) n) is.count bad.1)))
    | inr kind ↦ (kind.0, kind.2 ∙ ap (λ (n : ℕ). big_bytes 1 n) is.kind)
  ]
]
