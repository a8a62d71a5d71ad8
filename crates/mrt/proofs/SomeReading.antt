-- Octets are a capture in some way: that they are in none leads to a contradiction.
use Rattle.std.proofs.Common.{◌≡◌, ◌∙◌, ℕ, ◌+◌, ◌<◌, ◌≤◌, List, [], ◌∷◌, ◌++◌, length, take, drop, refl, sym, ap, subst, arith, inl, inr, append_assoc, length-append, Option, None, zero, suc}
use Rattle.std.proofs.lemmas.List.{take-append-le, length-take-le, take-append-drop}
use Rattle.bgp_prefix.specs.Shown.{ShownRecord}
use Rattle.bgp_prefix.specs.declared.session.Session.{Session}
use Rattle.mrt.specs.Layout.{Header, header_in, header_of, IsRecord}
use Rattle.mrt.specs.Rules.{Rule, Judgement, End, Skipped, SkippedSession, SkippedRefresh, Refused, OfSession, judgement_of, Holds, FirstSays, place_of, IsCut, IsJudged}
use Rattle.mrt.specs.Rules as r
use Rattle.mrt.specs.Capture.{Piece, Other, OtherEnds, PassedOver, Shown, octets_of, judgement_of_piece, IsPiece, ArePieces, last_after, last_of, joined, records_of, IsStop}
use Rattle.mrt.specs.Capture.{Spells, IsFirstFault}
use Rattle.mrt.specs.declared.fault.FaultKind.{FaultKind}
use Rattle.mrt.specs.CaptureLaws.{NeverNone}
use Rattle.mrt.proofs.OneReading.{one_judgement, judged_on}

-- Some rule is the first that holds, since the last one always does.
no_first : (H : Rule → Type 0) (list : List Rule) → ((judgement : Judgement) → FirstSays H (list ++ r.Allowed ∷ []) judgement → ⊥) → H r.Allowed → ⊥
no_first H [] none last = none (judgement_of r.Allowed) (inl (last, refl))
no_first H (rule ∷ later) none last =
    let fails : H rule → ⊥ = λ holds. none (judgement_of rule) (inl (holds, refl)) in
    no_first H later (λ judgement says. none judgement (inr (fails, says))) last

-- all but the last
abbrev front_rules : List Rule
front_rules =
    r.Nothing ∷ r.CutHeader ∷ r.OtherTypeCut ∷ r.OtherType ∷ r.LongBody ∷ r.CutBody ∷ r.OtherSubtype ∷ r.NoFields ∷ r.OtherSession
    ∷ r.WithAddPath ∷ r.NoStates ∷ r.BadStates ∷ r.CutMessage ∷ r.Refresh ∷ r.WholeRefresh ∷ r.OtherLength ∷ r.Back ∷ []

some_judgement : (session : Session) (last : Option ℕ) (octets : List ℕ) → ((judgement : Judgement) → IsJudged session last octets judgement → ⊥) → ⊥
some_judgement session last octets none = no_first (Holds session last (place_of octets)) front_rules none tt

-- what isn't refused is whole
not_cut : (session : Session) (last : Option ℕ) (octets : List ℕ) (judgement : Judgement) → (IsStop judgement → ⊥) → IsJudged session last octets judgement
    → (12 ≤ length octets) × (¬ IsCut (place_of octets))
not_cut session last octets judgement goes says =
    elim says [
      | inl none ↦ absurd (goes (subst IsStop (sym none.1) tt))
      | inr some ↦ elim (some.1) [
        | inl cut ↦ absurd (goes (subst IsStop (sym cut.1) tt))
        | inr long ↦ elim (long.1) [
          | inl cut ↦ absurd (goes (subst IsStop (sym cut.1) tt))
          | inr whole ↦ elim (whole.1) [
            | inl other ↦ (omega (arith, long.0), λ cut. whole.0 (other.0, cut))
            | inr known ↦ elim (known.1) [
              | inl too_long ↦ absurd (goes (subst IsStop (sym too_long.1) tt))
              | inr fits ↦ elim (fits.1) [
                | inl cut ↦ absurd (goes (subst IsStop (sym cut.1) tt))
                | inr all ↦ (omega (arith, long.0), all.0)
              ]
            ]
          ]
        ]
      ]
    ]

-- a place that isn't refused begins with a whole record, and there is more behind it
front_record : (octets : List ℕ) → 12 ≤ length octets → (¬ IsCut (place_of octets))
    → let count = 12 + (header_of octets).count in
    IsRecord (take count octets) × (take count octets ++ drop count octets ≡ octets) × (length (drop count octets) < length octets)
front_record octets head whole =
    let count = 12 + (header_of octets).count in
    let fits : count ≤ length octets = omega (arith, whole) in
    let len = length-take-le count octets fits in
    let both = take-append-drop count octets in
    let many = ap length both in
    let parts = length-append (take count octets) (drop count octets) in
    let same : header_of (take count octets) ≡ header_of octets =
    ap header_in (sym (take-append-le 12 (take count octets) (drop count octets) (omega arith)) ∙ ap (λ (o : List ℕ). take 12 o) both) in
    let counted = ap (λ (h : Header). h.count) same in (
      record { header = omega arith; whole = omega arith },
      both,
      omega arith,
    )

module _ (session : Session) where
  -- how octets can't be pieces and a stop
  abbrev NoText : Option ℕ → List ℕ → Type 0
  NoText last octets =
      (pieces : List Piece) (rest : List ℕ) (judgement : Judgement) → octets ≡ joined pieces ++ rest → ArePieces session last pieces
      → IsJudged session (last_of last pieces) rest judgement → IsStop judgement → ⊥

  -- a piece at the front
  behind_piece : (last : Option ℕ) (octets front more : List ℕ) (piece : Piece) → octets_of piece ≡ front → front ++ more ≡ octets
      → IsPiece session last piece → NoText last octets → NoText (last_after last piece) more
  behind_piece last octets front more piece same both is none pieces rest judgement whole are judged stops =
      none (piece ∷ pieces) rest judgement
      (sym both ∙ ap (λ (o : List ℕ). front ++ o) whole ∙ sym (append_assoc front (joined pieces) rest)
      ∙ ap (λ (o : List ℕ). (o ++ joined pieces) ++ rest) (sym same))
      (is, are) judged stops

  -- the front of a place that isn't refused is judged as the place is, or not at all
  front_judged : (last : Option ℕ) (octets front more : List ℕ) (judgement : Judgement) → front ++ more ≡ octets → IsRecord front
      → IsJudged session last octets judgement → (IsJudged session last front judgement → ⊥) → ⊥
  front_judged last octets front more judgement both whole judged none =
      some_judgement session last front (λ other says.
      let on = subst (λ (o : List ℕ). IsJudged session last o other) both (judged_on session last front more other whole says) in
      let same = one_judgement session last octets other judgement on judged in
      none (subst (λ (j : Judgement). IsJudged session last front j) same says))

  some_piece : (fuel : ℕ) (last : Option ℕ) (octets : List ℕ) (piece : Piece)
      → ((also : Option ℕ) (more : List ℕ) → length more < fuel → NoText also more → ⊥)
      → length octets < suc fuel → NoText last octets
      → octets_of piece ≡ take (12 + (header_of octets).count) octets → (IsStop (judgement_of_piece piece) → ⊥)
      → IsJudged session last octets (judgement_of_piece piece) → ⊥
  some_piece fuel last octets piece next less none same goes says =
      let count = 12 + (header_of octets).count in
      let (head, whole) = not_cut session last octets (judgement_of_piece piece) goes says in
      let (is, both, fewer) = front_record octets head whole in
      front_judged last octets (take count octets) (drop count octets) (judgement_of_piece piece) both is says (λ judged.
      let piece_is : IsPiece session last piece = record {
        whole = subst IsRecord (sym same) is;
        judged = subst (λ (o : List ℕ). IsJudged session last o (judgement_of_piece piece)) (sym same) judged;
      } in
      next (last_after last piece) (drop count octets) (omega (arith, less, fewer))
      (behind_piece last octets (take count octets) (drop count octets) piece same both piece_is none))

  by_judgement : (fuel : ℕ) (last : Option ℕ) (octets : List ℕ) (judgement : Judgement)
      → ((also : Option ℕ) (more : List ℕ) → length more < fuel → NoText also more → ⊥)
      → length octets < suc fuel → NoText last octets → IsJudged session last octets judgement → ⊥
  by_judgement fuel last octets End next less none says = none [] octets End refl tt says tt
  by_judgement fuel last octets Skipped next less none says =
      some_piece fuel last octets (Other (take (12 + (header_of octets).count) octets)) next less none refl (λ e. e) says
  by_judgement fuel last octets SkippedSession next less none says =
      some_piece fuel last octets (OtherEnds (take (12 + (header_of octets).count) octets)) next less none refl (λ e. e) says
  by_judgement fuel last octets SkippedRefresh next less none says =
      some_piece fuel last octets (PassedOver (take (12 + (header_of octets).count) octets)) next less none refl (λ e. e) says
  by_judgement fuel last octets (Refused kind) next less none says = none [] octets (Refused kind) refl tt says tt
  by_judgement fuel last octets OfSession next less none says =
      some_piece fuel last octets (Shown (take (12 + (header_of octets).count) octets)) next less none refl (λ e. e) says

  some_text : (fuel : ℕ) (last : Option ℕ) (octets : List ℕ) → length octets < fuel → NoText last octets → ⊥
  some_text zero last octets less none = absurd (omega (arith, less))
  some_text (suc fuel) last octets less none =
      some_judgement session last octets (λ judgement says.
      by_judgement fuel last octets judgement (some_text fuel) less none says)

-- ---- the end stands where nothing is left

-- none of the rules says the end
abbrev NoEnd : List Rule → Type 0
NoEnd [] = Unit {0}
NoEnd (rule ∷ later) = (End ≡ judgement_of rule → ⊥) × NoEnd later

no_end : (H : Rule → Type 0) (list : List Rule) → NoEnd list → FirstSays H list End → ⊥
no_end H [] none says = says
no_end H (rule ∷ later) none (inl here) = none.0 here.1
no_end H (rule ∷ later) none (inr there) = no_end H later none.1 there.1

abbrev later_rules : List Rule
later_rules =
    r.CutHeader ∷ r.OtherTypeCut ∷ r.OtherType ∷ r.LongBody ∷ r.CutBody ∷ r.OtherSubtype ∷ r.NoFields ∷ r.OtherSession
    ∷ r.WithAddPath ∷ r.NoStates ∷ r.BadStates ∷ r.CutMessage ∷ r.Refresh ∷ r.WholeRefresh ∷ r.OtherLength ∷ r.Back ∷ r.Allowed ∷ []

no_later_end : NoEnd later_rules
no_later_end = (
  λ e. absurd (cc e),
  (
    λ e. absurd (cc e),
    (
      λ e. absurd (cc e),
      (
        λ e. absurd (cc e),
        (
          λ e. absurd (cc e),
          (
            λ e. absurd (cc e),
            (
              λ e. absurd (cc e),
              (
                λ e. absurd (cc e),
                (
                  λ e. absurd (cc e),
                  (
                    λ e. absurd (cc e),
                    (
                      λ e. absurd (cc e),
                      (
                        λ e. absurd (cc e),
                        (λ e. absurd (cc e), (λ e. absurd (cc e), (λ e. absurd (cc e), (λ e. absurd (cc e), (λ e. absurd (cc e), tt))))),
                      ),
                    ),
                  ),
                ),
              ),
            ),
          ),
        ),
      ),
    ),
  ),
)

no_octets : (octets : List ℕ) → length octets ≡ 0 → octets ≡ []
no_octets [] none = refl
no_octets (x ∷ octets) none = absurd (omega (arith, none))

end_is_empty : (session : Session) (last : Option ℕ) (octets : List ℕ) → IsJudged session last octets End → octets ≡ []
end_is_empty session last octets says = elim says [
  | inl none ↦ no_octets octets none.0
  | inr some ↦ absurd (no_end (Holds session last (place_of octets)) later_rules no_later_end some.1)
]

-- ---- the law

module _ (session : Session) (octets : List ℕ) (no_spelling : (records : List ShownRecord) → ¬ Spells session octets records)
    (no_fault : (records : List ShownRecord) (kind : FaultKind) (offset : ℕ) → ¬ IsFirstFault session octets records kind offset) where
  by_stop : (pieces : List Piece) (rest : List ℕ) (judgement : Judgement) → octets ≡ joined pieces ++ rest → ArePieces session None pieces
      → IsJudged session (last_of None pieces) rest judgement → IsStop judgement → ⊥
  by_stop pieces rest End whole are judged stops =
      let empty = end_is_empty session (last_of None pieces) rest judged in
      no_spelling (records_of pieces) (record {
        pieces = pieces;
        text = record {
          whole = whole ∙ ap (λ (o : List ℕ). joined pieces ++ o) empty;
          each = are;
          last = subst (λ (o : List ℕ). IsJudged session (last_of None pieces) o End) empty judged;
          stops = tt;
        };
        shown = refl;
      })
  by_stop pieces rest Skipped whole are judged stops = stops
  by_stop pieces rest SkippedSession whole are judged stops = stops
  by_stop pieces rest SkippedRefresh whole are judged stops = stops
  by_stop pieces rest (Refused kind) whole are judged stops =
      no_fault (records_of pieces) kind (length (joined pieces)) (record {
        pieces = pieces;
        rest = rest;
        text = record { whole = whole; each = are; last = judged; stops = tt };
        shown = refl;
        place = refl;
      })
  by_stop pieces rest OfSession whole are judged stops = stops

pub never_none : NeverNone
never_none session octets no_spelling no_fault =
    some_text session (suc (length octets)) None octets (omega arith) (by_stop session octets no_spelling no_fault)
