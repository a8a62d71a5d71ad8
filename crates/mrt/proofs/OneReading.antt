-- Octets are a capture in one way.
use Rattle.std.proofs.Common.{◌≡◌, ◌∙◌, ℕ, ◌+◌, List, [], ◌∷◌, ◌++◌, length, take, drop, refl, sym, ap, subst, arith, inl, inr, append_assoc, length-append, length-drop, Option, None}
use Rattle.std.proofs.Math.Seq.{take-append_seam, drop-append_seam}
use Rattle.std.proofs.lemmas.List.{take-append-le, drop-append-le}
use Rattle.bgp_prefix.specs.declared.session.Session.{Session}
use Rattle.mrt.specs.Layout.{Header, header_in, header_of, body_of, content_in, IsRecord}
use Rattle.mrt.specs.Rules.{Rule, Judgement, End, Refused, Holds, FirstSays, rules, record_rules, place_of, IsJudged}
use Rattle.mrt.specs.Capture.{Piece, Other, OtherEnds, PassedOver, Shown, octets_of, judgement_of_piece, IsPiece, ArePieces, last_after, last_of, joined, records_of, IsStop}
use Rattle.mrt.specs.CaptureLaws.{OneText, OneSpelling, OneFault, NeverBoth}

-- of the rules that hold one is the first
one_first : (H : Rule → Type 0) (list : List Rule) (judgement other : Judgement) → FirstSays H list judgement → FirstSays H list other → judgement ≡ other
one_first H [] judgement other says also = absurd says
one_first H (rule ∷ later) judgement other (inl here) (inl there) = here.1 ∙ sym there.1
one_first H (rule ∷ later) judgement other (inl here) (inr there) = absurd (there.0 here.0)
one_first H (rule ∷ later) judgement other (inr here) (inl there) = absurd (here.0 there.0)
one_first H (rule ∷ later) judgement other (inr here) (inr there) = one_first H later judgement other here.1 there.1

pub one_judgement : (session : Session) (last : Option ℕ) (octets : List ℕ) (judgement other : Judgement) → IsJudged session last octets judgement
    → IsJudged session last octets other → judgement ≡ other
one_judgement session last octets judgement other says also = one_first (Holds session last (place_of octets)) rules judgement other says also

-- ---- a whole record is judged alike, whatever follows

header_more : (octets more : List ℕ) → IsRecord octets → header_of (octets ++ more) ≡ header_of octets
header_more octets more is = ap header_in (take-append-le 12 octets more is.header)

body_more : (octets more : List ℕ) → IsRecord octets → body_of (octets ++ more) ≡ body_of octets
body_more octets more is =
    ap (λ (h : Header). take h.count (drop 12 (octets ++ more))) (header_more octets more is)
    ∙ ap (λ (o : List ℕ). take (header_of octets).count o) (drop-append-le 12 octets more is.header)
    ∙ take-append-le (header_of octets).count (drop 12 octets) more (let len = length-drop 12 octets in let whole = is.whole in omega arith)

-- the rules on whole records, where the header and the body are the same
same_rules : (session : Session) (last : Option ℕ) (judgement : Judgement) (left also : ℕ) (header there : Header) (body held : List ℕ)
    → there ≡ header → held ≡ body
    → FirstSays (Holds session last (record { left = left; header = header; body = body; content = content_in header body })) record_rules judgement
    → FirstSays (Holds session last (record { left = also; header = there; body = held; content = content_in there held })) record_rules judgement
same_rules session last judgement left also header there body held same is says =
    subst (λ (h : Header). FirstSays (Holds session last (record { left = also; header = h; body = held; content = content_in h held })) record_rules judgement) (sym same)
    (subst (λ (b : List ℕ). FirstSays (Holds session last (record { left = also; header = header; body = b; content = content_in header b })) record_rules judgement) (sym is) says)

pub judged_on : (session : Session) (last : Option ℕ) (octets more : List ℕ) (judgement : Judgement) → IsRecord octets → IsJudged session last octets judgement
    → IsJudged session last (octets ++ more) judgement
judged_on session last octets more judgement is says =
    let many = length-append octets more in
    let same = header_more octets more is in
    let kind : (header_of (octets ++ more)).kind ≡ (header_of octets).kind = ap (λ (h : Header). h.kind) same in
    let count : (header_of (octets ++ more)).count ≡ (header_of octets).count = ap (λ (h : Header). h.count) same in
    let head = is.header in
    let whole = is.whole in
    elim says [
      | inl none ↦ absurd (omega (arith, none.0))
      | inr some ↦ elim (some.1) [
        | inl cut ↦ absurd (omega (arith, cut.0))
        | inr long ↦ elim (long.1) [
          | inl cut ↦ absurd (omega (arith, cut.0.1))
          | inr not_cut ↦ inr (
            λ e. absurd (omega arith),
            inr (
              λ e. absurd (omega arith),
              inr (
                λ e. absurd (omega (arith, e.1)),
                elim (not_cut.1) [
                  | inl other ↦ inl (rw kind other.0, other.1)
                  | inr known ↦ inr (
                    rw kind known.0,
                    elim (known.1) [
                      | inl too_long ↦ inl (rw count too_long.0, too_long.1)
                      | inr fits ↦ inr (
                        rw count fits.0,
                        elim (fits.1) [
                          | inl cut ↦ absurd (omega (arith, cut.0))
                          | inr all ↦ inr (λ e. absurd (omega arith), same_rules session last judgement (length octets) (length (octets ++ more)) _ _ _ _ same (body_more octets more is) all.1)
                        ],
                      )
                    ],
                  )
                ],
              ),
            ),
          )
        ]
      ]
    ]

-- ---- one record stands at a place

pub front_is : (octets more : List ℕ) → IsRecord octets → octets ≡ take (12 + (header_of (octets ++ more)).count) (octets ++ more)
front_is octets more is =
    let count = ap (λ (h : Header). h.count) (header_more octets more is) in
    sym (ap (λ (n : ℕ). take n (octets ++ more)) (omega (arith, is.whole)) ∙ take-append_seam octets more)

same_front : (octets also more behind : List ℕ) → IsRecord octets → IsRecord also → octets ++ more ≡ also ++ behind → octets ≡ also
same_front octets also more behind is there same =
    front_is octets more is ∙ ap (λ (o : List ℕ). take (12 + (header_of o).count) o) same ∙ sym (front_is also behind there)

same_behind : (octets also more behind : List ℕ) → octets ≡ also → octets ++ more ≡ also ++ behind → more ≡ behind
same_behind octets also more behind same whole =
    sym (drop-append_seam octets more)
    ∙ ap (λ (o : List ℕ). drop (length octets) o) whole
    ∙ ap (λ (o : List ℕ). drop (length o) (also ++ behind)) same
    ∙ drop-append_seam also behind

same_piece : (piece also : Piece) → judgement_of_piece piece ≡ judgement_of_piece also → octets_of piece ≡ octets_of also → piece ≡ also
same_piece (Other o) (Other p) judged same = ap (λ (x : List ℕ). Other x) same
same_piece (Other o) (OtherEnds p) judged same = absurd (cc)
same_piece (Other o) (PassedOver p) judged same = absurd (cc)
same_piece (Other o) (Shown p) judged same = absurd (cc)
same_piece (OtherEnds o) (Other p) judged same = absurd (cc)
same_piece (OtherEnds o) (OtherEnds p) judged same = ap (λ (x : List ℕ). OtherEnds x) same
same_piece (OtherEnds o) (PassedOver p) judged same = absurd (cc)
same_piece (OtherEnds o) (Shown p) judged same = absurd (cc)
same_piece (PassedOver o) (Other p) judged same = absurd (cc)
same_piece (PassedOver o) (OtherEnds p) judged same = absurd (cc)
same_piece (PassedOver o) (PassedOver p) judged same = ap (λ (x : List ℕ). PassedOver x) same
same_piece (PassedOver o) (Shown p) judged same = absurd (cc)
same_piece (Shown o) (Other p) judged same = absurd (cc)
same_piece (Shown o) (OtherEnds p) judged same = absurd (cc)
same_piece (Shown o) (PassedOver p) judged same = absurd (cc)
same_piece (Shown o) (Shown p) judged same = ap (λ (x : List ℕ). Shown x) same

-- a piece stops nothing
no_stop : (piece : Piece) (judgement : Judgement) → judgement ≡ judgement_of_piece piece → ¬ IsStop judgement
no_stop (Other o) judgement is stops = subst IsStop is stops
no_stop (OtherEnds o) judgement is stops = subst IsStop is stops
no_stop (PassedOver o) judgement is stops = subst IsStop is stops
no_stop (Shown o) judgement is stops = subst IsStop is stops

-- ---- the whole text

piece_or_stop : (session : Session) (last : Option ℕ) (octets more : List ℕ) (piece : Piece) (judgement : Judgement) → octets ≡ octets_of piece ++ more
    → IsPiece session last piece → IsJudged session last octets judgement → IsStop judgement → ⊥
piece_or_stop session last octets more piece judgement whole is judged stops =
    no_stop piece judgement (one_judgement session last octets judgement (judgement_of_piece piece) judged
    (subst (λ (o : List ℕ). IsJudged session last o (judgement_of_piece piece)) (sym whole) (judged_on session last (octets_of piece) more (judgement_of_piece piece) is.whole is.judged)))
    stops

one_text_from : (session : Session) (last : Option ℕ) (octets : List ℕ) (pieces also : List Piece) (rest left : List ℕ) (judgement other : Judgement)
    → octets ≡ joined pieces ++ rest → octets ≡ joined also ++ left → ArePieces session last pieces → ArePieces session last also
    → IsJudged session (last_of last pieces) rest judgement → IsJudged session (last_of last also) left other → IsStop judgement → IsStop other
    → (pieces ≡ also) × (rest ≡ left) × (judgement ≡ other)
one_text_from session last octets [] [] rest left judgement other whole there are is judged says stops ends =
    (refl, sym whole ∙ there, one_judgement session last left judgement other (subst (λ (o : List ℕ). IsJudged session last o judgement) (sym whole ∙ there) judged) says)
one_text_from session last octets [] (piece ∷ also) rest left judgement other whole there are is judged says stops ends =
    absurd (piece_or_stop session last rest (joined also ++ left) piece judgement (sym whole ∙ there ∙ append_assoc (octets_of piece) (joined also) left) is.0 judged stops)
one_text_from session last octets (piece ∷ pieces) [] rest left judgement other whole there are is judged says stops ends =
    absurd (piece_or_stop session last left (joined pieces ++ rest) piece other (sym there ∙ whole ∙ append_assoc (octets_of piece) (joined pieces) rest) are.0 says ends)
one_text_from session last octets (piece ∷ pieces) (first ∷ also) rest left judgement other whole there are is judged says stops ends =
    let one = whole ∙ append_assoc (octets_of piece) (joined pieces) rest in
    let two = there ∙ append_assoc (octets_of first) (joined also) left in
    let same = sym one ∙ two in
    let front = same_front (octets_of piece) (octets_of first) (joined pieces ++ rest) (joined also ++ left) are.0.whole is.0.whole same in
    let alike = one_judgement session last octets (judgement_of_piece piece) (judgement_of_piece first)
    (subst (λ (o : List ℕ). IsJudged session last o (judgement_of_piece piece)) (sym one) (judged_on session last (octets_of piece) (joined pieces ++ rest) (judgement_of_piece piece) are.0.whole are.0.judged))
    (subst (λ (o : List ℕ). IsJudged session last o (judgement_of_piece first)) (sym two) (judged_on session last (octets_of first) (joined also ++ left) (judgement_of_piece first) is.0.whole is.0.judged)) in
    let head = same_piece piece first alike front in
    let behind = same_behind (octets_of piece) (octets_of first) (joined pieces ++ rest) (joined also ++ left) front same in
    let after = ap (λ (p : Piece). last_after last p) head in
    let later = one_text_from session (last_after last piece) (joined pieces ++ rest) pieces also rest left judgement other refl behind are.1
    (subst (λ (l : Option ℕ). ArePieces session l also) (sym after) is.1) judged
    (subst (λ (l : Option ℕ). IsJudged session (last_of l also) left other) (sym after) says) stops ends in
    (λ i. head i ∷ later.0 i, later.1, later.2)

pub one_text : OneText
one_text session octets pieces also rest left judgement other text there =
    one_text_from session None octets pieces also rest left judgement other text.whole there.whole text.each there.each text.last there.last text.stops there.stops

pub one_spelling : OneSpelling
one_spelling session octets records also spells there =
    let same = one_text session octets spells.pieces there.pieces [] [] End End spells.text there.text in
    spells.shown ∙ ap records_of same.0 ∙ sym there.shown

pub one_fault : OneFault
one_fault session octets records also kind other offset place fault there =
    let same = one_text session octets fault.pieces there.pieces fault.rest there.rest (Refused kind) (Refused other) fault.text there.text in
    let judged = same.2 in (
      fault.shown ∙ ap records_of same.0 ∙ sym there.shown,
      cc judged,
      fault.place ∙ ap (λ (p : List Piece). length (joined p)) same.0 ∙ sym there.place,
    )

pub never_both : NeverBoth
never_both session octets records also kind offset spells fault =
    let same = one_text session octets spells.pieces fault.pieces [] fault.rest End (Refused kind) spells.text fault.text in
    let judged = same.2 in absurd (cc judged)
