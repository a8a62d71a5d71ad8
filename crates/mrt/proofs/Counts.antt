-- How many records are skipped, of pieces behind other pieces.
use Rattle.std.proofs.Common.{◌≡◌, ◌∙◌, ℕ, Bool, true, false, ◌+◌, List, [], ◌∷◌, ◌++◌, refl, sym, ap, arith, cond}
use Rattle.std.specs.List.{count_by}
use Rattle.std.proofs.lemmas.List.Sums.{sum_by-append}
use Rattle.mrt.specs.declared.skipped.Skip.{Skip}
use Rattle.mrt.specs.declared.skipped.Skip.TheVariants as skips
use Rattle.mrt.specs.declared.skipped.SkippedRecords.{SkippedRecords}
use Rattle.mrt.specs.Layout.{header_of, body_of}
use Rattle.mrt.specs.Capture.{Piece, Other, OtherEnds, PassedOver, Shown}
use Rattle.mrt.specs.Skipped.{IsSkipOf, piece_for, is_other_kind, is_other_session, is_received, is_sent, is_refresh, skipped_in, none_skipped, both_skipped, one_more}

count_chain : (p : Piece → Bool) (from : ℕ) (first second : List Piece) → from + count_by p (first ++ second) ≡ (from + count_by p first) + count_by p second
count_chain p from first second =
    let both = sum_by-append (λ piece. cond (p piece) 1 0) first second in omega (arith, both)

pub counts_chain : (from : SkippedRecords) (first second : List Piece)
    → both_skipped from (skipped_in (first ++ second)) ≡ both_skipped (both_skipped from (skipped_in first)) (skipped_in second)
counts_chain from first second =
    let kinds = count_chain is_other_kind from.other_kinds first second in
    let sessions = count_chain is_other_session from.other_sessions first second in
    let received = count_chain (is_refresh is_received) from.received_refreshes first second in
    let sent = count_chain (is_refresh is_sent) from.sent_refreshes first second in
    λ i. record { other_kinds = kinds i; other_sessions = sessions i; received_refreshes = received i; sent_refreshes = sent i }

none_add : (n : ℕ) → 0 + n ≡ n
none_add n = omega arith

add_none : (n : ℕ) → n + 0 ≡ n
add_none n = omega arith

-- from none on
pub counts_from_none : (pieces : List Piece) → both_skipped none_skipped (skipped_in pieces) ≡ skipped_in pieces
counts_from_none pieces =
    let skipped = skipped_in pieces in
    let kinds = none_add skipped.other_kinds in
    let sessions = none_add skipped.other_sessions in
    let received = none_add skipped.received_refreshes in
    let sent = none_add skipped.sent_refreshes in
    λ i. record { other_kinds = kinds i; other_sessions = sessions i; received_refreshes = received i; sent_refreshes = sent i }

pub chained_counts : (first second : List Piece) → both_skipped (skipped_in first) (skipped_in second) ≡ skipped_in (first ++ second)
chained_counts first second =
    ap (λ (s : SkippedRecords). both_skipped s (skipped_in second)) (sym (counts_from_none first))
    ∙ sym (counts_chain none_skipped first second)
    ∙ counts_from_none (first ++ second)

-- behind no piece, and behind one that is none of the skipped
pub no_counts : (from : SkippedRecords) → both_skipped from (skipped_in []) ≡ from
no_counts from =
    let kinds = add_none from.other_kinds in
    let sessions = add_none from.other_sessions in
    let received = add_none from.received_refreshes in
    let sent = add_none from.sent_refreshes in
    λ i. record { other_kinds = kinds i; other_sessions = sessions i; received_refreshes = received i; sent_refreshes = sent i }

-- behind one piece
count_one : (p : Piece → Bool) (from : ℕ) (piece : Piece) (one : Bool) → p piece ≡ one → from + count_by p (piece ∷ []) ≡ from + cond one 1 0
count_one p from piece one is = ap (λ (n : ℕ). from + n) (none_add (cond (p piece) 1 0)) ∙ ap (λ (b : Bool). from + cond b 1 0) is

count_no : (p : Piece → Bool) (from : ℕ) (piece : Piece) → p piece ≡ false → from + count_by p (piece ∷ []) ≡ from
count_no p from piece is = count_one p from piece false is ∙ add_none from

pub counts_shown : (from : SkippedRecords) (octets : List ℕ) → both_skipped from (skipped_in (Shown octets ∷ [])) ≡ from
counts_shown from octets =
    let kinds = count_no is_other_kind from.other_kinds (Shown octets) refl in
    let sessions = count_no is_other_session from.other_sessions (Shown octets) refl in
    let received = count_no (is_refresh is_received) from.received_refreshes (Shown octets) refl in
    let sent = count_no (is_refresh is_sent) from.sent_refreshes (Shown octets) refl in
    λ i. record { other_kinds = kinds i; other_sessions = sessions i; received_refreshes = received i; sent_refreshes = sent i }

-- behind one that is skipped
pub counts_one : (from : SkippedRecords) (skip : Skip) (octets : List ℕ) → IsSkipOf skip (header_of octets) (body_of octets)
    → both_skipped from (skipped_in (piece_for skip octets ∷ [])) ≡ one_more from skip
counts_one from skips.OtherKind octets is =
    let kinds = count_one is_other_kind from.other_kinds (Other octets) true refl in
    let sessions = count_no is_other_session from.other_sessions (Other octets) refl in
    let received = count_no (is_refresh is_received) from.received_refreshes (Other octets) refl in
    let sent = count_no (is_refresh is_sent) from.sent_refreshes (Other octets) refl in
    λ i. record { other_kinds = kinds i; other_sessions = sessions i; received_refreshes = received i; sent_refreshes = sent i }
counts_one from (skips.OtherSession ends) octets is =
    let kinds = count_no is_other_kind from.other_kinds (OtherEnds octets) refl in
    let sessions = count_one is_other_session from.other_sessions (OtherEnds octets) true refl in
    let received = count_no (is_refresh is_received) from.received_refreshes (OtherEnds octets) refl in
    let sent = count_no (is_refresh is_sent) from.sent_refreshes (OtherEnds octets) refl in
    λ i. record { other_kinds = kinds i; other_sessions = sessions i; received_refreshes = received i; sent_refreshes = sent i }
counts_one from skips.RefreshReceived octets is =
    let kinds = count_no is_other_kind from.other_kinds (PassedOver octets) refl in
    let sessions = count_no is_other_session from.other_sessions (PassedOver octets) refl in
    let received = count_one (is_refresh is_received) from.received_refreshes (PassedOver octets) true (ap is_received is) in
    let sent = count_no (is_refresh is_sent) from.sent_refreshes (PassedOver octets) (ap is_sent is) in
    λ i. record { other_kinds = kinds i; other_sessions = sessions i; received_refreshes = received i; sent_refreshes = sent i }
counts_one from skips.RefreshSent octets is =
    let kinds = count_no is_other_kind from.other_kinds (PassedOver octets) refl in
    let sessions = count_no is_other_session from.other_sessions (PassedOver octets) refl in
    let received = count_no (is_refresh is_received) from.received_refreshes (PassedOver octets) (ap is_received is) in
    let sent = count_one (is_refresh is_sent) from.sent_refreshes (PassedOver octets) true (ap is_sent is) in
    λ i. record { other_kinds = kinds i; other_sessions = sessions i; received_refreshes = received i; sent_refreshes = sent i }
