-- Pieces of a stream, one after another, and what stands where none does.
use Rattle.std.proofs.Common.{◌≡◌, ◌∙◌, ◌≤◌, ◌+◌, ℕ, List, [], ◌∷◌, ◌++◌, drop, take, length, ap, subst, sym, refl, inr, arith, append_assoc, append-nil}
use Rattle.std.proofs.lemmas.List.{drop-drop, length-append, length-take-le, take-append-le, take-take}
use Rattle.byteorder.specs.Endian.{big_bytes}
use Rattle.bgp_wire.specs.declared.header.Limit.{Limit}
use Rattle.bgp_wire.specs.Framing.{IsFrame}
use Rattle.bgp_wire.specs.Header.{header_of, length_of, type_of, IsSound, IsSynchronized}
use Rattle.mrt.specs.Rules.{IsWholeRefresh}
use Rattle.bgp_recording.specs.declared.framing.Framing.{Framing}
use Rattle.bgp_recording.specs.Pieces.{Piece, Kept, PassedOver, octets_in, stream_of, kept, passed_over, IsPiece, IsRefreshHeader}

-- ---- one more

pub stream_on : (pieces : List Piece) (p : Piece) → stream_of (pieces ++ p ∷ []) ≡ stream_of pieces ++ octets_in p
stream_on [] p = append-nil (octets_in p)
stream_on (q ∷ qs) p = ap (λ (os : List ℕ). octets_in q ++ os) (stream_on qs p) ∙ sym (append_assoc (octets_in q) (stream_of qs) (octets_in p))

pub kept_on : (pieces : List Piece) (octets : List ℕ) → kept (pieces ++ Kept octets ∷ []) ≡ kept pieces ++ octets ∷ []
kept_on [] octets = refl
kept_on (Kept q ∷ qs) octets = ap (λ (fs : List (List ℕ)). q ∷ fs) (kept_on qs octets)
kept_on (PassedOver q ∷ qs) octets = kept_on qs octets

pub kept_past : (pieces : List Piece) (octets : List ℕ) → kept (pieces ++ PassedOver octets ∷ []) ≡ kept pieces
kept_past [] octets = refl
kept_past (Kept q ∷ qs) octets = ap (λ (fs : List (List ℕ)). q ∷ fs) (kept_past qs octets)
kept_past (PassedOver q ∷ qs) octets = kept_past qs octets

pub passed_on : (pieces : List Piece) (octets : List ℕ) → passed_over (pieces ++ Kept octets ∷ []) ≡ passed_over pieces
passed_on [] octets = refl
passed_on (Kept q ∷ qs) octets = passed_on qs octets
passed_on (PassedOver q ∷ qs) octets = ap (λ (n : ℕ). 1 + n) (passed_on qs octets)

pub passed_past : (pieces : List Piece) (octets : List ℕ) → passed_over (pieces ++ PassedOver octets ∷ []) ≡ 1 + passed_over pieces
passed_past [] octets = refl
passed_past (Kept q ∷ qs) octets = passed_past qs octets
passed_past (PassedOver q ∷ qs) octets = ap (λ (n : ℕ). 1 + n) (passed_past qs octets)

pub whole_on : (octets : List ℕ) (pieces : List Piece) (p : Piece) (place : ℕ) → octets ≡ stream_of pieces ++ drop place octets
    → drop place octets ≡ octets_in p ++ drop (length (octets_in p)) (drop place octets) → octets ≡ stream_of (pieces ++ p ∷ []) ++ drop (place + length (octets_in p)) octets
whole_on octets pieces p place whole front =
    whole ∙ ap (λ (os : List ℕ). stream_of pieces ++ os) (front ∙ ap (λ (os : List ℕ). octets_in p ++ os) (drop-drop (length (octets_in p)) place octets))
    ∙ sym (append_assoc (stream_of pieces) (octets_in p) (drop (place + length (octets_in p)) octets))
    ∙ ap (λ (os : List ℕ). os ++ drop (place + length (octets_in p)) octets) (sym (stream_on pieces p))

pub reaches_on : (pieces : List Piece) (p : Piece) (place : ℕ) → length (stream_of pieces) ≡ place → length (stream_of (pieces ++ p ∷ [])) ≡ place + length (octets_in p)
reaches_on pieces p place reaches = ap length (stream_on pieces p) ∙ length-append (stream_of pieces) (octets_in p) ∙ ap (λ n. n + length (octets_in p)) reaches

-- ---- a piece at the front

-- its header is that of all octets
pub header_of_front : (octets front rest : List ℕ) → 19 ≤ length front → octets ≡ front ++ rest → header_of octets ≡ header_of front
header_of_front octets front rest long is = ap header_of is ∙ take-append-le 19 front rest long

-- it has a header, and as many octets as that says
pub piece_whole : (framing : Framing) (p : Piece) → IsPiece framing p → (19 ≤ length (octets_in p)) × (length (octets_in p) ≡ length_of (header_of (octets_in p)))
piece_whole framing (Kept octets) h = (h.header, h.whole)
piece_whole framing (PassedOver octets) h = (h.1.least, sym h.1.count)

pub header_of_whole : (octets : List ℕ) → IsWholeRefresh octets → IsRefreshHeader (header_of octets)
header_of_whole octets h = record {
  marker = h.marker;
  least = omega (arith, h.least, h.count);
  greatest = omega (arith, h.greatest, h.count);
  kind = h.kind;
}

-- its type is a fault
pub refresh_not_sound : (limit : Limit) (header : List ℕ) → IsSound limit header → IsRefreshHeader header → ⊥
refresh_not_sound limit header sound h =
    sound 3 (big_bytes 1 (type_of header)) (inr (inr (refl, (λ e. omega (arith, e, h.kind), λ e. omega (arith, e, h.kind), λ e. omega (arith, e, h.kind), λ e. omega (arith, e, h.kind)), refl)))

pub frame_no_refresh : (limit : Limit) (octets : List ℕ) → IsFrame limit octets → IsWholeRefresh octets → ⊥
frame_no_refresh limit octets frame h = refresh_not_sound limit (header_of octets) frame.sound (header_of_whole octets h)

-- a header at fault that isn't that of a whole ROUTE-REFRESH isn't one itself
pub header_no_refresh : (octets : List ℕ) → ¬ IsRefreshHeader (header_of octets) → IsWholeRefresh octets → ⊥
header_no_refresh octets none h = none (header_of_whole octets h)

-- as many octets as the header says
pub whole_by : (octets : List ℕ) (n : ℕ) → IsRefreshHeader (header_of octets) → n ≡ length_of (header_of octets) → n ≤ length octets → IsWholeRefresh (take n octets)
whole_by octets n h is enough =
    let count = length-take-le n octets enough in
    let same : header_of (take n octets) ≡ header_of octets = take-take 19 n octets (omega (arith, is, h.least)) in
    record {
      least = omega (arith, count, is, h.least);
      greatest = omega (arith, count, is, h.greatest);
      marker = subst (λ (header : List ℕ). IsSynchronized header) (sym same) h.marker;
      count = ap length_of same ∙ sym is ∙ sym count;
      kind = ap type_of same ∙ h.kind;
    }
