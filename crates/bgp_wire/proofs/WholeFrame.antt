-- What holds of a frame: it is a whole message of its type, as long as that type needs.
use Rattle.std.proofs.Common.{◌≡◌, ◌↔◌, ◌∙◌, ◌⊎◌, ◌<◌, ◌≤◌, ◌∷◌, [], Bool, false, IsTrue, ℕ, List, length, refl, sym, ap, subst, inl, inr, arith}
use Rattle.std.proofs.lemmas.List.{length-drop}
use Rattle.std.proofs.lemmas.Bool.{cases_lt, cases_eq}
use Rattle.byteorder.specs.Endian.{big_bytes}
use Rattle.bgp_wire.specs.declared.header.Limit.{Limit}
use Rattle.bgp_wire.specs.Header.{header_of, length_of, type_of, least_length, IsSound}
use Rattle.bgp_wire.specs.Message.{IsMessage, IsKeepalive, body_of}
use Rattle.bgp_wire.specs.Framing.{IsFrame}
use Rattle.bgp_wire.proofs.EachFraming.{marker_or_not}

-- the Length of a sound header is at least that of its type's fixed fields
pub least_holds : (limit : Limit) (header : List ℕ) (kind : ℕ) → IsSound limit header → type_of header ≡ kind
    → least_length kind ≤ length_of header
least_holds limit header kind sound is =
    elim (cases_lt (length_of header) (least_length kind)) [
      | inl less ↦
          let bad : length_of header < least_length (type_of header) = subst (λ (k : ℕ). length_of header < least_length k) (sym is) less in
          absurd (sound 2 (big_bytes 2 (length_of header)) (inr (inl (refl, inl bad, refl))))
      | inr enough ↦ enough
    ]

pub frame_is_message : (limit : Limit) (frame : List ℕ) (kind : ℕ) → IsFrame limit frame → type_of (header_of frame) ≡ kind
    → IsMessage kind frame
frame_is_message limit frame kind whole is = record {
  header = whole.header;
  marker = elim (marker_or_not (header_of frame)) [
    | inl marker ↦ marker
    | inr broken ↦ absurd (whole.sound 1 [] (inl (refl, broken)))
  ];
  count = sym whole.whole;
  type_field = is;
}

-- a frame is of one of the four types
pub type_of_frame : (limit : Limit) (frame : List ℕ) → IsFrame limit frame
    → (type_of (header_of frame) ≡ 1) ⊎ (type_of (header_of frame) ≡ 2) ⊎ (type_of (header_of frame) ≡ 3)
    ⊎ (type_of (header_of frame) ≡ 4)
type_of_frame limit frame whole =
    let kind = type_of (header_of frame) in
    elim (cases_eq kind 1) [
      | inl is ↦ inl is
      | inr not1 ↦ elim (cases_eq kind 2) [
        | inl is ↦ inr (inl is)
        | inr not2 ↦ elim (cases_eq kind 3) [
          | inl is ↦ inr (inr (inl is))
          | inr not3 ↦ elim (cases_eq kind 4) [
            | inl is ↦ inr (inr (inr is))
            | inr not4 ↦ absurd (whole.sound 3 (big_bytes 1 kind) (inr (inr (refl, (not1, not2, not3, not4), refl))))
          ]
        ]
      ]
    ]

-- nothing has no octets
empty_of : (octets : List ℕ) → length octets ≡ 0 → octets ≡ []
empty_of [] h = refl
empty_of (o ∷ os) h = absurd (cc)

-- a frame of a KEEPALIVE is a header alone
pub frame_is_keepalive : (limit : Limit) (frame : List ℕ) → IsFrame limit frame → type_of (header_of frame) ≡ 4
    → IsKeepalive frame
frame_is_keepalive limit frame whole is =
    elim (cases_eq (length_of (header_of frame)) 19) [
      | inl exact ↦
          let none : length (body_of frame) ≡ 0 = omega (arith, length-drop 19 frame, whole.whole, exact) in
          (frame_is_message limit frame 4 whole is, empty_of (body_of frame) none)
      | inr other ↦
          absurd (whole.sound 2 (big_bytes 2 (length_of (header_of frame))) (inr (inl (refl, inr (inr (is, other)), refl))))
    ]

-- octets behind a faulty header are no frame
pub no_frame : (limit : Limit) (octets header : List ℕ) → header ≡ header_of octets → (IsSound limit header → ⊥)
    → (IsTrue false ↔ IsFrame limit octets)
no_frame limit octets header e faulty =
    (λ t. absurd (cc), λ whole. absurd (faulty (subst (λ (h : List ℕ). IsSound limit h) (sym e) whole.sound)))

-- octets behind a sound header are a frame exactly where they are as many as it says
pub frame_by_count : (limit : Limit) (octets header : List ℕ) (count : ℕ) (are_so_many : Bool) → header ≡ header_of octets → 19 ≤ length octets
    → IsSound limit header → count ≡ length_of header → (IsTrue are_so_many ↔ (length octets ≡ count))
    → (IsTrue are_so_many ↔ IsFrame limit octets)
frame_by_count limit octets header count are_so_many e long sound is told = (
  λ t. record {
    header = long;
    sound = subst (λ (h : List ℕ). IsSound limit h) e sound;
    whole = told.0 t ∙ is ∙ ap length_of e;
  },
  λ whole. told.1 (whole.whole ∙ sym (is ∙ ap length_of e)),
)
