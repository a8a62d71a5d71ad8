-- A whole message of a known type whose Length is within its limits is a frame, and the other way round.
use Rattle.std.proofs.Common.{◌≡◌, ◌<◌, ◌+◌, ◌^◌, ℕ, List, length, refl, sym, subst, inl, inr, arith}
use Rattle.std.proofs.lemmas.List.{length-drop}
use Rattle.std.proofs.lemmas.Bool.{cases_lt}
use Rattle.byteorder.specs.Endian.{big_bytes}
use Rattle.bgp_wire.specs.declared.header.Limit.{Limit}
use Rattle.bgp_wire.specs.declared.header.MessageType.{MessageType}
use Rattle.bgp_wire.specs.declared.header.MessageType.TheVariants.{Open, Update, Notification, Keepalive}
use Rattle.bgp_wire.specs.Header.{IsBadLength, IsBadType, greatest_length, header_of, length_of, type_of}
use Rattle.bgp_wire.specs.Message.{IsMessage, IsKeepalive, body_of, message_octets}
use Rattle.bgp_wire.specs.Verdict.{type_code}
use Rattle.bgp_wire.specs.Framing.{IsFrame}
use Rattle.bgp_wire.proofs.GreatestLength.{allows_4096, fits_two_octets}
use Rattle.bgp_wire.proofs.WholeFrame.{frame_is_message, type_of_frame}
use Rattle.bgp_wire.proofs.WrittenMessage.{written_message, body_of-message_octets, length-message_octets}

pub message_is_frame : (limit : Limit) (kind : ℕ) (octets : List ℕ) → IsMessage kind octets → (IsBadType kind → ⊥)
    → (IsBadLength limit kind (length octets) → ⊥) → IsFrame limit octets
message_is_frame limit kind octets message known fits = record {
  header = message.header;
  sound = λ subcode detail fault. elim fault [
    | inl a ↦ a.1 message.marker
    | inr b ↦ elim b [
      | inl c ↦
          fits (subst (λ (n : ℕ). IsBadLength limit kind n) message.count
          (subst (λ (k : ℕ). IsBadLength limit k (length_of (header_of octets))) message.type_field c.1))
      | inr d ↦ known (subst IsBadType message.type_field d.1)
    ]
  ];
  whole = sym message.count;
}

-- each kind of message has a known type
pub known_type : (kind : MessageType) → IsBadType (type_code kind) → ⊥
known_type Open bad = bad.0 refl
known_type Update bad = bad.1 refl
known_type Notification bad = bad.2 refl
known_type Keepalive bad = bad.3 refl

pub keepalive_is_frame : (limit : Limit) (octets : List ℕ) → IsKeepalive octets → IsFrame limit octets
keepalive_is_frame limit octets keepalive =
    let header = keepalive.0.header in
    let body : length (body_of octets) ≡ 0 = rw keepalive.1 refl in
    let exact : length octets ≡ 19 = omega (arith, length-drop 19 octets) in
    let room = allows_4096 limit 4 in
    message_is_frame limit 4 octets keepalive.0 (λ bad. bad.3 refl) (λ bad. elim bad [
      | inl few ↦ absurd (omega arith)
      | inr more ↦ elim more [ inl many ↦ absurd (omega arith) | inr other ↦ other.1 exact ]
    ])

-- a Length that isn't bad is one of two octets
fits_field : (limit : Limit) (kind count : ℕ) → (IsBadLength limit kind count → ⊥) → count < 2 ^ 16
fits_field limit kind count fits =
    let short = fits_two_octets limit kind in
    elim (cases_lt (greatest_length limit kind) count) [
      | inl many ↦ absurd (fits (inr (inl many)))
      | inr few ↦ omega arith
    ]

pub written_is_frame : (limit : Limit) (kind : MessageType) (body : List ℕ)
    → (IsBadLength limit (type_code kind) (19 + length body) → ⊥)
    → IsFrame limit (message_octets (type_code kind) body) × (body_of (message_octets (type_code kind) body) ≡ body)
written_is_frame limit kind body fits = (
  message_is_frame limit (type_code kind) (message_octets (type_code kind) body)
      (written_message (type_code kind) body (fits_field limit (type_code kind) (19 + length body) fits)) (known_type kind)
      (λ bad. fits (subst (λ (n : ℕ). IsBadLength limit (type_code kind) n) (length-message_octets (type_code kind) body) bad)),
  body_of-message_octets (type_code kind) body,
)

abbrev IsSized : Limit → List ℕ → MessageType → Type 0
IsSized limit octets kind = IsMessage (type_code kind) octets × (¬ IsBadLength limit (type_code kind) (length octets))

of_type : (limit : Limit) (octets : List ℕ) (kind : MessageType) → IsFrame limit octets → type_of (header_of octets) ≡ type_code kind
    → IsSized limit octets kind
of_type limit octets kind whole is = (
  frame_is_message limit octets (type_code kind) whole is,
  λ bad.
      let here : IsBadLength limit (type_of (header_of octets)) (length_of (header_of octets)) =
      subst (λ (k : ℕ). IsBadLength limit k (length_of (header_of octets))) (sym is)
      (subst (λ (n : ℕ). IsBadLength limit (type_code kind) n) whole.whole bad) in
      whole.sound 2 (big_bytes 2 (length_of (header_of octets))) (inr (inl (refl, here, refl))),
)

pub frame_is_whole : (limit : Limit) (octets : List ℕ) → IsFrame limit octets
    → (kind : MessageType) × IsMessage (type_code kind) octets × (¬ IsBadLength limit (type_code kind) (length octets))
frame_is_whole limit octets whole = elim (type_of_frame limit octets whole) [
  | inl is ↦ let sized = of_type limit octets Open whole is in (Open, sized.0, sized.1)
  | inr a ↦ elim a [
    | inl is ↦ let sized = of_type limit octets Update whole is in (Update, sized.0, sized.1)
    | inr b ↦ elim b [
      | inl is ↦ let sized = of_type limit octets Notification whole is in (Notification, sized.0, sized.1)
      | inr is ↦ let sized = of_type limit octets Keepalive whole is in (Keepalive, sized.0, sized.1)
    ]
  ]
]
