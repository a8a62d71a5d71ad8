-- Each stream splits into frames and a rest.
use Rattle.std.proofs.Common.{Bool, true, false, Option, Some, None, IsSome, IfSome, IsTrue, ◌↔◌, ◌≡◌, ◌⊎◌, ◌∙◌, ◌≤◌, ◌++◌, ◌∷◌, [], ℕ, zero, suc, List, length, take, drop, refl, sym, ap, inl, inr, append_assoc, arith}
use Rattle.std.proofs.lemmas.List.{length-drop, take-append-drop}
use Rattle.std.proofs.lemmas.List.Elements.{All-cons, All-nil}
use Rattle.std.proofs.lemmas.Bool.{cases_lt, cases_eq}
use Rattle.byteorder.specs.Endian.{big_bytes}
use Rattle.bgp_wire.specs.declared.header.Limit.{Limit}
use Rattle.bgp_wire.specs.Header.{IsSynchronized, header_of, length_of, type_of, least_length, greatest_length, IsBadLength, IsBadType, IsSound}
use Rattle.bgp_wire.specs.declared.header.HeaderFaults.{HeaderFaults}
use Rattle.bgp_wire.specs.Header.{IsUnsynchronized}
use Rattle.bgp_wire.specs.Verdict.{AreFaults}
use Rattle.bgp_wire.proofs.EachFault.{same_faults}
use Rattle.bgp_wire.specs.Framing.{IsFrame, IsFraming, joined}
use Rattle.bgp_wire.proofs.Decided.{Either, decided_all}
use Rattle.bgp_wire.proofs.Front.{front_is_frame, sound_length}

-- the marker is whole or not
pub marker_or_not : (header : List ℕ) → Either (IsSynchronized header)
marker_or_not header = decided_all (λ (octet : ℕ). octet ≡ 255) (λ octet. cases_eq octet 255) (take 16 header)

bad_length : (limit : Limit) (kind count : ℕ) → Either (IsBadLength limit kind count)
bad_length limit kind count = elim (cases_lt count (least_length kind)) [
  | inl less ↦ inl (inl less)
  | inr enough ↦ elim (cases_lt (greatest_length limit kind) count) [
    | inl more ↦ inl (inr (inl more))
    | inr within ↦ elim (cases_eq kind 4) [
      | inl keepalive ↦ elim (cases_eq count 19) [
        | inl exact ↦ inr (λ bad. elim bad [ inl a ↦ omega (arith, a, enough) | inr b ↦ elim b [ inl c ↦ omega (arith, c, within) | inr d ↦ d.1 exact ] ])
        | inr other ↦ inl (inr (inr (keepalive, other)))
      ]
      | inr another ↦ inr (λ bad. elim bad [ inl a ↦ omega (arith, a, enough) | inr b ↦ elim b [ inl c ↦ omega (arith, c, within) | inr d ↦ another d.0 ] ])
    ]
  ]
]

bad_type : (kind : ℕ) → Either (IsBadType kind)
bad_type kind = elim (cases_eq kind 1) [
  | inl is ↦ inr (λ bad. bad.0 is)
  | inr not1 ↦ elim (cases_eq kind 2) [
    | inl is ↦ inr (λ bad. bad.1 is)
    | inr not2 ↦ elim (cases_eq kind 3) [
      | inl is ↦ inr (λ bad. bad.2 is)
      | inr not3 ↦ elim (cases_eq kind 4) [
        | inl is ↦ inr (λ bad. bad.3 is)
        | inr not4 ↦ inl (not1, not2, not3, not4)
      ]
    ]
  ]
]

-- a header has a fault or none
pub sound_or_not : (limit : Limit) (header : List ℕ) → IsSound limit header ⊎ (¬ IsSound limit header)
sound_or_not limit header = elim (marker_or_not header) [
  | inr broken ↦ inr (λ sound. sound 1 [] (inl (refl, broken)))
  | inl marker ↦ elim (bad_length limit (type_of header) (length_of header)) [
    | inl bad ↦ inr (λ sound. sound 2 (big_bytes 2 (length_of header)) (inr (inl (refl, bad, refl))))
    | inr good_length ↦ elim (bad_type (type_of header)) [
      | inl bad ↦ inr (λ sound. sound 3 (big_bytes 1 (type_of header)) (inr (inr (refl, bad, refl))))
      | inr good_type ↦ inl (λ subcode detail fault. elim fault [
        | inl a ↦ a.1 marker
        | inr b ↦ elim b [ inl c ↦ good_length c.1 | inr d ↦ good_type d.1 ]
      ])
    ]
  ]
]

-- a header has a set of faults, which may be empty
pub each_faults : (limit : Limit) (header : List ℕ) → (faults : HeaderFaults) × AreFaults limit header faults
each_faults limit header =
    let marker : (b : Bool) × (IsTrue b ↔ IsUnsynchronized header) =
    elim (marker_or_not header) [
      | inl whole ↦ (false, (λ impossible. absurd (cc), λ broken. absurd (broken whole)))
      | inr broken ↦ (true, (λ _. broken, λ _. refl))
    ]
    in
    let bad : (o : Option ℕ) × (IsSome o ↔ IsBadLength limit (type_of header) (length_of header)) × IfSome o (λ n. n ≡ length_of header) =
    elim (bad_length limit (type_of header) (length_of header)) [
      | inl is ↦ (Some (length_of header), (λ _. is, λ _. refl), refl)
      | inr not_so ↦ (None, (λ impossible. absurd (cc), λ is. absurd (not_so is)), tt)
    ]
    in
    let kind : (o : Option ℕ) × (IsSome o ↔ IsBadType (type_of header)) × IfSome o (λ n. n ≡ type_of header) =
    elim (bad_type (type_of header)) [
      | inl is ↦ (Some (type_of header), (λ _. is, λ _. refl), refl)
      | inr not_so ↦ (None, (λ impossible. absurd (cc), λ is. absurd (not_so is)), tt)
    ]
    in
    let faults : HeaderFaults = record { marker = marker.0; length = bad.0; kind = kind.0 } in (
      faults,
      same_faults limit header faults
          (record { marker = marker.1; bad_length = bad.1; length_field = bad.2; bad_type = kind.1; type_field = kind.2 }),
    )

-- a stream of at most so many octets
framing_within : (most : ℕ) (limit : Limit) (stream : List ℕ) → length stream ≤ most
    → (frames : List (List ℕ)) × (rest : List ℕ) × IsFraming limit stream frames rest
framing_within zero limit stream few =
    ([], stream, record { whole = refl; each = All-nil (IsFrame limit); last = inl (inl (omega arith)) })
framing_within (suc most) limit stream few = elim (cases_lt (length stream) 19) [
  | inl less ↦ ([], stream, record { whole = refl; each = All-nil (IsFrame limit); last = inl (inl less) })
  | inr enough ↦ elim (sound_or_not limit (header_of stream)) [
    | inr faulty ↦ ([], stream, record { whole = refl; each = All-nil (IsFrame limit); last = inr (enough, faulty) })
    | inl sound ↦ elim (cases_lt (length stream) (length_of (header_of stream))) [
      | inl part ↦ ([], stream, record { whole = refl; each = All-nil (IsFrame limit); last = inl (inr (enough, sound, part)) })
      | inr whole ↦
          let count = length_of (header_of stream) in
          let long : 19 ≤ count = sound_length limit (header_of stream) sound in
          let fewer : length (drop count stream) ≤ most = omega (arith, length-drop count stream) in
          let behind = framing_within most limit (drop count stream) fewer in
          let front = take count stream in
          let all : stream ≡ front ++ drop count stream = sym (take-append-drop count stream) in (
            front ∷ behind.0,
            behind.1,
            record {
              whole = all ∙ ap (λ (rest : List ℕ). front ++ rest) behind.2.whole ∙ sym (append_assoc front (joined behind.0) behind.1);
              each = All-cons (IsFrame limit) front behind.0 (front_is_frame limit stream count sound refl whole) behind.2.each;
              last = behind.2.last;
            },
          )
    ]
  ]
]

pub each_framing : (limit : Limit) (stream : List ℕ)
    → (frames : List (List ℕ)) × (rest : List ℕ) × IsFraming limit stream frames rest
each_framing limit stream = framing_within (length stream) limit stream (omega arith)
