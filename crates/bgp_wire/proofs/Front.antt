-- What stands at the front of a stream is a frame, less than one, or a faulty header, and only one of these.
use Rattle.std.proofs.Common.{Bool, true, false, ◌≡◌, ◌∙◌, ◌≤◌, ◌++◌, ◌+◌, ℕ, List, length, take, drop, refl, sym, ap, subst, inl, inr, arith, if◌then◌else◌, ◌==◌}
use Rattle.std.proofs.lemmas.List.{take-take, length-take-le, take-append-drop, take-append-le, length-append}
use Rattle.std.proofs.lemmas.Bool.{cases_lt}
use Rattle.byteorder.specs.Endian.{big_bytes}
use Rattle.bgp_wire.specs.declared.header.Limit.{Limit}
use Rattle.bgp_wire.specs.Header.{header_of, length_of, type_of, least_length, IsSound}
use Rattle.bgp_wire.specs.Framing.{IsFrame, IsShort, IsFaulty}

chosen_at_least : (b : Bool) (m n k : ℕ) → k ≤ m → k ≤ n → k ≤ (if b then m else n)
chosen_at_least true m n k hm hn = hm
chosen_at_least false m n k hm hn = hn

-- no type allows less than a header
pub least_is_a_header : (kind : ℕ) → 19 ≤ least_length kind
least_is_a_header kind =
    chosen_at_least (kind == 1) _ _ 19 (omega arith)
    (chosen_at_least (kind == 2) _ _ 19 (omega arith) (chosen_at_least (kind == 3) _ _ 19 (omega arith) (omega arith)))

-- the Length of a sound header is at least the header's own
pub sound_length : (limit : Limit) (header : List ℕ) → IsSound limit header → 19 ≤ length_of header
sound_length limit header sound =
    elim (cases_lt (length_of header) (least_length (type_of header))) [
      | inl less ↦ absurd (sound 2 (big_bytes 2 (length_of header)) (inr (inl (refl, inl less, refl))))
      | inr enough ↦ omega (arith, least_is_a_header (type_of header))
    ]

-- the header of the first n octets is that of all of them
pub header_of-take : (n : ℕ) (octets : List ℕ) → 19 ≤ n → header_of (take n octets) ≡ header_of octets
header_of-take n octets h = take-take 19 n octets h

-- as many octets as the Length of a sound header says are a frame
pub front_is_frame : (limit : Limit) (octets : List ℕ) (n : ℕ) → IsSound limit (header_of octets)
    → n ≡ length_of (header_of octets) → n ≤ length octets → IsFrame limit (take n octets)
front_is_frame limit octets n sound is enough =
    let long : 19 ≤ n = omega (arith, sound_length limit (header_of octets) sound) in
    let same = header_of-take n octets long in
    let count = length-take-le n octets enough in
    record {
      header = omega arith;
      sound = subst (λ (h : List ℕ). IsSound limit h) (sym same) sound;
      whole = count ∙ is ∙ sym (ap length_of same);
    }

-- the front and what is behind it are all
pub front_and_rest : (octets : List ℕ) (n : ℕ) → n ≤ length octets
    → octets ≡ take n octets ++ drop (length (take n octets)) octets
front_and_rest octets n enough = rw (length-take-le n octets enough) (sym (take-append-drop n octets))

-- the header of a frame at the front is the header at the front
pub header_of-frame : (limit : Limit) (octets frame rest : List ℕ) → IsFrame limit frame
    → octets ≡ frame ++ rest → header_of octets ≡ header_of frame
header_of-frame limit octets frame rest whole is =
    ap header_of is ∙ take-append-le 19 frame rest whole.header

-- a frame doesn't stand where a faulty header does
pub faulty_no_frame : (limit : Limit) (octets frame rest : List ℕ) → IsFaulty limit octets
    → IsFrame limit frame → octets ≡ frame ++ rest → ⊥
faulty_no_frame limit octets frame rest faulty whole is =
    faulty.1 (subst (λ (h : List ℕ). IsSound limit h) (sym (header_of-frame limit octets frame rest whole is)) whole.sound)

-- nor does less than a frame
pub faulty_not_short : (limit : Limit) (octets : List ℕ) → IsFaulty limit octets → IsShort limit octets → ⊥
faulty_not_short limit octets faulty short = elim short [
  | inl less ↦ omega (arith, faulty.0, less)
  | inr whole ↦ faulty.1 whole.1
]

-- less than a frame doesn't begin with one
pub short_no_frame : (limit : Limit) (octets frame rest : List ℕ) → IsShort limit octets
    → IsFrame limit frame → octets ≡ frame ++ rest → ⊥
short_no_frame limit octets frame rest short whole is =
    let count : length octets ≡ length frame + length rest = ap length is ∙ length-append frame rest in
    let header = header_of-frame limit octets frame rest whole is in
    elim short [
      | inl less ↦ omega (arith, whole.header)
      | inr part ↦ omega (arith, part.2, whole.whole, ap length_of header)
    ]
