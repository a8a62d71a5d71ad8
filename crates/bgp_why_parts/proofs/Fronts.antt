-- The front of a text, and whether the text is too long.
use Rattle.std.proofs.Common.{◌≡◌, ◌∙◌, ◌++◌, ◌+◌, ◌-◌, ◌<◌, ◌≤◌, ℕ, Bool, true, false, List, [], inl, inr, lit<, ap, append-nil, arith, codes, drop, length, length-append, min, refl, slice_index, subst, sym, take}
use Rattle.std.proofs.lemmas.Bool.{cases_lt, le-ltb, lt-ltb}
use Rattle.std.proofs.Math.Nat.{min_comm}
use Rattle.std.proofs.Math.Seq.{take-append-add, take-length}
use Rattle.std.proofs.lemmas.List.{length-take-le, get_or-take, take-append-drop, take-append-le, take_all, take_min}
use Rattle.mrt.specs.declared.sink.Sink as sinks
use Rattle.bgp_names.specs.Lines.{Writes}
use Rattle.bgp_names.specs.DeclaredLines.{Lines}
use Rattle.bgp_names.proofs.Fresh.{IsFresh, all_taken, one_counted}
use Rattle.bgp_why_parts.specs.Cut.{cut, shown_count, Keeps}

module _ (text : List ℕ) where
  split : length (take 256 text) + length (drop 256 text) ≡ length text
  split = sym (length-append (take 256 text) (drop 256 text)) ∙ ap length (take-append-drop 256 text)

  -- so many octets of the front are those of the text
  same_front : (count : ℕ) → count ≤ length (take 256 text) → take count text ≡ take count (take 256 text)
  same_front count within =
      sym (ap (take count) (take-append-drop 256 text)) ∙ take-append-le count (take 256 text) (drop 256 text) within

  same_octet : (i : ℕ) → i < 256 → slice_index (take 256 text) i ≡ slice_index text i
  same_octet i within = get_or-take 256 text i 0 within

  -- of a text that is too long as many are shown as of its front
  pub same_count : (front : List ℕ) → front ≡ take 256 text → shown_count front ≡ shown_count text
  same_count front is =
      rw (is, same_octet 200 (lit< tt), same_octet 199 (lit< tt), same_octet 198 (lit< tt)) refl

  -- what is longer than is shown is cut
  pub cut_long : (count : ℕ) (front : List ℕ) → front ≡ take 256 text → 200 < length front → count ≡ shown_count front → count ≤ 200
      → take count front ++ codes " .." ≡ cut text
  unfolding cut
  cut_long count front is long counted few =
      let beyond : 200 < length (take 256 text) = subst (λ (f : List ℕ). 200 < length f) is long in
      let parts = split in
      let longer : 200 < length text = omega (arith, beyond, parts) in
      let counts : count ≡ shown_count text = counted ∙ same_count front is in
      rw (lt-ltb 200 (length text) longer)
      (ap (λ (t : List ℕ). t ++ codes " ..")
      (ap (take count) is ∙ sym (same_front count (omega (arith, beyond, few))) ∙ ap (λ (n : ℕ). take n text) counts))

  -- and what isn't is whole
  whole : length (take 256 text) ≤ 200 → take 256 text ≡ cut text
  unfolding cut
  whole short = elim (cases_lt 256 (length text)) [
    | inl more ↦ absurd (let full = length-take-le 256 text (omega (arith, more)) in omega (arith, full, short))
    | inr fits ↦
        let all = take_all 256 text fits in
        let within : length text ≤ 200 = subst (λ (t : List ℕ). length t ≤ 200) all short in
        rw (le-ltb 200 (length text) within) all
  ]

  pub cut_short : (front : List ℕ) → front ≡ take 256 text → length front ≤ 200 → front ≡ cut text
  cut_short front is short = is ∙ whole (subst (λ (f : List ℕ). length f ≤ 200) is short)

-- ---- a room

-- where the front of a text is kept, the front of more of it is as much of that as there is room for
grown : (all octets : List ℕ) → take 256 all ++ take (256 - length (take 256 all)) octets ≡ take 256 (all ++ octets)
grown all octets = elim (cases_lt (length all) 256) [
  | inl less ↦
      let same = take_all 256 all (omega (arith, less)) in
      ap (λ (front : List ℕ). front ++ take (256 - length front) octets) same
      ∙ sym (take-append-add all octets (256 - length all))
      ∙ ap (λ (n : ℕ). take n (all ++ octets)) (let e : length all + (256 - length all) ≡ 256 = omega (arith, less) in e)
  | inr full ↦
      let count = length-take-le 256 all full in
      ap (λ (n : ℕ). take 256 all ++ take n octets) (let e : 256 - length (take 256 all) ≡ 0 = omega (arith, count) in e)
      ∙ append-nil (take 256 all)
      ∙ sym (take-append-le 256 all octets full)
]

pub keeps_more : (all octets old new kept : List ℕ) (count : ℕ) → old ≡ take 256 all → count ≡ min (length octets) (256 - length old) → kept ≡ take count octets
    → new ≡ old ++ kept → new ≡ take 256 (all ++ take (length octets) octets)
keeps_more all octets old new kept count front few is so =
    so ∙ ap (λ (k : List ℕ). old ++ k) (is ∙ ap (λ (n : ℕ). take n octets) (few ∙ min_comm (length octets) (256 - length old)) ∙ take_min (256 - length old) octets)
    ∙ ap (λ (o : List ℕ). o ++ take (256 - length o) octets) front
    ∙ grown all octets
    ∙ ap (λ (o : List ℕ). take 256 (all ++ o)) (sym (take-length octets))

-- what was put into fresh lines is what a room keeps the front of, which never fails
module _ {W : Type 0} {sink : sinks.Ghosts W} (kept : W → List ℕ) (keeps : (a b : W) (xs : List ℕ) → sink.takes a b xs → Keeps (kept a) (kept b) xs)
    (fine : (a : W) → sink.failures a ≡ 0) (lines lines' : Lines W sink) (text : List ℕ) (fresh : IsFresh lines) (wrote : Writes lines lines' text) where
  is_calm : (b : Bool) → lines'.outlet.has_failed ≡ b → lines'.outlet.has_failed ≡ false
  is_calm false calm = calm
  is_calm true failed =
      let counted : 0 ≡ 0 + 1 = sym (fine lines'.outlet.sink.now) ∙ one_counted lines lines' text fresh wrote failed ∙ ap (λ (n : ℕ). n + 1) (fine lines.outlet.sink.now) in
      absurd (omega (arith, counted))

  pub front_of : kept lines.outlet.sink.now ≡ [] → lines'.held.items ≡ [] → kept lines'.outlet.sink.now ≡ take 256 text
  front_of empty none =
      keeps lines.outlet.sink.now lines'.outlet.sink.now wrote.taken wrote.took [] empty
      ∙ ap (take 256) (sym (all_taken lines lines' text fresh wrote none (is_calm lines'.outlet.has_failed refl)))
