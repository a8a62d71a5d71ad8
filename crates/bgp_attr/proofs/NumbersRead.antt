-- Numbers read one at a time.
use Rattle.std.proofs.Common.{◌≡◌, ℕ, suc, ◌+◌, ◌-◌, ◌/◌, ◌≤◌, List, [], ◌∷◌, ◌++◌, length, drop, sym, ap, ◌∙◌, append_assoc, arith, append-nil}
use Rattle.std.proofs.lemmas.List.{length-drop}
use Rattle.byteorder.specs.Endian.{big_number}
use Rattle.bgp_attr.specs.Numbers.{numbers_in, items_in}

-- how many numbers of `size` octets there are, one less
abbrev pub StepsBy : ℕ → Type 0
StepsBy size = (n : ℕ) → size ≤ n → n / size ≡ suc ((n - size) / size)

pub by_two : StepsBy 2
by_two n h = omega arith

pub by_four : StepsBy 4
by_four n h = omega arith

pub by_eight : StepsBy 8
by_eight n h = omega arith

items_step : (size : ℕ) → StepsBy size → (octets : List ℕ) → size ≤ length octets → items_in size octets ≡ big_number size octets ∷ items_in size (drop size octets)
items_step size steps octets h =
    ap (λ (n : ℕ). numbers_in n size octets) (steps (length octets) h)
    ∙ ap (λ (n : ℕ). big_number size octets ∷ numbers_in (n / size) size (drop size octets)) (sym (length-drop size octets))

pub item_pushed : (size : ℕ) → StepsBy size → (old new rest after all : List ℕ) (number : ℕ) → size ≤ length rest → number ≡ big_number size rest → after ≡ drop size rest → new ≡ old ++ number ∷ []
    → old ++ items_in size rest ≡ all → new ++ items_in size after ≡ all
item_pushed size steps old new rest after all number enough is gone push before =
    rw (push, gone, is, append_assoc) (ap (λ (t : List ℕ). old ++ t) (sym (items_step size steps rest enough)) ∙ before)

pub items_done : (size : ℕ) (numbers rest all : List ℕ) → length rest / size ≡ 0 → numbers ++ items_in size rest ≡ all → numbers ≡ all
items_done size numbers rest all none h =
    let nothing : items_in size rest ≡ [] = ap (λ (n : ℕ). numbers_in n size rest) none in
    sym (append-nil numbers) ∙ ap (λ (t : List ℕ). numbers ++ t) (sym nothing) ∙ h

-- those that are to come fit beside those that came
pub room_left : (size : ℕ) → StepsBy size → (most : ℕ) (old new rest after : List ℕ) → size ≤ length rest → after ≡ drop size rest → length new ≡ length old + 1
    → length old + length rest / size ≤ most → length new + length after / size ≤ most
room_left size steps most old new rest after enough gone push before =
    let left : length after / size ≡ (length rest - size) / size = ap (λ (t : List ℕ). length t / size) gone ∙ ap (λ (n : ℕ). n / size) (length-drop size rest) in
    omega (arith, steps (length rest) enough, left, push, before)
