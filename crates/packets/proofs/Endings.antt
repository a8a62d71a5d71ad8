-- The total length at the end of a block.
use Rattle.std.proofs.Common.{◌≡◌, ◌≤◌, ◌∙◌, ◌-◌, ◌+◌, ◌++◌, ℕ, List, [], length, drop, refl, sym, ap, arith, append-nil, length-drop, length-append, subst, ◌==◌, not, Bool, true, false, Option, inr}
use Rattle.std.specs.Bool.{then_some}
use Rattle.std.proofs.lemmas.Bool.{eqb-true, eqb-false}
use Rattle.packets.specs.declared.fault.FaultKind.{FaultKind}
use Rattle.packets.specs.declared.fault.FaultKind.TheVariants as kinds
use Rattle.packets.specs.Reading.{IsPassedOver}
use Rattle.std.proofs.Math.Seq.{drop-append-add}
use Rattle.packets.specs.declared.order.Order.{Order}
use Rattle.packets.specs.Order.{number_in}
use Rattle.packets.specs.Pcapng.{end_len}

pub end_of_rest : (order : Order) (head rest : List ℕ) → length head ≡ 12 → 4 ≤ length rest
    → end_len order head rest ≡ number_in order 4 (drop (length rest - 4) rest)
unfolding end_len
end_of_rest order head rest many long =
    let word : length (drop 8 head) ≡ 4 = length-drop 8 head ∙ omega arith in
    let apart : length rest ≡ length (drop 8 head) + (length rest - 4) = omega arith in
    ap (λ (n : ℕ). number_in order 4 (drop n (drop 8 head ++ rest))) apart
    ∙ ap (λ (o : List ℕ). number_in order 4 o) (drop-append-add (drop 8 head) rest (length rest - 4))

pub end_of_none : (order : Order) (head : List ℕ) → end_len order head [] ≡ number_in order 4 (drop 8 head)
unfolding end_len
end_of_none order head = ap (λ (o : List ℕ). number_in order 4 o) (append-nil (drop 8 head))

-- a block of which all was passed over, by the total length that it ends with
pub passed_over : (order : Order) (head : List ℕ) (len : ℕ) (octets : List ℕ) (ended : Bool) (found : ℕ) (fault : Option FaultKind)
    → 12 + length octets ≡ len → found ≡ end_len order head octets → fault ≡ then_some (not (found == len)) kinds.Block
    → IsPassedOver order head len octets ended fault
passed_over order head len octets ended found fault whole is told =
    by_test (found == len) refl
  where
    by_test : (b : Bool) → (found == len) ≡ b → IsPassedOver order head len octets ended fault
    by_test true same =
        subst (λ (f : Option FaultKind). IsPassedOver order head len octets ended f)
        (sym (told ∙ ap (λ (b : Bool). then_some (not b) kinds.Block) same))
        (whole, sym is ∙ eqb-true found len same)
    by_test false other =
        subst (λ (f : Option FaultKind). IsPassedOver order head len octets ended f)
        (sym (told ∙ ap (λ (b : Bool). then_some (not b) kinds.Block) other))
        (inr (refl, whole, λ e. eqb-false found len other (is ∙ e)))

-- a Section Header of which all was read, its version first, by the last four octets
pub section_end : (order : Order) (head version rest last : List ℕ) (len found : ℕ) → length head ≡ 12 → length version ≡ 4 → 28 ≤ len
    → length rest ≡ len - 16 → drop (len - 16 - 4) rest ≡ last → found ≡ number_in order 4 last
    → (12 + length (version ++ rest) ≡ len) × (found ≡ end_len order head (version ++ rest))
section_end order head version rest last len found many also long left ends is =
    let both = length-append version rest in
    let apart : length (version ++ rest) - 4 ≡ length version + (len - 16 - 4) = omega arith in (
      omega arith,
      is
          ∙ ap (λ (o : List ℕ). number_in order 4 o) (sym ends ∙ sym (drop-append-add version rest (len - 16 - 4)) ∙ ap (λ (n : ℕ). drop n (version ++ rest)) (sym apart))
          ∙ sym (end_of_rest order head (version ++ rest) many (omega arith)),
    )
