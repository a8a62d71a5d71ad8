-- In a range of that width just one number is congruent.
use Rattle.std.proofs.Common.{◌≡◌, ◌<◌, ◌≤◌, ◌+◌, ◌-◌, ◌*◌, ◌/◌, ◌%◌, ◌∙◌, ℕ, zero, refl, sym, ap, arith, inl, inr}
use Rattle.std.proofs.Math.Nat.{add-mod-mod, add-mod_right, add-mul-mod_self_right, mod-add-div, mod-lt, mul-le-mul_left}
use Rattle.std.proofs.lemmas.Bool.{cases_order}
use Rattle.streams.specs.Places.{range, half, raised_place}
use Rattle.streams.specs.Congruence.{IsPlace}

-- the next number from `next` on that is congruent to x
abbrev pub onward : ℕ → ℕ → ℕ → ℕ
onward r next x = next + (x + (r - next % r)) % r

onward_congruent : (r next x : ℕ) → zero < r → onward r next x % r ≡ x % r
onward_congruent r next x some =
    let lt : next % r < r = mod-lt next some in
    let parts : next % r + r * (next / r) ≡ next = mod-add-div next r in
    let q = next / r in
    let e : next + (x + (r - next % r)) ≡ x + r + q * r = omega (arith, lt, parts) in
    add-mod-mod next (x + (r - next % r)) r
    ∙ ap (λ (k : ℕ). k % r) e
    ∙ add-mul-mod_self_right (x + r) q r
    ∙ add-mod_right x r

-- two numbers less than r apart whose remainders are one are one
apart : (r a b : ℕ) → zero < r → a % r ≡ b % r → a / r < b / r → a + r ≤ b
apart r a b some same lt =
    let a_parts : a % r + r * (a / r) ≡ a = mod-add-div a r in
    let b_parts : b % r + r * (b / r) ≡ b = mod-add-div b r in
    let more : r * (a / r + 1) ≤ r * (b / r) = mul-le-mul_left r (omega (arith, lt)) in
    omega (arith, a_parts, b_parts, more, same)

only : (r next a b : ℕ) → zero < r → next ≤ a → a < next + r → next ≤ b → b < next + r → a % r ≡ b % r → a ≡ b
only r next a b some la ha lb hb same = elim (cases_order (a / r) (b / r)) [
  | inl e ↦
      let a_parts : a % r + r * (a / r) ≡ a = mod-add-div a r in
      let b_parts : b % r + r * (b / r) ≡ b = mod-add-div b r in
      sym a_parts ∙ ap (λ (k : ℕ). k + r * (a / r)) same ∙ ap (λ (k : ℕ). b % r + r * k) e ∙ b_parts
  | inr other ↦ elim other [
    | inl lt ↦ absurd (omega (arith, apart r a b some same lt, la, hb))
    | inr gt ↦ absurd (omega (arith, apart r b a some (sym same) gt, lb, ha))
  ]
]

onward_within : (r next x : ℕ) → zero < r → onward r next x < next + r
onward_within r next x some = omega (arith, mod-lt (x + (r - next % r)) some)

raised_is : (next offset : ℕ) → raised_place next offset ≡ onward range next (offset + half)
unfolding raised_place
raised_is next offset = refl

some_range : zero < range
some_range = omega arith

pub only_place : (next offset : ℕ) → IsPlace next offset (raised_place next offset) × ((raised : ℕ) → IsPlace next offset raised → raised ≡ raised_place next offset)
only_place next offset =
    let is = raised_is next offset in
    let within : raised_place next offset < next + range = omega (arith, is, onward_within range next (offset + half) some_range) in
    let from : next ≤ raised_place next offset = omega (arith, is) in
    let congruent : raised_place next offset % range ≡ (offset + half) % range = ap (λ (k : ℕ). k % range) is ∙ onward_congruent range next (offset + half) some_range in (
      record { from_next = from; within = within; congruent = congruent },
      λ raised h. only range next raised (raised_place next offset) some_range h.from_next h.within from within (h.congruent ∙ sym congruent),
    )
