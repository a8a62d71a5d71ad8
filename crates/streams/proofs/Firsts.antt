-- The first place of some kind, step by step.
use Rattle.std.proofs.Common.{◌≡◌, ◌<◌, ◌≤◌, ◌+◌, inl, inr, max, nat_lt, nat_le, ◌∙◌, ℕ, Some, None, Option, Bool, true, false, cond, List, [], ◌∷◌, length, drop, sym, ap, arith, refl}
use Rattle.std.specs.Option.{is_some, is_none}
use Rattle.std.proofs.lemmas.List.{drop_more}
use Rattle.streams.specs.declared.gathered.Given.{Given}
use Rattle.std.proofs.lemmas.Bool.{cases_lt, lt-ltb, le-ltb, le-leb, lt-leb}
use Rattle.streams.specs.Given.{first_new, first_conflict, first_after, contradicts, octet_of, ends_before}

unsome : (o : Option Given) → false ≡ is_some o → is_none o ≡ true
unsome None h = refl
unsome (Some x) h = absurd (grind arith)

some : (o : Option Given) → true ≡ is_some o → is_none o ≡ false
some None h = absurd (grind arith)
some (Some x) h = refl

pub new_here : (given : ℕ → Option Given) (place i : ℕ) (octets : List ℕ) → i < length octets → false ≡ is_some (given (place + i)) → first_new given (place + i) (drop i octets) ≡ Some (place + i)
new_here given place i octets lt h =
    ap (first_new given (place + i)) (drop_more octets i 0 lt)
    ∙ ap (λ (t : Bool). cond t (Some (place + i)) (first_new given (place + i + 1) (drop (i + 1) octets))) (unsome (given (place + i)) h)

pub new_after : (given : ℕ → Option Given) (place i : ℕ) (octets : List ℕ) → i < length octets → true ≡ is_some (given (place + i)) → first_new given (place + (i + 1)) (drop (i + 1) octets) ≡ first_new given (place + i) (drop i octets)
new_after given place i octets lt h =
    let next : place + (i + 1) ≡ place + i + 1 = omega arith in
    ap (λ (k : ℕ). first_new given k (drop (i + 1) octets)) next
    ∙ sym (ap (first_new given (place + i)) (drop_more octets i 0 lt)
    ∙ ap (λ (t : Bool). cond t (Some (place + i)) (first_new given (place + i + 1) (drop (i + 1) octets))) (some (given (place + i)) h))

free : (given : Option Given) (fin : Option ℕ) (place octet : ℕ) → given ≡ None → contradicts (octet_of given) fin place octet ≡ ends_before fin place
free given fin place octet none = ap (λ (o : Option Given). contradicts (octet_of o) fin place octet) none

-- where nothing was given, an octet contradicts nothing but the FIN
pub nothing_given : (given : ℕ → Option Given) (fin : Option ℕ) (place : ℕ) (octets : List ℕ) → ((p : ℕ) → place ≤ p → given p ≡ None) → first_after fin place (length octets) ≡ first_conflict given fin place octets
nothing_given given None place [] none = refl
nothing_given given None place (octet ∷ octets) none =
    nothing_given given None (place + 1) octets (λ p ge. none p (omega (arith, ge)))
    ∙ sym (ap (λ (t : Bool). cond t (Some place) (first_conflict given None (place + 1) octets)) (free (given place) None place octet (none place (omega arith))))
nothing_given given (Some fin) place [] none = rw (le-ltb (max fin place) (place + 0) (omega arith))
nothing_given given (Some fin) place (octet ∷ octets) none =
    let clash : contradicts (octet_of (given place)) (Some fin) place octet ≡ nat_le fin place = free (given place) (Some fin) place octet (none place (omega arith)) in
    elim (cases_lt place fin) [
      | inl lt ↦
          let before : max fin place ≡ max fin (place + 1) = omega arith in
          let size : place + length (octet ∷ octets) ≡ place + 1 + length octets = omega arith in
          ap (λ (n : ℕ). cond (nat_lt n (place + length (octet ∷ octets))) (Some n) None) before
          ∙ ap (λ (n : ℕ). cond (nat_lt (max fin (place + 1)) n) (Some (max fin (place + 1))) None) size
          ∙ nothing_given given (Some fin) (place + 1) octets (λ p ge. none p (omega (arith, ge)))
          ∙ sym (ap (λ (t : Bool). cond t (Some place) (first_conflict given (Some fin) (place + 1) octets)) (clash ∙ lt-leb fin place lt))
      | inr ge ↦
          let here : max fin place ≡ place = omega arith in
          let size : place < place + length (octet ∷ octets) = omega arith in
          ap (λ (n : ℕ). cond (nat_lt n (place + length (octet ∷ octets))) (Some n) None) here
          ∙ ap (λ (t : Bool). cond t (Some place) None) (lt-ltb place (place + length (octet ∷ octets)) size)
          ∙ sym (ap (λ (t : Bool). cond t (Some place) (first_conflict given (Some fin) (place + 1) octets)) (clash ∙ le-leb fin place ge))
    ]
