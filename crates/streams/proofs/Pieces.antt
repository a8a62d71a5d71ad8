-- A piece of octets, and what it gives first.
use Rattle.std.proofs.Common.{◌≡◌, ◌<◌, ◌≤◌, ◌+◌, ◌-◌, ◌∙◌, ℕ, Some, None, Option, List, refl, sym, ap, arith, true, inl, inr, length, take, drop, get_or, ◌⊎◌, length-drop}
use Rattle.std.specs.Option.{option_or, is_some}
use Rattle.std.proofs.lemmas.Bool.{cases_lt, cases_eq, lt-ltb, le-ltb, le-leb, lt-leb}
use Rattle.std.specs.List.{slice_range}
use Rattle.std.proofs.lemmas.List.{get_or-take, get_or-drop, length-take-le}
use Rattle.streams.specs.declared.gathered.Giver.{Giver}
use Rattle.streams.specs.declared.gathered.Given.{Given}
use Rattle.streams.specs.Given.{piece_at}

pub piece_before : (first : ℕ) (octets : List ℕ) (giver : Giver) (place : ℕ) → place < first → piece_at first octets giver place ≡ None
piece_before first octets giver place lt = rw (lt-leb first place lt)

pub piece_past : (first : ℕ) (octets : List ℕ) (giver : Giver) (place : ℕ) → first + length octets ≤ place → piece_at first octets giver place ≡ None
piece_past first octets giver place ge = rw (le-ltb place (first + length octets) ge, le-leb first place (omega arith))

pub piece_within : (first : ℕ) (octets : List ℕ) (giver : Giver) (place : ℕ) → first ≤ place → place < first + length octets → piece_at first octets giver place ≡ Some (record { octet = get_or octets (place - first) 0; giver = giver })
piece_within first octets giver place ge lt = rw (lt-ltb place (first + length octets) lt, le-leb first place ge)

-- one octet more
pub piece_here : (first : ℕ) (octets : List ℕ) (giver : Giver) (i : ℕ) → i < length octets → piece_at first (take (i + 1) octets) giver (first + i) ≡ Some (record { octet = get_or octets i 0; giver = giver })
piece_here first octets giver i lt =
    let size : length (take (i + 1) octets) ≡ i + 1 = length-take-le (i + 1) octets (omega arith) in
    let back : first + i - first ≡ i = omega arith in
    piece_within first (take (i + 1) octets) giver (first + i) (omega arith) (omega arith)
    ∙ ap (λ (o : ℕ). Some (record { octet = o; giver = giver })) (ap (λ (k : ℕ). get_or (take (i + 1) octets) k 0) back ∙ get_or-take (i + 1) octets i 0 (omega arith))

pub piece_elsewhere : (first : ℕ) (octets : List ℕ) (giver : Giver) (i place : ℕ) → i < length octets → (place ≡ first + i → ⊥) → piece_at first (take (i + 1) octets) giver place ≡ piece_at first (take i octets) giver place
piece_elsewhere first octets giver i place lt apart =
    let more : length (take (i + 1) octets) ≡ i + 1 = length-take-le (i + 1) octets (omega arith) in
    let size : length (take i octets) ≡ i = length-take-le i octets (omega arith) in
    elim (cases_lt place first) [
      | inl before ↦ piece_before first (take (i + 1) octets) giver place before ∙ sym (piece_before first (take i octets) giver place before)
      | inr after ↦ elim (cases_lt place (first + i)) [
        | inl within ↦
            piece_within first (take (i + 1) octets) giver place after (omega arith)
            ∙ ap (λ (o : ℕ). Some (record { octet = o; giver = giver })) (get_or-take (i + 1) octets (place - first) 0 (omega arith) ∙ sym (get_or-take i octets (place - first) 0 (omega arith)))
            ∙ sym (piece_within first (take i octets) giver place after (omega arith))
        | inr past ↦
            let beyond : first + (i + 1) ≤ place = elim (cases_eq place (first + i)) [ inl e ↦ absurd (apart e) | inr ne ↦ omega (arith, ne) ] in
            piece_past first (take (i + 1) octets) giver place (omega arith) ∙ sym (piece_past first (take i octets) giver place (omega arith))
      ]
    ]

kept : (o p : Option Given) → is_some (option_or o None) ≡ true → option_or o None ≡ option_or o p
kept (Some x) p h = refl
kept None p h = absurd (grind arith)

absent : (o p : Option Given) → option_or o p ≡ None → o ≡ None
absent None p h = refl
absent (Some x) p h = absurd (grind arith)

-- an octet that was given before stays as it was
pub step_given : (was now : ℕ → Option Given) (first : ℕ) (octets : List ℕ) (giver : Giver) (i place : ℕ) → i < length octets
    → is_some (now (first + i)) ≡ true
    → ((at : ℕ) → now at ≡ option_or (was at) (piece_at first (take i octets) giver at))
    → now place ≡ option_or (was place) (piece_at first (take (i + 1) octets) giver place)
step_given was now first octets giver i place lt given before =
    elim (cases_eq place (first + i)) [
      | inl e ↦
          let size : length (take i octets) ≡ i = length-take-le i octets (omega arith) in
          let none : piece_at first (take i octets) giver place ≡ None = piece_past first (take i octets) giver place (omega (arith, e)) in
          let told : now place ≡ option_or (was place) None = before place ∙ ap (λ o. option_or (was place) o) none in
          let is : is_some (now place) ≡ true = ap (λ (k : ℕ). is_some (now k)) e ∙ given in
          told ∙ kept (was place) (piece_at first (take (i + 1) octets) giver place) (sym (ap is_some told) ∙ is)
      | inr ne ↦ before place ∙ ap (λ o. option_or (was place) o) (sym (piece_elsewhere first octets giver i place lt ne))
    ]

-- an octet that wasn't is put
pub step_new : (was now then : ℕ → Option Given) (first : ℕ) (octets : List ℕ) (giver : Giver) (i place : ℕ) → i < length octets
    → now (first + i) ≡ None
    → ((at : ℕ) → now at ≡ option_or (was at) (piece_at first (take i octets) giver at))
    → then (first + i) ≡ Some (record { octet = get_or octets i 0; giver = giver })
    → ((at : ℕ) → (at ≡ first + i → ⊥) → then at ≡ now at)
    → then place ≡ option_or (was place) (piece_at first (take (i + 1) octets) giver place)
step_new was now then first octets giver i place lt none before put others =
    elim (cases_eq place (first + i)) [
      | inl e ↦
          let free : was (first + i) ≡ None = absent (was (first + i)) (piece_at first (take i octets) giver (first + i)) (sym (before (first + i)) ∙ none) in
          ap then e ∙ put ∙ sym (ap (λ (k : ℕ). option_or (was k) (piece_at first (take (i + 1) octets) giver k)) e ∙ ap (λ o. option_or o (piece_at first (take (i + 1) octets) giver (first + i))) free ∙ piece_here first octets giver i lt)
      | inr ne ↦ others place ne ∙ before place ∙ ap (λ o. option_or (was place) o) (sym (piece_elsewhere first octets giver i place lt ne))
    ]

-- ---- several octets more

-- elsewhere a longer front of the octets gives what a shorter one does
more_elsewhere : (first : ℕ) (octets : List ℕ) (giver : Giver) (k n place : ℕ) → k + n ≤ length octets → (place < first + k) ⊎ (first + k + n ≤ place)
    → piece_at first (take (k + n) octets) giver place ≡ piece_at first (take k octets) giver place
more_elsewhere first octets giver k n place fits apart =
    let more : length (take (k + n) octets) ≡ k + n = length-take-le (k + n) octets fits in
    let size : length (take k octets) ≡ k = length-take-le k octets (omega (arith, fits)) in
    elim apart [
      | inr past ↦ piece_past first (take (k + n) octets) giver place (omega (arith, past, more)) ∙ sym (piece_past first (take k octets) giver place (omega (arith, past, size)))
      | inl below ↦ elim (cases_lt place first) [
        | inl before ↦ piece_before first (take (k + n) octets) giver place before ∙ sym (piece_before first (take k octets) giver place before)
        | inr after ↦
            piece_within first (take (k + n) octets) giver place after (omega (arith, below, more))
            ∙ ap (λ (o : ℕ). Some (record { octet = o; giver = giver }))
            (get_or-take (k + n) octets (place - first) 0 (omega (arith, below, after)) ∙ sym (get_or-take k octets (place - first) 0 (omega (arith, below, after))))
            ∙ sym (piece_within first (take k octets) giver place after (omega (arith, below, size)))
      ]
    ]

length_between : (octets : List ℕ) (k n : ℕ) → k + n ≤ length octets → length (slice_range octets k (k + n)) ≡ n
length_between octets k n fits =
    let left = length-drop k octets in
    length-take-le (k + n - k) (drop k octets) (omega (arith, fits, left)) ∙ omega arith

-- and there it gives those of the octets that are more
more_there : (first : ℕ) (octets : List ℕ) (giver : Giver) (k n place : ℕ) → k + n ≤ length octets → first + k ≤ place → place < first + k + n
    → piece_at first (take (k + n) octets) giver place ≡ piece_at (first + k) (slice_range octets k (k + n)) giver place
more_there first octets giver k n place fits ge lt =
    let more : length (take (k + n) octets) ≡ k + n = length-take-le (k + n) octets fits in
    let size = length_between octets k n fits in
    let at : k + (place - (first + k)) ≡ place - first = omega (arith, ge) in
    piece_within first (take (k + n) octets) giver place (omega (arith, ge)) (omega (arith, lt, more))
    ∙ ap (λ (o : ℕ). Some (record { octet = o; giver = giver }))
    (get_or-take (k + n) octets (place - first) 0 (omega (arith, lt, ge))
    ∙ ap (λ (i : ℕ). get_or octets i 0) (sym at)
    ∙ sym (get_or-take (k + n - k) (drop k octets) (place - (first + k)) 0 (omega (arith, lt, ge)) ∙ get_or-drop k octets (place - (first + k)) 0))
    ∙ sym (piece_within (first + k) (slice_range octets k (k + n)) giver place ge (omega (arith, lt, size)))

or_assoc : (a b c : Option Given) → option_or (option_or a b) c ≡ option_or a (option_or b c)
or_assoc None b c = refl
or_assoc (Some x) b c = refl

none_after : (o : Option Given) → option_or o None ≡ o
none_after None = refl
none_after (Some x) = refl

-- a part that wasn't given is put
pub part_put : (was now later : ℕ → Option Given) (first : ℕ) (octets : List ℕ) (giver : Giver) (k n place : ℕ) → k + n ≤ length octets
    → ((at : ℕ) → now at ≡ option_or (was at) (piece_at first (take k octets) giver at))
    → ((at : ℕ) → later at ≡ option_or (now at) (piece_at (first + k) (slice_range octets k (k + n)) giver at))
    → later place ≡ option_or (was place) (piece_at first (take (k + n) octets) giver place)
part_put was now later first octets giver k n place fits so_far put =
    let size = length_between octets k n fits in
    let front : length (take k octets) ≡ k = length-take-le k octets (omega (arith, fits)) in
    let P = piece_at first (take k octets) giver place in
    let Q = piece_at (first + k) (slice_range octets k (k + n)) giver place in
    let W = piece_at first (take (k + n) octets) giver place in
    let both : option_or P Q ≡ W = elim (cases_lt place (first + k)) [
      | inl below ↦
          ap (λ (o : Option Given). option_or P o) (piece_before (first + k) (slice_range octets k (k + n)) giver place below) ∙ none_after P
          ∙ sym (more_elsewhere first octets giver k n place fits (inl below))
      | inr ge ↦
          let gone : P ≡ None = piece_past first (take k octets) giver place (omega (arith, ge, front)) in
          let rest : Q ≡ W = elim (cases_lt place (first + k + n)) [
            | inl lt ↦ sym (more_there first octets giver k n place fits ge lt)
            | inr past ↦ piece_past (first + k) (slice_range octets k (k + n)) giver place (omega (arith, past, size)) ∙ sym gone
                ∙ sym (more_elsewhere first octets giver k n place fits (inr past))
          ] in
          ap (λ (o : Option Given). option_or o Q) gone ∙ rest
    ] in
    put place
    ∙ ap (λ (o : Option Given). option_or o Q) (so_far place)
    ∙ or_assoc (was place) P Q
    ∙ ap (λ (o : Option Given). option_or (was place) o) both

-- a part that was given stays as it is
pub part_given : (was now : ℕ → Option Given) (first : ℕ) (octets : List ℕ) (giver : Giver) (k n place : ℕ) → k + n ≤ length octets
    → ((at : ℕ) → now at ≡ option_or (was at) (piece_at first (take k octets) giver at))
    → ((at : ℕ) → first + k ≤ at → at < first + k + n → is_some (now at) ≡ true)
    → now place ≡ option_or (was place) (piece_at first (take (k + n) octets) giver place)
part_given was now first octets giver k n place fits so_far given = elim (cases_lt place (first + k)) [
  | inl below ↦ so_far place ∙ ap (λ (o : Option Given). option_or (was place) o) (sym (more_elsewhere first octets giver k n place fits (inl below)))
  | inr ge ↦ elim (cases_lt place (first + k + n)) [
    | inr past ↦ so_far place ∙ ap (λ (o : Option Given). option_or (was place) o) (sym (more_elsewhere first octets giver k n place fits (inr past)))
    | inl lt ↦
        let front : length (take k octets) ≡ k = length-take-le k octets (omega (arith, fits)) in
        let told : now place ≡ option_or (was place) None =
        so_far place ∙ ap (λ (o : Option Given). option_or (was place) o) (piece_past first (take k octets) giver place (omega (arith, ge, front))) in
        told ∙ kept (was place) (piece_at first (take (k + n) octets) giver place) (sym (ap is_some told) ∙ given place ge lt)
  ]
]
