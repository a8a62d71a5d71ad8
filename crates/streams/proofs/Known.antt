-- The octets known, and their givers.
use Rattle.std.proofs.Common.{◌≡◌, ◌<◌, ◌≤◌, ◌+◌, ◌-◌, ◌∙◌, ℕ, Some, None, Option, List, [], ◌∷◌, ◌++◌, refl, sym, ap, arith, inl, inr, length, get_or, length-append}
use Rattle.std.specs.Option.{option_or, option_map, option_and_then}
use Rattle.std.specs.List.{slice_get}
use Rattle.std.proofs.lemmas.Bool.{cases_lt, lt-ltb, le-ltb, le-leb}
use Rattle.std.proofs.lemmas.Option.{slice_get-get_or, slice_get_past}
use Rattle.std.proofs.lemmas.List.{get_or_append_left, get_or-append_right}
use Rattle.streams.specs.declared.connection.Run.{Run}
use Rattle.streams.specs.declared.gathered.Giver.{Giver}
use Rattle.streams.specs.declared.gathered.Given.{Given}
use Rattle.streams.specs.Given.{total, giver_at, known_at, piece_at, run_giver}
use Rattle.streams.proofs.Runs.{below, total-cons}

-- a place of the runs has a giver, and a place after them none
pub giver_within : (runs : List Run) (place : ℕ) → place < total runs → (giver : Giver) × (giver_at runs place ≡ Some giver)
giver_within [] place h = absurd (omega arith)
giver_within (r ∷ rs) place h =
    elim (cases_lt place r.count) [
      | inl lt ↦ (run_giver r, rw (lt-ltb place r.count lt))
      | inr ge ↦
          let rest = giver_within rs (place - r.count) (omega (arith, total-cons r rs)) in
          (rest.0, rw (le-ltb place r.count ge) rest.1)
    ]

pub giver_past : (runs : List Run) (place : ℕ) → total runs ≤ place → giver_at runs place ≡ None
giver_past [] place h = refl
giver_past (r ∷ rs) place h = rw (le-ltb place r.count (omega (arith, total-cons r rs))) (giver_past rs (place - r.count) (omega (arith, total-cons r rs)))

-- what an octet and a giver, if there are both, tell
abbrev pub joined : Option ℕ → Option Giver → Option Given
joined octet giver = option_and_then
    (λ o. option_map (λ g. record { octet = o; giver = g }) giver) octet

slice_get-append_left : (xs ys : List ℕ) (i : ℕ) → i < length xs → slice_get (xs ++ ys) i ≡ slice_get xs i
slice_get-append_left xs ys i h =
    slice_get-get_or (xs ++ ys) i 0 (omega (arith, length-append xs ys))
    ∙ ap (λ (x : ℕ). Some x) (get_or_append_left xs ys 0 i h)
    ∙ sym (slice_get-get_or xs i 0 h)

pub slice_get-append_right : (xs ys : List ℕ) (i : ℕ) → length xs ≤ i → slice_get (xs ++ ys) i ≡ slice_get ys (i - length xs)
slice_get-append_right xs ys i h =
    elim (cases_lt (i - length xs) (length ys)) [
      | inl lt ↦
          slice_get-get_or (xs ++ ys) i 0 (omega (arith, length-append xs ys))
          ∙ ap (λ (x : ℕ). Some x) (get_or-append_right xs ys (length xs) i 0 refl h)
          ∙ sym (slice_get-get_or ys (i - length xs) 0 lt)
      | inr ge ↦
          slice_get_past (xs ++ ys) i (omega (arith, length-append xs ys))
          ∙ sym (slice_get_past ys (i - length xs) ge)
    ]

behind : (more : List ℕ) (place n t : ℕ) (giver : Giver) → t ≡ n → n ≤ place → joined (slice_get more (place - n)) (below (t + length more) giver place) ≡ piece_at n more giver place
behind more place n t giver e ge =
    elim (cases_lt (place - n) (length more)) [
      | inl lt ↦ rw (slice_get-get_or more (place - n) 0 lt, lt-ltb place (t + length more) (omega arith), lt-ltb place (n + length more) (omega arith), le-leb n place ge)
      | inr past ↦ rw (slice_get_past more (place - n) past, le-ltb place (n + length more) (omega arith), le-leb n place ge)
    ]

pub known-append : (known more : List ℕ) (before after : List Run) (giver : Giver) (place : ℕ) → total before ≡ length known
    → giver_at after place ≡ option_or (giver_at before place) (below (total before + length more) giver place)
    → known_at (known ++ more) after place ≡ option_or (known_at known before place) (piece_at (length known) more giver place)
known-append known more before after giver place covered added =
    elim (cases_lt place (length known)) [
      | inl lt ↦
          let whose = giver_within before place (omega arith) in
          let here : slice_get known place ≡ Some (get_or known place 0) = slice_get-get_or known place 0 lt in
          let there : slice_get (known ++ more) place ≡ slice_get known place = slice_get-append_left known more place lt in
          let now : giver_at after place ≡ Some whose.0 = added ∙ ap (λ o. option_or o (below (total before + length more) giver place)) whose.1 in
          ap (λ o. joined o (giver_at after place)) (there ∙ here) ∙ ap (λ w. joined (Some (get_or known place 0)) w) now
          ∙ sym (ap (λ o. option_or (joined o (giver_at before place)) (piece_at (length known) more giver place)) here
          ∙ ap (λ w. option_or (joined (Some (get_or known place 0)) w) (piece_at (length known) more giver place)) whose.1)
      | inr ge ↦
          let past : giver_at before place ≡ None = giver_past before place (omega arith) in
          let none : slice_get known place ≡ None = slice_get_past known place ge in
          let there : slice_get (known ++ more) place ≡ slice_get more (place - length known) = slice_get-append_right known more place ge in
          let now : giver_at after place ≡ below (total before + length more) giver place = added ∙ ap (λ o. option_or o (below (total before + length more) giver place)) past in
          ap (λ o. joined o (giver_at after place)) there ∙ ap (λ w. joined (slice_get more (place - length known)) w) now
          ∙ behind more place (length known) (total before) giver covered ge
          ∙ sym (ap (λ o. option_or (joined o (giver_at before place)) (piece_at (length known) more giver place)) none)
    ]

-- a place of the octets known has an octet and a giver, and a place after them none
pub known_within : (octets : List ℕ) (runs : List Run) (place : ℕ) → total runs ≡ length octets → place < length octets → (giver : Giver) × (known_at octets runs place ≡ Some (record { octet = get_or octets place 0; giver = giver }))
known_within octets runs place covered lt =
    let whose = giver_within runs place (omega arith) in
    (whose.0, ap (λ o. joined o (giver_at runs place)) (slice_get-get_or octets place 0 lt) ∙ ap (λ w. joined (Some (get_or octets place 0)) w) whose.1)

pub known_past : (octets : List ℕ) (runs : List Run) (place : ℕ) → length octets ≤ place → known_at octets runs place ≡ None
known_past octets runs place ge = ap (λ o. joined o (giver_at runs place)) (slice_get_past octets place ge)

-- ---- one list after another

giver_left : (runs more : List Run) (place : ℕ) → place < total runs → giver_at (runs ++ more) place ≡ giver_at runs place
giver_left [] more place h = absurd (omega (arith, h))
giver_left (r ∷ rs) more place h =
    elim (cases_lt place r.count) [
      | inl lt ↦ rw (lt-ltb place r.count lt) refl
      | inr ge ↦ rw (le-ltb place r.count ge) (giver_left rs more (place - r.count) (omega (arith, h, ge, total-cons r rs)))
    ]

giver_right : (runs more : List Run) (place : ℕ) → total runs ≤ place → giver_at (runs ++ more) place ≡ giver_at more (place - total runs)
giver_right [] more place h = ap (λ (k : ℕ). giver_at more k) (omega arith)
giver_right (r ∷ rs) more place h =
    let ge : r.count ≤ place = omega (arith, h, total-cons r rs) in
    let back : place - r.count - total rs ≡ place - total (r ∷ rs) = omega (arith, total-cons r rs) in
    rw (le-ltb place r.count ge) (giver_right rs more (place - r.count) (omega (arith, h, total-cons r rs)) ∙ ap (λ (k : ℕ). giver_at more k) back)

pub join_left : (octets others : List ℕ) (runs more : List Run) (place : ℕ) → total runs ≡ length octets → place < length octets
    → known_at (octets ++ others) (runs ++ more) place ≡ known_at octets runs place
join_left octets others runs more place covered lt =
    ap (λ o. joined o (giver_at (runs ++ more) place)) (slice_get-append_left octets others place lt)
    ∙ ap (λ w. joined (slice_get octets place) w) (giver_left runs more place (omega (arith, covered, lt)))

pub join_right : (octets others : List ℕ) (runs more : List Run) (place : ℕ) → total runs ≡ length octets → length octets ≤ place
    → known_at (octets ++ others) (runs ++ more) place ≡ known_at others more (place - length octets)
join_right octets others runs more place covered ge =
    ap (λ o. joined o (giver_at (runs ++ more) place)) (slice_get-append_right octets others place ge)
    ∙ ap (λ w. joined (slice_get others (place - length octets)) w)
    (giver_right runs more place (omega (arith, covered, ge)) ∙ ap (λ (k : ℕ). giver_at more (place - k)) covered)
