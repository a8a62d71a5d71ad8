-- Errors one after another, of which the last waits until it is known whether another follows.
use Rattle.std.proofs.Common.{◌≡◌, ◌∙◌, ◌++◌, ◌+◌, ◌∷◌, ◌&&◌, ◌<◌, ◌≤◌, ℕ, Bool, true, false, List, [], Option, None, Some, if◌then◌else◌, is_none, refl, ap, sym, length, drop, get_or, append-nil, append_assoc, add-one, codes}
use Rattle.std.proofs.Math.ListN.{drop_of_length-le}
use Rattle.std.proofs.Math.Seq.{drop-cons}
use Rattle.bgp_why.specs.declared.errors.ErrorCode.{ErrorCode}
use Rattle.bgp_why.specs.declared.errors.Waiting.{Waiting}
use Rattle.bgp_why.specs.Errors.{error_text, errors_in, errors_text, more_errors}
use Rattle.bgp_why.specs.Waiting.{last_by, last_text, passed, with}

-- what is left to put, if these follow what waits
abbrev pub left_by : List ℕ → Bool → Option ErrorCode → List ErrorCode → List ℕ
left_by word true None errors = errors_text word errors
left_by word true (Some error) errors = errors_text word (error ∷ errors)
left_by word false None errors = []
left_by word false (Some error) errors = more_errors word (error ∷ errors)

abbrev pub left : List ℕ → Waiting → List ErrorCode → List ℕ
left word waiting errors = left_by word waiting.is_first waiting.error errors

-- where something was put, something waits
abbrev pub IsWaiting : Waiting → Type 0
IsWaiting waiting = waiting.is_first ≡ false → is_none waiting.error ≡ false

pub still_waiting : (waiting : Waiting) (error : Option ErrorCode) → IsWaiting waiting → IsWaiting (with waiting error)
still_waiting waiting None waits = waits
still_waiting waiting (Some error) waits = λ _. refl

-- the one that waits is the first, and another follows
first_step : (word : List ℕ) (waits error : ErrorCode) (errors : List ErrorCode)
    → errors_text word (waits ∷ error ∷ errors) ≡ error_text waits ++ more_errors word (error ∷ errors)
first_step word waits error errors = refl

-- it isn't the first
later_step : (word : List ℕ) (waits error : ErrorCode) (errors : List ErrorCode)
    → more_errors word (waits ∷ error ∷ errors) ≡ (codes ", " ++ error_text waits) ++ more_errors word (error ∷ errors)
later_step word waits error errors = refl

step_by : (word : List ℕ) (is_first : Bool) (waits error : Option ErrorCode) (errors : List (Option ErrorCode)) → (is_first ≡ false → is_none waits ≡ false)
    → left word (record { is_first = is_first; error = waits }) (errors_in (error ∷ errors))
    ≡ passed (record { is_first = is_first; error = waits }) error ++ left word (with (record { is_first = is_first; error = waits }) error) (errors_in errors)
step_by word is_first waits None errors some = refl
step_by word true None (Some error) errors some = refl
step_by word true (Some waits) (Some error) errors some = first_step word waits error (errors_in errors)
step_by word false None (Some error) errors some = absurd (let no : true ≡ false = some refl in cc)
step_by word false (Some waits) (Some error) errors some = later_step word waits error (errors_in errors)

-- one more of the errors was taken, the one at i
pub one_more : (word written whole : List ℕ) (waiting : Waiting) (errors : List (Option ErrorCode)) (i : ℕ) → i < length errors → IsWaiting waiting
    → written ++ left word waiting (errors_in (drop i errors)) ≡ whole
    → (written ++ passed waiting (get_or errors i None)) ++ left word (with waiting (get_or errors i None)) (errors_in (drop (i + 1) errors)) ≡ whole
one_more word written whole waiting errors i within waits so_far =
    let error = get_or errors i None in
    let rest : drop i errors ≡ error ∷ drop (i + 1) errors = rw add-one (drop-cons errors i None within) in
    append_assoc written _ _
    ∙ ap (λ (o : List ℕ). written ++ o) (sym (step_by word waiting.is_first waiting.error error (drop (i + 1) errors) waits))
    ∙ ap (λ (o : List (Option ErrorCode)). written ++ left word waiting (errors_in o)) (sym rest)
    ∙ so_far

last_is : (word : List ℕ) (is_first : Bool) (waits : Option ErrorCode) → left_by word is_first waits [] ≡ last_by is_first word waits
last_is word true None = refl
last_is word true (Some error) = append-nil (error_text error)
last_is word false None = refl
last_is word false (Some error) = refl

-- none of them is left but the one that waits
pub none_left : (word written whole : List ℕ) (waiting : Waiting) (errors : List (Option ErrorCode)) (i : ℕ) → length errors ≤ i
    → written ++ left word waiting (errors_in (drop i errors)) ≡ whole → written ++ last_text word waiting ≡ whole
none_left word written whole waiting errors i past so_far =
    ap (λ (o : List ℕ). written ++ o) (sym (last_is word waiting.is_first waiting.error))
    ∙ ap (λ (o : List (Option ErrorCode)). written ++ left word waiting (errors_in o)) (sym (drop_of_length-le errors past))
    ∙ so_far
