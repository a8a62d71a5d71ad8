-- Those that there are of a list, one after another.
use Rattle.std.proofs.Common.{◌≡◌, ◌∙◌, ◌++◌, ◌+◌, ◌<◌, Result, Ok, Err, inl, inr, List, [], ◌∷◌, Option, None, Some, refl, sym, ap, append_assoc, append-nil, length, take, drop, get_or, ℕ, suc, add-one, Bool, true, if◌then◌else◌}
use Rattle.std.proofs.Math.Seq.{drop-cons}
use Rattle.std.specs.Prelude.{◌⊎◌, OnErr, OnOk}
use Rattle.bgp_recording_tool.specs.Remarks.{AddsTold, some_of}
use Rattle.bgp_recording_tool.specs.declared.remark.Remark.{Remark}

-- of both lists
pub some_of_both : {X : Type 0} (xs ys : List (Option X)) → some_of (xs ++ ys) ≡ some_of xs ++ some_of ys
some_of_both [] ys = refl
some_of_both (None ∷ xs) ys = some_of_both xs ys
some_of_both (Some x ∷ xs) ys = ap (λ rest. x ∷ rest) (some_of_both xs ys)

-- the front of a list is left where what was added is cut off
pub cut_off : {X : Type 0} (xs ys : List X) → take (length xs) (xs ++ ys) ≡ xs
cut_off [] ys = refl
cut_off (x ∷ xs) ys = ap (λ rest. x ∷ rest) (cut_off xs ys)

-- one more of a list was looked at
pub one_more : {X : Type 0} (added whole : List X) (xs : List (Option X)) (i : ℕ) (x : Option X) → i < length xs → get_or xs i None ≡ x
    → added ++ some_of (drop i xs) ≡ whole → (added ++ some_of (x ∷ [])) ++ some_of (drop (i + 1) xs) ≡ whole
one_more added whole xs i x within is so_far =
    let rest : drop i xs ≡ x ∷ drop (i + 1) xs =
    rw add-one (drop-cons xs i None within ∙ ap (λ y. y ∷ drop (suc i) xs) is) in
    append_assoc added (some_of (x ∷ [])) (some_of (drop (i + 1) xs))
    ∙ ap (λ o. added ++ o) (sym (some_of_both (x ∷ []) (drop (i + 1) xs)))
    ∙ ap (λ o. added ++ some_of o) (sym rest)
    ∙ so_far

-- an element was pushed
pub pushed : {X : Type 0} (ok : Bool) (new old other : List X) (x : X) → ok ≡ true → new ≡ (if ok then old ++ x ∷ [] else other)
    → new ≡ old ++ x ∷ []
pushed ok new old other x is pushes = rw is at pushes

-- nothing is left of it
pub none_left : {X : Type 0} (added whole : List X) (xs : List (Option X)) (i : ℕ) → drop i xs ≡ []
    → added ++ some_of (drop i xs) ≡ whole → added ≡ whole
none_left added whole xs i none so_far =
    sym (append-nil added) ∙ sym (ap (λ rest. added ++ some_of rest) none) ∙ so_far

-- what there is to tell was added, or nothing
pub told_or_none : {V E : Type 0} (r : Result V E) (old new more : List Remark) → OnOk r (new ≡ old ++ more) → OnErr r (new ≡ old)
    → AddsTold old new (λ own. (own ≡ more) ⊎ (own ≡ []))
told_or_none (Ok v) old new more added same = record { own = more; added = added; is_told = inl refl }
told_or_none (Err e) old new more added same = record { own = []; added = same ∙ sym (append-nil old); is_told = inr refl }
