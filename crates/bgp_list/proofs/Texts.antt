-- The text of sessions, one after another, and the status of a text that was handed over.
use Rattle.std.proofs.Common.{◌≡◌, ◌∙◌, ◌⊎◌, ◌++◌, ◌+◌, ◌<◌, ℕ, Bool, IsFalse, IsTrue, List, [], ◌∷◌, append-nil, ap, subst, sym, take, length, get_or, inl, inr}
use Rattle.std.specs.List.{flat_map}
use Rattle.std.proofs.lemmas.Grind.{flat_map-append}
use Rattle.std.proofs.lemmas.List.{take_more}

pub told_as : (failed : Bool) (status one wanted : ℕ) → (IsFalse failed × (status ≡ one)) ⊎ (IsTrue failed × (status ≡ 5)) → one ≡ wanted
    → (IsFalse failed × (status ≡ wanted)) ⊎ (IsTrue failed × (status ≡ 5))
told_as failed status one wanted (inl calm) is = inl (calm.0, calm.1 ∙ is)
told_as failed status one wanted (inr broken) is = inr broken

pub coded_as : (failed : Bool) (code status wanted : ℕ) → code ≡ status → (IsFalse failed × (status ≡ wanted)) ⊎ (IsTrue failed × (status ≡ 5))
    → (IsFalse failed × (code ≡ wanted)) ⊎ (IsTrue failed × (code ≡ 5))
coded_as failed code status wanted is (inl calm) = inl (calm.0, is ∙ calm.1)
coded_as failed code status wanted is (inr broken) = inr (broken.0, is ∙ broken.1)

pub texts_more : {X : Type 0} (text : X → List ℕ) (xs : List X) (i : ℕ) (d : X) → i < length xs
    → flat_map text (take i xs) ++ text (get_or xs i d) ≡ flat_map text (take (i + 1) xs)
texts_more text xs i d within =
    ap (λ (o : List ℕ). flat_map text (take i xs) ++ o) (sym (append-nil (text (get_or xs i d))))
    ∙ sym (flat_map-append text (take i xs) (get_or xs i d ∷ []))
    ∙ ap (flat_map text) (sym (take_more xs i d within))

pub texts_with : {X : Type 0} (text : X → List ℕ) (xs ys : List X) (i : ℕ) (d : X) → xs ≡ ys → i < length xs
    → flat_map text (take i ys) ++ text (get_or xs i d) ≡ flat_map text (take (i + 1) ys)
texts_with {X} text xs ys i d same within =
    subst (λ (zs : List X). flat_map text (take i zs) ++ text (get_or xs i d) ≡ flat_map text (take (i + 1) zs)) same (texts_more text xs i d within)
