-- The status of a text that was handed over.
use Rattle.std.proofs.Common.{◌≡◌, ◌∙◌, ◌⊎◌, ℕ, Bool, IsFalse, IsTrue, inl, inr}

-- that of a status that is this one
pub coded_as : (failed : Bool) (code status wanted : ℕ) → code ≡ status → (IsFalse failed × (status ≡ wanted)) ⊎ (IsTrue failed × (status ≡ 5))
    → (IsFalse failed × (code ≡ wanted)) ⊎ (IsTrue failed × (code ≡ 5))
coded_as failed code status wanted is (inl calm) = inl (calm.0, is ∙ calm.1)
coded_as failed code status wanted is (inr broken) = inr (broken.0, is ∙ broken.1)
