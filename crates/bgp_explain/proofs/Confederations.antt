-- Whether records show an UPDATE of a confederation, record after record.
use Rattle.std.proofs.Common.{◌↔◌, ◌≡◌, ◌⊎◌, ◌++◌, Bool, true, false, IsTrue, List, [], ◌∷◌, inl, inr}
use Rattle.bgp_prefix.specs.Shown.{ShownRecord}
use Rattle.bgp_parts.specs.Confederations.{ShowsConfederation, SomeShowConfederations}

-- one of them does, or the last one
parted : (records : List ShownRecord) (shown : ShownRecord) → SomeShowConfederations (records ++ shown ∷ [])
    → SomeShowConfederations records ⊎ ShowsConfederation shown
parted [] shown (inl this) = inr this
parted [] shown (inr none) = absurd none
parted (first ∷ records) shown (inl this) = inl (inl this)
parted (first ∷ records) shown (inr later) = elim (parted records shown later) [
  | inl one ↦ inl (inr one)
  | inr last ↦ inr last
]

joined : (records : List ShownRecord) (shown : ShownRecord) → SomeShowConfederations records ⊎ ShowsConfederation shown
    → SomeShowConfederations (records ++ shown ∷ [])
joined [] shown (inl none) = absurd none
joined [] shown (inr last) = inl last
joined (first ∷ records) shown (inl (inl this)) = inl this
joined (first ∷ records) shown (inl (inr later)) = inr (joined records shown (inl later))
joined (first ∷ records) shown (inr last) = inr (joined records shown (inr last))

-- before the first record none does
pub none_show : IsTrue false ↔ SomeShowConfederations []
none_show = (λ flag. absurd (let k : ⊥ = cc in k), λ none. absurd none)

-- what is found of one record more: one before it shows one, or it alone may
pub found_before : (so_far : Bool) (records : List ShownRecord) (shown : ShownRecord) → so_far ≡ true → (IsTrue so_far ↔ SomeShowConfederations records)
    → IsTrue so_far ↔ SomeShowConfederations (records ++ shown ∷ [])
found_before so_far records shown is before = (λ flag. joined records shown (inl (before.0 flag)), λ some. is)

pub found_last : (so_far found : Bool) (records : List ShownRecord) (shown : ShownRecord) → so_far ≡ false → (IsTrue so_far ↔ SomeShowConfederations records)
    → (IsTrue found ↔ ShowsConfederation shown) → IsTrue found ↔ SomeShowConfederations (records ++ shown ∷ [])
found_last so_far found records shown is before this = (
  λ flag. joined records shown (inr (this.0 flag)),
  λ some. elim (parted records shown some) [
    | inl one ↦ absurd (let flag = before.1 one in (let k : ⊥ = cc in k))
    | inr last ↦ this.1 last
  ],
)
