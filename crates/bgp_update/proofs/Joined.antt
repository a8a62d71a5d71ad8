-- Equivalences of sums, part by part.
use Rattle.std.proofs.Common.{◌↔◌, ◌⊎◌, inl, inr}

pub with_first : (A B C : Type 0) → A ↔ B → (A × C) ↔ (B × C)
with_first A B C e = (λ x. (e.0 x.0, x.1), λ x. (e.1 x.0, x.1))

pub then_ : (A B C : Type 0) → A ↔ B → B ↔ C → A ↔ C
then_ A B C e f = (λ x. f.0 (e.0 x), λ x. e.1 (f.1 x))

pub three : (U V A B C A' B' C' : Type 0) → U ↔ (A ⊎ B) → V ↔ (U ⊎ C) → A ↔ A' → B ↔ B' → C ↔ C' → V ↔ (A' ⊎ B' ⊎ C')
three U V A B C A' B' C' u v a b c = (
  λ x. elim (v.0 x) [
    | inl x ↦ elim (u.0 x) [ inl x ↦ inl (a.0 x) | inr x ↦ inr (inl (b.0 x)) ]
    | inr x ↦ inr (inr (c.0 x))
  ],
  λ x. elim x [
    | inl x ↦ v.1 (inl (u.1 (inl (a.1 x))))
    | inr y ↦ elim y [ inl x ↦ v.1 (inl (u.1 (inr (b.1 x)))) | inr x ↦ v.1 (inr (c.1 x)) ]
  ],
)

pub four : (U V W A B C D A' B' C' D' : Type 0) → U ↔ (A ⊎ B) → V ↔ (U ⊎ C) → W ↔ (V ⊎ D) → A ↔ A' → B ↔ B' → C ↔ C' → D ↔ D' → W ↔ (A' ⊎ B' ⊎ C' ⊎ D')
four U V W A B C D A' B' C' D' u v w a b c d =
    let inner = three U V A B C A' B' C' u v a b c in (
      λ x. elim (w.0 x) [
        | inl x ↦ elim (inner.0 x) [ inl x ↦ inl x | inr y ↦ elim y [ inl x ↦ inr (inl x) | inr x ↦ inr (inr (inl x)) ] ]
        | inr x ↦ inr (inr (inr (d.0 x)))
      ],
      λ x. elim x [
        | inl x ↦ w.1 (inl (inner.1 (inl x)))
        | inr y ↦ elim y [
          | inl x ↦ w.1 (inl (inner.1 (inr (inl x))))
          | inr z ↦ elim z [ inl x ↦ w.1 (inl (inner.1 (inr (inr x)))) | inr x ↦ w.1 (inr (d.1 x)) ]
        ]
      ],
    )
