-- The machine values of the crate's structs: what is owned tells them, and is made of nothing.
use Rattle.std.proofs.Common.{◌≡◌, ℕ, ◌^◌, ◌<◌, List, [], ◌∷◌, ◌++◌, refl, ◌∙◌, lit<, w64}
use seplogic.Ra.Ura.{Ura}
use mir.Syntax.{ty_int, ty_ptr, ty_struct, tcons, tnil}
use mir.Val.{Val, vint, vstruct, vcons, vnil, of_list}
use base.Logic.{ent, emp}
use base.Fml.{Fml}
use types.Logic.{Logic, sem}
use denote.RattleType.{RattleType}
use denote.Builtin.{usize}
use denote.RawPtr.{Ptr, RawPtr, block_ptr, null_ptr, ptr_val}
use denote.Shadow.{shadow, makes_shadow}
use denote.Struct.Struct.{Struct}
use Rattle.core.proofs.cell.Inside.{Good}

-- a struct by its fields alone: what it owns does not read its name
abbrev pub plainly : List RattleType → RattleType
plainly Rs = Struct (record { name = []; args = []; types = []; fields = Rs })

pub ptr_typed : (p : Ptr) → Good ty_ptr (ptr_val p)
ptr_typed (block_ptr b o) = (tt, tt)
ptr_typed null_ptr = (tt, record { fits = lit< tt })

abbrev pub memory_val : Ptr → ℕ → Val
memory_val p0 n1 = vstruct (vcons (ptr_val p0) (vcons (vint w64 n1) vnil))

abbrev pub memory_own : Ptr → ℕ → List Val → Fml
memory_own p0 n1 = (plainly (RawPtr ∷ usize ∷ [])).own_val (p0, (n1, tt))

pub memory_told : (p0 : Ptr) (n1 : ℕ) (vs : List Val) → shadow (memory_own p0 n1 vs) → (vs ≡ memory_val p0 n1 ∷ []) × (n1 < 2 ^ 64)
memory_told p0 n1 vs s = (s.1.0 ∙ (λ i. vstruct (of_list (s.1.1.0 i ++ (s.1.1.1.0.0 i ++ []))) ∷ []), s.1.1.1.0.1)

pub memory_made : {M : Type 1} {𝓤 : Ura M} (𝓛 : Logic 𝓤) (p0 : Ptr) (n1 : ℕ) → (n1 < 2 ^ 64) → ent 𝓤 (emp 𝓤) (sem 𝓛 (memory_own p0 n1 (memory_val p0 n1 ∷ [])))
memory_made 𝓛 p0 n1 f = makes_shadow 𝓛 (memory_own p0 n1 (memory_val p0 n1 ∷ [])) (λ _. (tt, (tt, ((tt, tt), tt)))) ((ptr_val p0 ∷ [], (vint w64 n1 ∷ [], tt)), (refl, (refl, ((refl, f), tt))))

pub memory_typed : (p0 : Ptr) (n1 : ℕ) → (n1 < 2 ^ 64) → Good (ty_struct [] (tcons ty_ptr (tcons (ty_int w64) tnil))) (memory_val p0 n1)
memory_typed (block_ptr b o) n1 f = (tt, (tt, (record { fits = f }, tt)))
memory_typed null_ptr n1 f = (tt, (record { fits = lit< tt }, (record { fits = f }, tt)))

abbrev pub chain_val : Ptr → Val
chain_val p0 = vstruct (vcons (ptr_val p0) vnil)

abbrev pub chain_own : Ptr → List Val → Fml
chain_own p0 = (plainly (RawPtr ∷ [])).own_val (p0, tt)

pub chain_told : (p0 : Ptr) (vs : List Val) → shadow (chain_own p0 vs) → vs ≡ chain_val p0 ∷ []
chain_told p0 vs s = s.1.0 ∙ (λ i. vstruct (of_list (s.1.1.0 i ++ [])) ∷ [])

pub chain_made : {M : Type 1} {𝓤 : Ura M} (𝓛 : Logic 𝓤) (p0 : Ptr) → ent 𝓤 (emp 𝓤) (sem 𝓛 (chain_own p0 (chain_val p0 ∷ [])))
chain_made 𝓛 p0 = makes_shadow 𝓛 (chain_own p0 (chain_val p0 ∷ [])) (λ _. (tt, (tt, tt))) ((ptr_val p0 ∷ [], tt), (refl, (refl, tt)))
