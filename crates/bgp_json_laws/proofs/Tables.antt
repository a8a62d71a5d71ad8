-- Numbers that a table has, by their names.
use Rattle.std.proofs.Common.{◌≡◌, ◌∙◌, ◌<◌, ◌≤◌, ◌^◌, ℕ, zero, suc, true, List, [], Option, Some, None, is_some, refl, codes, arith}
use Rattle.bgp_names.specs.Attributes.{origin_names, segment_names}
use Rattle.bgp_names.specs.Capabilities.{role_names, way_names}
use Rattle.bgp_names.specs.Naming.{name_in, name_or}
use Rattle.bgp_names.proofs.OneName.{are_apart, one_name}

-- a name that is there is the same whatever stands for one that isn't
there : (first second : List ℕ) (name : Option (List ℕ)) → is_some name ≡ true → name_or first name ≡ name_or second name
there first second None some = cc
there first second (Some name) some = refl

same_in : (rows : List (ℕ × List ℕ)) → are_apart (codes "number ") rows ≡ true → (m n : ℕ) → m < 2 ^ 64 → n < 2 ^ 64
    → is_some (name_in rows m) ≡ true → is_some (name_in rows n) ≡ true → name_or [] (name_in rows m) ≡ name_or [] (name_in rows n) → m ≡ n
same_in rows apart m n small also has too e =
    one_name (codes "number ") rows apart m n small also (there _ [] (name_in rows m) has ∙ e ∙ there [] _ (name_in rows n) too)

has_role : (n : ℕ) → n ≤ 4 → is_some (name_in role_names n) ≡ true
has_role zero most = refl
has_role (suc zero) most = refl
has_role (suc (suc zero)) most = refl
has_role (suc (suc (suc zero))) most = refl
has_role (suc (suc (suc (suc zero)))) most = refl
has_role (suc (suc (suc (suc (suc n))))) most = absurd (omega arith)

pub same_role : (m n : ℕ) → m ≤ 4 → n ≤ 4 → name_or [] (name_in role_names m) ≡ name_or [] (name_in role_names n) → m ≡ n
same_role m n most also e = same_in role_names refl m n (omega arith) (omega arith) (has_role m most) (has_role n also) e

has_way_name : (n : ℕ) → 1 ≤ n → n ≤ 3 → is_some (name_in way_names n) ≡ true
has_way_name zero least most = absurd (omega arith)
has_way_name (suc zero) least most = refl
has_way_name (suc (suc zero)) least most = refl
has_way_name (suc (suc (suc zero))) least most = refl
has_way_name (suc (suc (suc (suc n)))) least most = absurd (omega arith)

pub same_way : (m n : ℕ) → 1 ≤ m → m ≤ 3 → 1 ≤ n → n ≤ 3 → name_or [] (name_in way_names m) ≡ name_or [] (name_in way_names n) → m ≡ n
same_way m n least most low high e = same_in way_names refl m n (omega arith) (omega arith) (has_way_name m least most) (has_way_name n low high) e

has_origin : (n : ℕ) → n ≤ 2 → is_some (name_in origin_names n) ≡ true
has_origin zero most = refl
has_origin (suc zero) most = refl
has_origin (suc (suc zero)) most = refl
has_origin (suc (suc (suc n))) most = absurd (omega arith)

pub same_origin : (m n : ℕ) → m ≤ 2 → n ≤ 2 → name_or [] (name_in origin_names m) ≡ name_or [] (name_in origin_names n) → m ≡ n
same_origin m n most also e = same_in origin_names refl m n (omega arith) (omega arith) (has_origin m most) (has_origin n also) e

has_segment_name : (n : ℕ) → 1 ≤ n → n ≤ 4 → is_some (name_in segment_names n) ≡ true
has_segment_name zero least most = absurd (omega arith)
has_segment_name (suc zero) least most = refl
has_segment_name (suc (suc zero)) least most = refl
has_segment_name (suc (suc (suc zero))) least most = refl
has_segment_name (suc (suc (suc (suc zero)))) least most = refl
has_segment_name (suc (suc (suc (suc (suc n))))) least most = absurd (omega arith)

pub same_segment_kind : (m n : ℕ) → 1 ≤ m → m ≤ 4 → 1 ≤ n → n ≤ 4 → name_or [] (name_in segment_names m) ≡ name_or [] (name_in segment_names n) → m ≡ n
same_segment_kind m n least most low high e = same_in segment_names refl m n (omega arith) (omega arith) (has_segment_name m least most) (has_segment_name n low high) e
