-- What is kept of octets that come one after another.
use Rattle.std.specs.Prelude.{◌≡◌, ◌≤◌, ◌++◌, ℕ, List, [], ◌∷◌, length, take, zero, suc, refl}
use Rattle.std.proofs.Common.{◌∙◌, ap, sym, append_assoc, append-nil}
use Rattle.std.proofs.lemmas.List.{take_all}
use Rattle.bgp_tool.specs.Front.{kept}

-- of a front and more behind it as much is kept as of all
taken_twice : (n : ℕ) (octets more : List ℕ)
    → take n (take n octets ++ more) ≡ take n (octets ++ more)
taken_twice zero octets more = refl
taken_twice (suc n) [] more = refl
taken_twice (suc n) (octet ∷ octets) more = ap (λ rest. octet ∷ rest) (taken_twice n octets more)

-- by no octets it stays
pub kept_nothing : (front : List ℕ) → length front ≤ 262 → front ≡ kept (front ++ [])
kept_nothing front within = sym (ap kept (append-nil front) ∙ take_all 262 front within)

-- by octets, and then more, it is what is kept of both
pub kept_joined : (a b c xs ys : List ℕ) → b ≡ kept (a ++ xs) → c ≡ kept (b ++ ys)
    → c ≡ kept (a ++ (xs ++ ys))
kept_joined a b c xs ys first second =
    second ∙ ap (λ front. kept (front ++ ys)) first ∙ taken_twice 262 (a ++ xs) ys
    ∙ ap kept (append_assoc a xs ys)
