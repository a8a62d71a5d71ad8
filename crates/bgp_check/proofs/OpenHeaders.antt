-- A header that announces an OPEN has a fault by one limit exactly where it has one by another.
use Rattle.std.proofs.Common.{◌≡◌, ℕ, List, inl, inr, subst, sym}
use Rattle.bgp_wire.specs.Header.{IsBadLength, IsSound, length_of, type_of}
use Rattle.bgp_wire.specs.declared.header.Limit.{Limit}
use Rattle.bgp_wire.specs.declared.header.Limit.TheVariants.{Plain, Extended}

bad_length : (limit other : Limit) (count : ℕ) → IsBadLength limit 1 count → IsBadLength other 1 count
bad_length Plain Plain count bad = bad
bad_length Plain Extended count bad = bad
bad_length Extended Plain count bad = bad
bad_length Extended Extended count bad = bad

pub bad_length_too : (limit other : Limit) (kind count : ℕ) → kind ≡ 1 → IsBadLength limit kind count → IsBadLength other kind count
bad_length_too limit other kind count is bad =
    subst (λ (v : ℕ). IsBadLength other v count) (sym is)
    (bad_length limit other count (subst (λ (v : ℕ). IsBadLength limit v count) is bad))

pub sound_too : (limit other : Limit) (header : List ℕ) → type_of header ≡ 1 → IsSound limit header → IsSound other header
sound_too limit other header is sound subcode detail fault = elim fault [
  | inl marker ↦ sound subcode detail (inl marker)
  | inr m ↦ elim m [
    | inl bad ↦ sound subcode detail (inr (inl (bad.0, bad_length_too other limit (type_of header) (length_of header) is bad.1, bad.2)))
    | inr kind ↦ sound subcode detail (inr (inr kind))
  ]
]
