-- The second of the last of some records.
use Rattle.std.proofs.Common.{◌≡◌, ◌+◌, ◌-◌, ℕ, zero, suc, List, [], ◌∷◌, None, Some, length, map, ap, arith}
use Rattle.std.specs.List.{slice_get}
use Rattle.mrt.specs.Layout.{header_of}
use Rattle.mrt_sessions.specs.declared.named.NamedRecord.{NamedRecord}
use Rattle.mrt_sessions.specs.Located.{located}
use Rattle.bgp_list.specs.Sessions.{last_second}

abbrev second_of : NamedRecord → ℕ
second_of named = (header_of named.octets.now).second

some_is : (a b : NamedRecord) → Some a ≡ Some b → a ≡ b
some_is a b e = cc

none_is : (a : NamedRecord) → Some a ≡ None → ⊥
none_is a e = cc

last_at : (records : List NamedRecord) (n : ℕ) (x : NamedRecord) → n + 1 ≡ length records → Some x ≡ slice_get records n → second_of x ≡ last_second (map located records)
last_at [] n x many is = absurd (none_is x is)
last_at (r ∷ []) zero x many is = ap second_of (some_is x r is)
last_at (r ∷ []) (suc n) x many is = absurd (none_is x is)
last_at (r ∷ s ∷ records) zero x many is = absurd (omega (arith, many))
last_at (r ∷ s ∷ records) (suc n) x many is = last_at (s ∷ records) n x (omega (arith, many)) is

pub last_is : (records : List NamedRecord) (x : NamedRecord) → Some x ≡ slice_get records (length records - 1) → second_of x ≡ last_second (map located records)
last_is [] x is = absurd (none_is x is)
last_is (r ∷ records) x is = last_at (r ∷ records) (length (r ∷ records) - 1) x (omega arith) is
