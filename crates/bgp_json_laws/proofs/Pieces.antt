-- Pieces of octets: each is as long as it has to be, and is octets.
use Rattle.std.proofs.Common.{◌≡◌, ℕ, zero, suc, Bool, true, List, [], ◌∷◌, All, length, take, drop, nat_lt, inl, inr}
use Rattle.std.specs.List.{list_all}
use Rattle.std.proofs.lemmas.Bool.{and_parts, ltb-false}
use Rattle.std.proofs.lemmas.List.{length-take-le}
use Rattle.std.proofs.lemmas.List.Elements.{All-cons, All-drop, All-head, All-nil, All-tail, All-take}
use Rattle.std.proofs.lemmas.Bool.{cases_Bool}
use Rattle.bgp_wire.specs.Octets.{AreOctets}
use Rattle.bgp_values.specs.Pieces.{pieces_in, pieces_of}
use Rattle.bgp_json_laws.proofs.Texts.{IsOctet}

pub record IsPiece (size : ℕ) (octets : List ℕ) : Type 0 where
  pub long : length octets ≡ size
  pub are : AreOctets octets

each_in : (most size : ℕ) (octets : List ℕ) → AreOctets octets → All (IsPiece size) (pieces_in most size octets)
each_in zero size octets are = All-nil (IsPiece size)
each_in (suc most) size octets are = elim (cases_Bool (nat_lt (length octets) size)) [
  | inl few ↦ rw few (All-nil (IsPiece size))
  | inr many ↦
      rw many (All-cons (IsPiece size) (take size octets) (pieces_in most size (drop size octets))
      record { long = length-take-le size octets (ltb-false (length octets) size many); are = All-take IsOctet size octets are }
      (each_in most size (drop size octets) (All-drop IsOctet size octets are)))
]

pub each_piece : (size : ℕ) (octets : List ℕ) → AreOctets octets → All (IsPiece size) (pieces_of size octets)
each_piece size octets are = each_in (length octets) size octets are

-- and passes a test that all pass
pub record IsTested (test : List ℕ → Bool) (size : ℕ) (octets : List ℕ) : Type 0 where
  pub piece : IsPiece size octets
  pub passes : test octets ≡ true

all_tested : (test : List ℕ → Bool) (size : ℕ) (pieces : List (List ℕ)) → All (IsPiece size) pieces → list_all test pieces ≡ true → All (IsTested test size) pieces
all_tested test size [] each all = All-nil (IsTested test size)
all_tested test size (piece ∷ pieces) each all =
    let parts = and_parts (test piece) (list_all test pieces) all in
    All-cons (IsTested test size) piece pieces record { piece = All-head (IsPiece size) piece pieces each; passes = parts.0 }
    (all_tested test size pieces (All-tail (IsPiece size) piece pieces each) parts.1)

pub each_tested : (test : List ℕ → Bool) (size : ℕ) (octets : List ℕ) → AreOctets octets → list_all test (pieces_of size octets) ≡ true
    → All (IsTested test size) (pieces_of size octets)
each_tested test size octets are all = all_tested test size (pieces_of size octets) (each_piece size octets are) all
