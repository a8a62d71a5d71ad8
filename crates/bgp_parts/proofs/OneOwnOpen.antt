-- The own OPEN of records is one.
use Rattle.std.proofs.Common.{◌≡◌, ◌∙◌, ℕ, List, [], ◌∷◌, Option, inl, inr, sym}
use Rattle.bgp_prefix.specs.Shown.{ShownRecord, Received, Sent, Changed}
use Rattle.bgp_open.specs.OpenFault.{IsWellFormed}
use Rattle.bgp_parts.specs.Opens.{FirstSent, HasOwnOpen}

some_differs : (Is : List ℕ → Type 0) (records : List ShownRecord) (one other : Option (List ℕ)) → FirstSent Is records one → FirstSent Is records other
    → one ≡ other
some_differs Is [] one other has too = has ∙ sym too
some_differs Is (Sent t octets ∷ records) one other has too = elim has [
  | inl here ↦ elim too [ inl also ↦ here.1 ∙ sym also.1 | inr later ↦ absurd (later.0 here.0) ]
  | inr later ↦ elim too [ inl here ↦ absurd (later.0 here.0) | inr also ↦ some_differs Is records one other later.1 also.1 ]
]
some_differs Is (Received t octets ∷ records) one other has too = some_differs Is records one other has too
some_differs Is (Changed t old new ∷ records) one other has too = some_differs Is records one other has too

pub one_own : (records : List ShownRecord) (one other : Option (List ℕ)) → HasOwnOpen records one → HasOwnOpen records other → one ≡ other
one_own records one other has too = some_differs IsWellFormed records one other has too
