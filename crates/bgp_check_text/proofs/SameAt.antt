-- Lists of the same values, and a connection that tells what it tells.
use Rattle.std.proofs.Common.{◌≡◌, Bool, true, false, ℕ, zero, suc, List, [], ◌∷◌, map, refl, slice_index_or}
use Rattle.streams.specs.declared.connection.Connection.{Connection}
use Rattle.bgp_recording.specs.Once.{TellTheSame}

pub same_at : {X Y : Type 0} (f : X → Y) (d : X) (xs ys : List X) (i : ℕ) → map f xs ≡ map f ys
    → f (slice_index_or xs i d) ≡ f (slice_index_or ys i d)
same_at f d [] [] i same = refl
same_at f d [] (y ∷ ys) i same = let k : ⊥ = cc in absurd k
same_at f d (x ∷ xs) [] i same = let k : ⊥ = cc in absurd k
same_at f d (x ∷ xs) (y ∷ ys) zero same = cc
same_at f d (x ∷ xs) (y ∷ ys) (suc i) same = let later : map f xs ≡ map f ys = cc in same_at f d xs ys i later

pub not_true : (b : Bool) → b ≡ true → b ≡ false → ⊥
not_true true is other = let k : ⊥ = cc in k
not_true false is other = let k : ⊥ = cc in k

pub tells_itself : (connection : Connection) → TellTheSame connection connection
tells_itself connection = record {
  opened_by = refl;
  packet = refl;
  second = refl;
  micro = refl;
  received = record { octets = refl; givers = λ place. refl };
  sent = record { octets = refl; givers = λ place. refl };
  end = refl;
}
