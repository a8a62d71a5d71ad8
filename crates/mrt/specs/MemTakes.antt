-- What a sink in memory takes from one state to another.
use Rattle.std.specs.Prelude.{◌≡◌, ℕ, List, [], ◌++◌}
use Rattle.std.proofs.Common.{◌∙◌, ap, sym, append_assoc, append-nil}
use Rattle.mrt.specs.MemSink.{SinkState}

-- It took these octets, and holds them behind what it held.
pub record Takes (old new : SinkState) (octets : List ℕ) : Type 0 where
  pub behind : new.octets ≡ old.octets ++ octets

-- from a state to itself it took nothing
pub takes_nothing : (a : SinkState) → Takes a a []
takes_nothing a = record { behind = sym (append-nil a.octets) }

-- what it took, and then more, it took in all
pub takes_joined : (a b c : SinkState) (xs ys : List ℕ) →
    Takes a b xs → Takes b c ys → Takes a c (xs ++ ys)
takes_joined a b c xs ys first second = record {
  behind =
      second.behind ∙ ap (λ held. held ++ ys) first.behind ∙ append_assoc a.octets xs ys;
}
