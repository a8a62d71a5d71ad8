-- What a sink took of a text that is written part by part.
use Rattle.std.proofs.Common.{◌∙◌, List, ℕ, ◌++◌, ap, sym, append_assoc}
use Rattle.mrt.specs.Sink.{TakesBeginning}

module _ {S : Type 0} (takes : S → S → List ℕ → Type 0)
    (takes_joined : (a b c : S) (xs ys : List ℕ) → takes a b xs → takes b c ys → takes a c (xs ++ ys)) where
  -- a beginning of the first part
  pub begins_first : (old new : S) (first behind : List ℕ) → TakesBeginning takes old new first → TakesBeginning takes old new (first ++ behind)
  begins_first old new first behind begun = record {
    taken = begun.taken;
    rest = begun.rest ++ behind;
    whole = ap (λ (o : List ℕ). o ++ behind) begun.whole ∙ append_assoc begun.taken begun.rest behind;
    took = begun.took;
  }

  -- the first part and a beginning of what is behind
  pub begins_behind : (old mid new : S) (first behind : List ℕ) → takes old mid first → TakesBeginning takes mid new behind → TakesBeginning takes old new (first ++ behind)
  begins_behind old mid new first behind took begun = record {
    taken = first ++ begun.taken;
    rest = begun.rest;
    whole = ap (λ (o : List ℕ). first ++ o) begun.whole ∙ sym (append_assoc first begun.taken begun.rest);
    took = takes_joined old mid new first begun.taken took begun.took;
  }
