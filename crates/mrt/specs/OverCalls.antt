-- What several calls of a source or a sink make together: laws of counts, readers and writers.
use Rattle.std.specs.Prelude.{◌≡◌, ℕ, ◌+◌, List, [], ◌++◌, length, Option, None, Some, refl}
use Rattle.std.proofs.Common.{◌∙◌, ap, sym, append_assoc, append-nil, add_assoc, length-append}
use Rattle.std.proofs.Math.Nat.{add-zero}
use Rattle.std.specs.Io.KnownBytes.{Consumes, Appends}

-- by no octets a count does not rise
pub counts_nothing : (count : ℕ) → count ≡ count + length {A = ℕ} []
counts_nothing count = sym (add-zero count)

-- by octets, and then more, it rises as by all of them
pub counts_joined : (a b c : ℕ) (xs ys : List ℕ) →
    b ≡ a + length xs → c ≡ b + length ys → c ≡ a + length (xs ++ ys)
counts_joined a b c xs ys first second =
    second
    ∙ ap (λ count. count + length ys) first
    ∙ add_assoc a (length xs) (length ys)
    ∙ ap (λ count. a + count) (sym (length-append xs ys))

-- from a reader to itself nothing is read
pub consumes_nothing : (known : Option (List ℕ)) → Consumes known known []
consumes_nothing None = tt
consumes_nothing (Some octets) = refl

-- what is read, and then more, is read in all
pub consumes_joined : (a b c : Option (List ℕ)) (xs ys : List ℕ) →
    Consumes a b xs → Consumes b c ys → Consumes a c (xs ++ ys)
consumes_joined None b c xs ys first second = tt
consumes_joined (Some left_a) None c xs ys first second = absurd first
consumes_joined (Some left_a) (Some left_b) None xs ys first second = absurd second
consumes_joined (Some left_a) (Some left_b) (Some left_c) xs ys first second =
    first ∙ ap (λ left. xs ++ left) second ∙ sym (append_assoc xs ys left_c)

-- from a writer to itself nothing is written
pub appends_nothing : (known : Option (List ℕ)) → Appends known known []
appends_nothing None = tt
appends_nothing (Some octets) = sym (append-nil octets)

-- what is written, and then more, is written in all
pub appends_joined : (a b c : Option (List ℕ)) (xs ys : List ℕ) →
    Appends a b xs → Appends b c ys → Appends a c (xs ++ ys)
appends_joined None b c xs ys first second = tt
appends_joined (Some held_a) None c xs ys first second = absurd first
appends_joined (Some held_a) (Some held_b) None xs ys first second = absurd second
appends_joined (Some held_a) (Some held_b) (Some held_c) xs ys first second =
    second ∙ ap (λ held. held ++ ys) first ∙ append_assoc held_a xs ys
