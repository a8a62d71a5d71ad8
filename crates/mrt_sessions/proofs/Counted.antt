-- How many records there are of each direction, with one more.
use Rattle.std.proofs.Common.{◌≡◌, ◌∙◌, ℕ, ◌+◌, ◌≤◌, Bool, cond, List, [], ◌∷◌, ◌++◌, Option, None, Some, length, refl, ap, arith}
use Rattle.std.specs.List.{count_by}
use Rattle.std.proofs.lemmas.List.Sums.{count_by-le-length, sum_by-append}
use Rattle.mrt.specs.Layout.{header_of}
use Rattle.mrt_sessions.specs.declared.counts.Counts.{Counts}
use Rattle.mrt_sessions.specs.declared.counts.Direction.{Direction}
use Rattle.mrt_sessions.specs.declared.counts.Direction.TheVariants as directions
use Rattle.mrt_sessions.specs.Counts.{counts_in, direction_of, goes, is_change, is_received, is_sent, one_more}
use Rattle.mrt_sessions.specs.File.{Located}

more : (p : Located → Bool) (named : List Located) (x : Located) → count_by p (named ++ x ∷ []) ≡ count_by p named + cond (p x) 1 0
more p named x =
    sum_by-append (λ y. cond (p y) 1 0) named (x ∷ []) ∙ ap (λ (n : ℕ). count_by p named + n) (zero_plus (cond (p x) 1 0)) where
      zero_plus : (n : ℕ) → 0 + n ≡ n
      zero_plus n = omega arith

counts : (a b c d e f : ℕ) → a ≡ d → b ≡ e → c ≡ f → ◌≡◌ {A = Counts} (record { received = a; sent = b; changes = c }) (record { received = d; sent = e; changes = f })
counts a b c d e f p q r = λ i. record { received = p i; sent = q i; changes = r i }

plus_zero : (n : ℕ) → n + 0 ≡ n
plus_zero n = omega arith

by_direction : (named : List Located) (d : Option Direction)
    → ◌≡◌ {A = Counts} (record {
      received = count_by (goes is_received) named + cond (is_received d) 1 0;
      sent = count_by (goes is_sent) named + cond (is_sent d) 1 0;
      changes = count_by (goes is_change) named + cond (is_change d) 1 0;
    })
    (one_more (counts_in named) d)
by_direction named (Some directions.Received) = counts _ _ _ _ _ _ refl (plus_zero (count_by (goes is_sent) named)) (plus_zero (count_by (goes is_change) named))
by_direction named (Some directions.Sent) = counts _ _ _ _ _ _ (plus_zero (count_by (goes is_received) named)) refl (plus_zero (count_by (goes is_change) named))
by_direction named (Some directions.Change) = counts _ _ _ _ _ _ (plus_zero (count_by (goes is_received) named)) (plus_zero (count_by (goes is_sent) named)) refl
by_direction named None = counts _ _ _ _ _ _ (plus_zero (count_by (goes is_received) named)) (plus_zero (count_by (goes is_sent) named)) (plus_zero (count_by (goes is_change) named))

pub counted_more : (named : List Located) (x : Located) → counts_in (named ++ x ∷ []) ≡ one_more (counts_in named) (direction_of (header_of x.octets).subtype)
counted_more named x =
    counts _ _ _ _ _ _ (more (goes is_received) named x) (more (goes is_sent) named x) (more (goes is_change) named x)
    ∙ by_direction named (direction_of (header_of x.octets).subtype)

pub few_received : (named : List Located) → (counts_in named).received ≤ length named
few_received named = count_by-le-length (goes is_received) named

pub few_sent : (named : List Located) → (counts_in named).sent ≤ length named
few_sent named = count_by-le-length (goes is_sent) named

pub few_changes : (named : List Located) → (counts_in named).changes ≤ length named
few_changes named = count_by-le-length (goes is_change) named
