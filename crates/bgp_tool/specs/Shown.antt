-- A source whose records are printed as they come: what it gives, while the text is handed over. And
-- a source that is lent.
use Rattle.std.specs.Prelude.{◌≡◌, ◌++◌, ℕ, List, [], refl}
use Rattle.std.specs.Borrow.{MutBor}
use Rattle.std.proofs.Common.{◌∙◌}
use Rattle.mrt.specs.declared.sink.Sink as sinks
use Rattle.bgp_text.specs.declared.lines.Lines.{Lines}
use Rattle.bgp_text.specs.Lines.{Writes}
use Rattle.bgp_text.proofs.Pieces.{nothing_yet, and_nothing}

-- The source gave these octets, and no text was appended, though some of it may have been handed
-- over.
pub record GivesShown {S W : Type 0} {sink : sinks.Ghosts W} (gives : S → S → List ℕ → Type 0)
    (source source' : S) (lines lines' : Lines W sink) (octets : List ℕ) : Type 0 where
  pub gave : gives source source' octets
  pub kept : Writes lines lines' []

module _ {S W : Type 0} {sink : sinks.Ghosts W} (gives : S → S → List ℕ → Type 0) where
  -- nothing is given from a state to itself
  pub shown_nothing : ((a : W) → sink.takes a a []) → (source : S) → gives source source []
      → (lines : Lines W sink) → GivesShown gives source source lines lines []
  shown_nothing nothing source gave lines = record {
    gave = gave;
    kept = nothing_yet sink nothing lines.outlet lines.held.items;
  }

  -- octets and then more are given in all
  pub shown_joined : ((a b c : S) (xs ys : List ℕ) → gives a b xs → gives b c ys
      → gives a c (xs ++ ys))
      → ((a b c : W) (xs ys : List ℕ) → sink.takes a b xs → sink.takes b c ys
      → sink.takes a c (xs ++ ys))
      → (source source' source'' : S) (lines lines' lines'' : Lines W sink) (xs ys : List ℕ)
      → GivesShown gives source source' lines lines' xs
      → GivesShown gives source' source'' lines' lines'' ys
      → GivesShown gives source source'' lines lines'' (xs ++ ys)
  shown_joined joined sink_joined source source' source'' lines lines' lines'' xs ys first second =
      record {
        gave = joined source source' source'' xs ys first.gave second.gave;
        kept = and_nothing (record { joined = sink_joined }) first.kept second.kept;
      }

-- the source behind one reference gave these octets
pub record GivesLent {R : Type 0} (gives : R → R → List ℕ → Type 0) (source source' : MutBor R)
    (octets : List ℕ) : Type 0 where
  pub same_source : source'.ghost_name ≡ source.ghost_name
  pub gave : gives source.now source'.now octets

module _ {R : Type 0} (gives : R → R → List ℕ → Type 0) where
  pub lent_nothing : (source : MutBor R) → gives source.now source.now []
      → GivesLent gives source source []
  lent_nothing source gave = record { same_source = refl; gave = gave }

  pub lent_joined : ((a b c : R) (xs ys : List ℕ) → gives a b xs → gives b c ys
      → gives a c (xs ++ ys))
      → (source source' source'' : MutBor R) (xs ys : List ℕ)
      → GivesLent gives source source' xs → GivesLent gives source' source'' ys
      → GivesLent gives source source'' (xs ++ ys)
  lent_joined joined source source' source'' xs ys first second = record {
    same_source = second.same_source ∙ first.same_source;
    gave = joined source.now source'.now source''.now xs ys first.gave second.gave;
  }
