-- What is taken of a text that is put into HTML.
use Rattle.std.specs.Prelude.{◌≡◌, ◌++◌, ℕ, List, [], refl}
use Rattle.std.specs.Borrow.{MutBor}
use Rattle.std.proofs.Common.{◌∙◌}
use Rattle.std.proofs.lemmas.Grind.{flat_map-append}
use Rattle.mrt.specs.declared.sink.Sink as sinks
use Rattle.bgp_text.specs.declared.lines.Lines.{Lines}
use Rattle.bgp_text.specs.Lines.{Writes}
use Rattle.bgp_text.proofs.Pieces.{nothing_yet, and_then}
use Rattle.bgp_html.specs.Escaped.{escape_octet, escaped}

-- these octets were put into the lines behind one reference, as HTML has them
pub record Puts {W : Type 0} {sink : sinks.Ghosts W} (old new : MutBor (Lines W sink))
    (octets : List ℕ) : Type 0 where
  pub same_lines : new.ghost_name ≡ old.ghost_name
  pub writes : Writes old.now new.now (escaped octets)

pub puts_nothing : {W : Type 0} {sink : sinks.Ghosts W} → ((a : W) → sink.takes a a [])
    → (a : MutBor (Lines W sink)) → Puts a a []
puts_nothing {W} {sink} nothing a = record {
  same_lines = refl;
  writes = nothing_yet sink nothing a.now.outlet a.now.held.items;
}

pub puts_joined : {W : Type 0} {sink : sinks.Ghosts W}
    → ((a b c : W) (xs ys : List ℕ) → sink.takes a b xs → sink.takes b c ys
    → sink.takes a c (xs ++ ys))
    → (a b c : MutBor (Lines W sink)) (xs ys : List ℕ)
    → Puts a b xs → Puts b c ys → Puts a c (xs ++ ys)
puts_joined {W} {sink} joined a b c xs ys first second = record {
  same_lines = second.same_lines ∙ first.same_lines;
  writes = rw (← flat_map-append escape_octet xs ys) at
      (and_then (record { joined = joined }) first.writes second.writes);
}
