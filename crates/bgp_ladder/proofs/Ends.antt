-- The pieces of a text, put one behind another.
use Rattle.std.proofs.Common.{◌++◌, ℕ, List, [], append-nil, sym, subst}
use Rattle.std.proofs.lemmas.Grind.{flat_map-append}
use Rattle.mrt.specs.declared.sink.Sink as sinks
use Rattle.bgp_text.specs.Lines.{Writes}
use Rattle.bgp_text.specs.declared.lines.Lines.{Lines}
use Rattle.bgp_html.specs.Escaped.{escape_octet, escaped}
use Rattle.bgp_html.specs.Pieces.{Piece, html_of, piece_html}

-- the last of them
pub ended : {W : Type 0} {sink : sinks.Ghosts W} {old new : Lines W sink} {text : List ℕ} → Writes old new text → Writes old new (text ++ [])
ended {old = old} {new = new} {text = text} writes = subst (λ (t : List ℕ). Writes old new t) (sym (append-nil text)) writes

-- those of two lists
pub together : {W : Type 0} {sink : sinks.Ghosts W} {old new : Lines W sink} (pieces more : List Piece)
    → Writes old new (html_of pieces ++ html_of more) → Writes old new (html_of (pieces ++ more))
together {old = old} {new = new} pieces more writes =
    subst (λ (t : List ℕ). Writes old new t) (sym (flat_map-append piece_html pieces more)) writes

-- those of two texts
pub in_words : {W : Type 0} {sink : sinks.Ghosts W} {old new : Lines W sink} (words more : List ℕ)
    → Writes old new (escaped words ++ escaped more) → Writes old new (escaped (words ++ more))
in_words {old = old} {new = new} words more writes =
    subst (λ (t : List ℕ). Writes old new t) (sym (flat_map-append escape_octet words more)) writes
