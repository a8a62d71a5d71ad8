-- A file's name in HTML.
use Rattle.std.proofs.Common.{◌≡◌, ◌∙◌, ◌++◌, ℕ, List, [], ◌∷◌, refl, sym, ap, append-nil, subst}
use Rattle.std.proofs.lemmas.Grind.{flat_map-append}
use Rattle.std.specs.List.{flat_map}
use Rattle.mrt.specs.declared.sink.Sink as sinks
use Rattle.bgp_text.specs.Lines.{Writes}
use Rattle.bgp_text.specs.declared.lines.Lines.{Lines}
use Rattle.bgp_html.specs.Escaped.{escape_octet, escaped}
use Rattle.bgp_html.specs.Report.{name_octet, shown_name}

-- an octet of it
abbrev pub name_html : ℕ → List ℕ
name_html octet = escaped (name_octet octet)

-- all of them
pub shown_html : (name : List ℕ) → flat_map name_html name ≡ escaped (shown_name name)
shown_html [] = refl
shown_html (octet ∷ name) =
    ap (λ (o : List ℕ). name_html octet ++ o) (shown_html name)
    ∙ sym (flat_map-append escape_octet (name_octet octet) (shown_name name))

-- the last of several texts
pub ended : {W : Type 0} {sink : sinks.Ghosts W} {old new : Lines W sink} {text : List ℕ} → Writes old new text → Writes old new (text ++ [])
ended {old = old} {new = new} {text = text} writes = subst (λ (t : List ℕ). Writes old new t) (sym (append-nil text)) writes
