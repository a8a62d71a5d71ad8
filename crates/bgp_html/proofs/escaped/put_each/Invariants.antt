use Rattle.std.proofs.Common.{◌≡◌, ◌++◌, List, ℕ, drop}
use Rattle.std.specs.List.{flat_map}
use Rattle.bgp_text.specs.Lines.{Writes}
use Rattle.bgp_html.specs.Escaped.{escape_octet}
use Rattle.bgp_html.proofs.escaped.put_each.Given as goal

-- what is written and what is left to write are the values
abbrev pub invariant-loop-octet : goal.invariant-loop-octet
invariant-loop-octet g l =
    (text : List ℕ) × Writes l.fn.lines l.lines text
    × (text ++ flat_map escape_octet (drop l.octet-index l.text) ≡ flat_map escape_octet l.fn.text)
