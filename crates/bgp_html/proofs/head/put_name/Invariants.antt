use Rattle.std.proofs.Common.{◌≡◌, ◌++◌, List, ℕ, drop}
use Rattle.std.specs.List.{flat_map}
use Rattle.bgp_text.specs.Lines.{Writes}
use Rattle.bgp_html.proofs.Names.{name_html}
use Rattle.bgp_html.proofs.head.put_name.Given as goal

-- what is written and what is left to write are the octets
abbrev pub invariant-loop-octet : goal.invariant-loop-octet
invariant-loop-octet g l =
    (text : List ℕ) × Writes l.fn.lines l.lines text
    × (text ++ flat_map name_html (drop l.octet-index l.name) ≡ flat_map name_html l.fn.name)
