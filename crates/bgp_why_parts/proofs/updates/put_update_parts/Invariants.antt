use Rattle.std.proofs.Common.{◌≡◌, ◌++◌, List, ℕ, drop, map}
use Rattle.bgp_parts.specs.UpdateParts.{shown_part}
use Rattle.bgp_names.specs.Lines.{Writes}
use Rattle.bgp_why_parts.specs.Updates.{update_parts_by, update_parts_text}
use Rattle.bgp_why_parts.proofs.updates.put_update_parts.Given as goal

-- what is written and what is left to write are the parts
abbrev pub invariant-loop-part : goal.invariant-loop-part
invariant-loop-part g l =
    (text : List ℕ) × Writes l.fn.lines l.lines text
    × (text ++ update_parts_by l.is_sent l.separator (map shown_part (drop l.part-index l.parts)) ≡ update_parts_text l.fn.is_sent (map shown_part l.fn.parts))
