use Rattle.std.proofs.Common.{◌∙◌, List, ℕ, arith, subst, sym}
use Rattle.bgp_attr.specs.Field.{attribute_of}
use Rattle.bgp_text.specs.Lines.{Writes}
use Rattle.bgp_lines.proofs.UpdateBodies.{no_marker, three_octets, with_marker}
use Rattle.bgp_lines.proofs.update_line.put_only.Goals as goal

pub returns-then-is_marker : goal.returns-then-is_marker
returns-then-is_marker g c =
    subst (λ (text : List ℕ). Writes c.args.lines.now c.put_end_of_rib.new.lines text)
    (with_marker c.args.reading (attribute_of c.args.attr) (sym c.is_marker.ensures ∙ c.if-is_marker.true))
    (rw c.read_u16.ensures at c.put_end_of_rib.ensures)

pub returns-else-is_marker : goal.returns-else-is_marker
returns-else-is_marker g c =
    subst (λ (text : List ℕ). Writes c.args.lines.now c.put_attribute.new.lines text)
    (no_marker c.args.reading (attribute_of c.args.attr) (sym c.is_marker.ensures ∙ c.if-is_marker.false))
    c.put_attribute.ensures
