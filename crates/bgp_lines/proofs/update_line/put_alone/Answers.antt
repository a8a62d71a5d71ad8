use Rattle.std.proofs.Common.{◌≡◌, ◌∙◌, ◌++◌, ◌∷◌, List, ℕ, ap, subst}
use Rattle.bgp_attr.specs.Field.{Attribute, attribute_of}
use Rattle.bgp_text.specs.Lines.{Writes}
use Rattle.bgp_text.proofs.Pieces.{Joins, and_then}
use Rattle.bgp_lines.specs.UpdateLine.{alone, parts_body}
use Rattle.bgp_lines.proofs.UpdateBodies.{no_attributes, two_attributes}
use Rattle.bgp_lines.proofs.update_line.put_alone.Goals as goal

pub returns-in_default : goal.returns-in_default
returns-in_default g c =
    rw c.in_default.ensures.steps.0 (subst (λ (text : List ℕ). Writes c.args.lines.now c.put_end_of_rib.new.lines text) (no_attributes c.args.reading) c.put_end_of_rib.ensures)

pub returns-in_default-next : goal.returns-in_default-next
returns-in_default-next g c =
    rw (c.in-Some.ensures.steps.0, c.in_default-next.ensures.steps.0) c.put_only.ensures

pub returns : goal.returns
returns g c =
    let law : Joins g.W.Sink = record { joined = g.met.W.Sink.joined } in
    rw (c.in-Some.ensures.steps.0, c.in-Some-next.ensures.steps.0)
    (subst (λ (text : List ℕ). Writes c.args.lines.now c.put_attributes.new.lines text) (two_attributes c.args.reading _ _ _)
    (and_then law c.put_attribute.ensures (and_then law c.put.ensures (and_then law c.put_attribute-2.ensures c.put_attributes.ensures))))
