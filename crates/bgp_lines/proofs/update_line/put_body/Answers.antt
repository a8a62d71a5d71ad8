use Rattle.std.proofs.Common.{◌≡◌, ◌∙◌, [], List, ℕ, subst}
use Rattle.bgp_text.specs.Lines.{Writes}
use Rattle.bgp_text.proofs.Pieces.{Joins, and_then}
use Rattle.bgp_lines.proofs.UpdateBodies.{both_there, none_there, some_announced, some_withdrawn}
use Rattle.bgp_lines.proofs.update_line.put_body.Goals as goal

pub returns-in-None-Some : goal.returns-in-None-Some
returns-in-None-Some g c =
    let law : Joins g.W.Sink = record { joined = g.met.W.Sink.joined } in
    let gone = (rw c.in-None-Some.is-0 at c.next.ensures.steps).0 in
    subst (λ (text : List ℕ). Writes c.args.lines.now c.put_attributes.new.lines text)
    (some_announced c.args.reading c.args.parts.withdrawn c.args.parts.nlri _ _ _ gone c.in-None-Some.ensures.steps)
    (and_then law c.put_part.ensures c.put_attributes.ensures)

pub returns-in-Some-None : goal.returns-in-Some-None
returns-in-Some-None g c =
    let law : Joins g.W.Sink = record { joined = g.met.W.Sink.joined } in
    subst (λ (text : List ℕ). Writes c.args.lines.now c.put_attributes-in-Some-None.new.lines text)
    (some_withdrawn c.args.reading c.args.parts.withdrawn c.args.parts.nlri _ _ _ c.in-Some-None.ensures.steps c.in-Some-None.ensures'.steps.0)
    (and_then law c.put_part-in-Some-None.ensures c.put_attributes-in-Some-None.ensures)

pub returns-in-Some-Some : goal.returns-in-Some-Some
returns-in-Some-Some g c =
    let law : Joins g.W.Sink = record { joined = g.met.W.Sink.joined } in
    subst (λ (text : List ℕ). Writes c.args.lines.now c.put_attributes-in-Some-Some.new.lines text)
    (both_there c.args.reading c.args.parts.withdrawn c.args.parts.nlri _ _ _ _ _ c.in-Some-Some.ensures.steps c.in-Some-Some.ensures'.steps)
    (and_then law c.put_part-in-Some-Some.ensures (and_then law c.put.ensures (and_then law c.put_part-in-Some-Some-2.ensures c.put_attributes-in-Some-Some.ensures)))
