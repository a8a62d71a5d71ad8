use Rattle.std.proofs.Common.{◌∙◌, ap}
use Rattle.bgp_attr.specs.Split.{Split}
use Rattle.bgp_update.specs.Fields.{sections_of}
use Rattle.bgp_update.proofs.OneParts.{no_nlri, no_attributes}
use Rattle.bgp_update.proofs.parts.read_parts.Goals as goal

pub returns-in_default-new-2-clause-none : goal.returns-in_default-new-2-clause-none
returns-in_default-new-2-clause-none c =
    no_nlri c.args.form c.args.octets.now (sections_of c.in-Some.fields) c.in-Some.ensures.some c.in_default-new-2.ensures.none

pub returns-then-is_some-clause-none : goal.returns-then-is_some-clause-none
returns-then-is_some-clause-none c =
    let tail = c.tail.ensures.tail ∙ ap (λ (s : Split). s.tail) c.new-attributes.ensures.same in
    no_attributes c.args.form c.args.octets.now (sections_of c.in-Some.fields) c.in-Some.ensures.some
    (rw (← tail, ← c.is_some.ensures) c.if-is_some.true)
