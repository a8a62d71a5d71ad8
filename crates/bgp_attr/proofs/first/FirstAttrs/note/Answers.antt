use Rattle.std.proofs.Common.{List, Option, ◌∙◌, ap, arith}
use Rattle.bgp_attr.proofs.FirstNoted.{placed}
use Rattle.bgp_attr.specs.declared.field.Attr.{Attr}
use Rattle.bgp_attr.specs.Field.{attribute_of}
use Rattle.bgp_attr.specs.First.{first_at, with_next}
use Rattle.bgp_attr.proofs.first.FirstAttrs.note.Goals as goal

pub returns-then-is_none : goal.returns-then-is_none
returns-then-is_none c = record {
  next = λ t.
      placed c.self.inside.places c.args.attr c.from-place.result t c.from-place.ensures (omega (arith, c.if-place-lt-PLACES.true, c.self.invariant.0)) c.if-is_none.ensures
      ∙ ap (λ (places : List (Option Attr)). with_next (first_at places) (attribute_of c.args.attr) t) c.self.view_is;
}
