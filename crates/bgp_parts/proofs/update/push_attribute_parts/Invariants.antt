use Rattle.std.proofs.Common.{◌≡◌, length, map}
use Rattle.bgp_attr.specs.Split.{attributes_of}
use Rattle.bgp_parts.specs.UpdateParts.{shown_part}
use Rattle.bgp_parts.proofs.Walking.{Walked}
use Rattle.bgp_parts.proofs.update.push_attribute_parts.Given as goal

abbrev pub invariant-loop-attr : goal.invariant-loop-attr
invariant-loop-attr g l = record {
  count : length l.seen ≡ 256;
  twice_count : length l.repeated ≡ 256;
  walked : Walked l.link l.form (map shown_part l.out.items) (map shown_part l.fn.out.items) l.seen l.repeated l.attrs.attributes (attributes_of l.field);
}

abbrev pub decreases-loop-attr : goal.decreases-loop-attr
decreases-loop-attr g l = length l.attrs.attributes
