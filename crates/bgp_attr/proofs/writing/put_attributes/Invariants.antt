use Rattle.std.proofs.Common.{take, vec_len, vec_capacity}
use Rattle.std.specs.List.{flat_map}
use Rattle.bgp_path.specs.Path.{value_of}
use Rattle.bgp_attr.specs.Writing.{type_octets}
use Rattle.bgp_attr.proofs.Filled.{IsFilled}
use Rattle.bgp_attr.proofs.writing.put_attributes.Given as goal

abbrev pub invariant-loop-attr_type : goal.invariant-loop-attr_type
invariant-loop-attr_type g l =
    IsFilled l.initial.out.items (vec_len l.initial.out) (vec_capacity l.initial.out)
    (flat_map (type_octets l.side (value_of l.path)) (take l.attr_type-index l.types)) l.out.items (vec_len l.out) (vec_capacity l.out)
