use Rattle.std.proofs.Common.{◌≡◌, ◌≤◌, ◌*◌, ◌+◌, ◌^◌, length, take}
use Rattle.std.specs.List.{flat_map}
use Rattle.bgp_path.specs.Path.{value_of}
use Rattle.bgp_attr.specs.Writing.{type_octets}
use Rattle.bgp_attr.proofs.writing.attributes_len.Given as goal

abbrev pub invariant-loop-attr_type : goal.invariant-loop-attr_type
invariant-loop-attr_type g l =
    (l.len ≡ length (flat_map (type_octets l.side (value_of l.path)) (take l.attr_type-index l.types))) × (l.len ≤ (1022 * 2 ^ 64 + 4) * l.attr_type-index)
