use Rattle.std.proofs.Common.{take, vec_len, vec_capacity}
use Rattle.std.specs.List.{flat_map}
use Rattle.byteorder.specs.Endian.{big_bytes}
use Rattle.bgp_attr.proofs.Filled.{IsFilled}
use Rattle.bgp_attr.proofs.values.put_u32s.Given as goal

abbrev pub invariant-loop-number : goal.invariant-loop-number
invariant-loop-number g l =
    IsFilled l.initial.out.items (vec_len l.initial.out) (vec_capacity l.initial.out)
    (flat_map (big_bytes 4) (take l.number-index l.numbers)) l.out.items (vec_len l.out) (vec_capacity l.out)
