use Rattle.std.proofs.Common.{take, vec_len, vec_capacity}
use Rattle.bgp_update_writer.specs.Written.{nlri_octets}
use Rattle.bgp_update_writer.proofs.Filled.{IsFilled}
use Rattle.bgp_update_writer.proofs.writing.put_prefixes.Given as goal

abbrev pub invariant-loop-prefix : goal.invariant-loop-prefix
invariant-loop-prefix g l =
    IsFilled l.initial.out.items (vec_len l.initial.out) (vec_capacity l.initial.out)
    (nlri_octets (take l.prefix-index l.prefixes)) l.out.items (vec_len l.out) (vec_capacity l.out)
