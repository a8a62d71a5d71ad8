use Rattle.std.proofs.Common.{arith}
use Rattle.bgp_json_values.proofs.PrefixOctets.{no_length, other_length, this_length}
use Rattle.bgp_json_values.proofs.destinations.after_prefix.Goals as goal

pub returns-in_err-length : goal.returns-in_err-length
returns-in_err-length c = rw c.from_residual.ensures (no_length c.args.prefix c.args.octets.now c.in_err-length.ensures.cases)

pub returns-then-length : goal.returns-then-length
returns-then-length c =
    this_length c.args.prefix c.args.octets.now c.in_ok-length.rest.now c.in_ok-length.length.now c.after_bits.result c.in_ok-length.ensures.cases.0 (omega arith) c.after_bits.ensures

pub returns-else-length : goal.returns-else-length
returns-else-length c =
    other_length c.args.prefix c.args.octets.now c.in_ok-length.rest.now c.in_ok-length.length.now c.in_ok-length.ensures.cases.0 (λ same. omega arith)
