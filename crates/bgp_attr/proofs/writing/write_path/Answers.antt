use Rattle.std.proofs.Common.{arith}
use Rattle.bgp_attr.proofs.Written.{longest}
use Rattle.bgp_attr.proofs.writing.write_path.Goals as goal

pub overflow_cast-octet_len : goal.overflow_cast-octet_len
overflow_cast-octet_len g c = omega (arith, c.octet_len.ensures.len, longest c.args.side c.args.path.now c.requires)
