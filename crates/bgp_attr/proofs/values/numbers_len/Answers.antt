use Rattle.std.proofs.Common.{arith}
use Rattle.byteorder.specs.Endian.{big_bytes}
use Rattle.byteorder.specs.Numbers.{length-bytes_high_first}
use Rattle.bgp_attr.proofs.Lengths.{flat_len}
use Rattle.bgp_attr.proofs.values.numbers_len.Goals as goal

pub returns-clause-len : goal.returns-clause-len
returns-clause-len c = omega (arith, flat_len (big_bytes 4) 4 (length-bytes_high_first 4) c.args.numbers.now)
