use Rattle.std.proofs.Common.{arith}
use Rattle.json_writer.proofs.InPlace.{one_put, then_put}
use Rattle.json_writer.proofs.places.write_ipv4_prefix.Goals as goal

pub returns-clause-written : goal.returns-clause-written
returns-clause-written c =
    let slash = one_put c.write_ipv4-end.result 47 c.write_ipv4-end.new.places (omega (arith, c.write_ipv4-end.ensures.written.len)) in
    then_put c.write_ipv4-end.ensures.written (then_put slash c.write_octet.ensures.written)
