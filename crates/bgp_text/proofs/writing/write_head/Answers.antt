use Rattle.std.proofs.Common.{arith}
use Rattle.bgp_text.proofs.InPlace.{one_put, then_put}
use Rattle.bgp_text.proofs.writing.write_head.Goals as goal

pub returns-clause-written : goal.returns-clause-written
returns-clause-written c =
    let first = c.write_octet-behind.ensures in
    let second = c.write_octet-end.ensures in
    let colon = one_put c.write_octet-end.result 58 c.write_octet-end.new.places (omega (arith, first.written.len, second.written.len)) in
    then_put first.written (then_put first.dot (then_put second.written colon))
