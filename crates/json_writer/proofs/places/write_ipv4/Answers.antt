use Rattle.bgp_prefix.specs.Text.{address_text, dotted_text}
use Rattle.json_writer.proofs.InPlace.{then_put}
use Rattle.json_writer.proofs.places.write_ipv4.Goals as goal

pub returns-clause-written : goal.returns-clause-written
unfolding address_text dotted_text
returns-clause-written c =
    let first = c.write_octet-at.ensures in
    let second = c.write_octet-at-2.ensures in
    let third = c.write_octet-at-3.ensures in
    let text = then_put first.written (then_put first.dot (then_put second.written (then_put second.dot (then_put third.written (then_put third.dot c.write_octet.ensures.written))))) in
    rw (c.to_be_bytes.ensures) at text
