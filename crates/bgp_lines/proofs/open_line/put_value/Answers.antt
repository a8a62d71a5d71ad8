use Rattle.bgp_lines.specs.OpenLine.{capability_value_text}
use Rattle.bgp_text.proofs.Pieces.{Joins, and_then}
use Rattle.bgp_lines.proofs.open_line.put_value.Goals as goal

pub returns-in-Family : goal.returns-in-Family
unfolding capability_value_text
returns-in-Family g c =
    let law : Joins g.W.Sink = record { joined = g.met.W.Sink.joined } in
    rw c.in-Family.is (and_then law c.put.ensures c.put_family_name.ensures)

pub returns-in-NextHops : goal.returns-in-NextHops
unfolding capability_value_text
returns-in-NextHops g c =
    let law : Joins g.W.Sink = record { joined = g.met.W.Sink.joined } in
    rw c.in-NextHops.is (and_then law c.put-in-NextHops.ensures c.put_joined.ensures)

pub returns-in-Role : goal.returns-in-Role
unfolding capability_value_text
returns-in-Role g c =
    let law : Joins g.W.Sink = record { joined = g.met.W.Sink.joined } in
    rw c.in-Role.is (and_then law c.put-in-Role.ensures c.put_role.ensures)

pub returns-in-AsNumber : goal.returns-in-AsNumber
unfolding capability_value_text
returns-in-AsNumber g c =
    let law : Joins g.W.Sink = record { joined = g.met.W.Sink.joined } in
    rw c.in-AsNumber.is (and_then law c.put-in-AsNumber.ensures c.put_decimal.ensures)

pub returns-in-Paths : goal.returns-in-Paths
unfolding capability_value_text
returns-in-Paths g c =
    let law : Joins g.W.Sink = record { joined = g.met.W.Sink.joined } in
    rw c.in-Paths.is (and_then law c.put-in-Paths.ensures c.put_joined-in-Paths.ensures)
