use Rattle.bgp_lines.specs.AttributeLine.{attribute_value_text}
use Rattle.bgp_text.proofs.Pieces.{Joins, and_then}
use Rattle.bgp_lines.proofs.attribute_line.put_value.Goals as goal

pub returns-in-Origin : goal.returns-in-Origin
unfolding attribute_value_text
returns-in-Origin g c =
    let law : Joins g.W.Sink = record { joined = g.met.W.Sink.joined } in
    rw c.in-Origin.is (and_then law c.put.ensures c.put_origin.ensures)

pub returns-in-Path : goal.returns-in-Path
unfolding attribute_value_text
returns-in-Path g c =
    let law : Joins g.W.Sink = record { joined = g.met.W.Sink.joined } in
    rw c.in-Path.is (and_then law c.put-in-Path.ensures c.put_path.ensures)

pub returns-in-Address : goal.returns-in-Address
unfolding attribute_value_text
returns-in-Address g c =
    let law : Joins g.W.Sink = record { joined = g.met.W.Sink.joined } in
    rw c.in-Address.is (and_then law c.put-in-Address.ensures c.put_ipv4.ensures)

pub returns-in-Number : goal.returns-in-Number
unfolding attribute_value_text
returns-in-Number g c =
    let law : Joins g.W.Sink = record { joined = g.met.W.Sink.joined } in
    rw c.in-Number.is (and_then law c.put-in-Number.ensures c.put_decimal.ensures)

pub returns-in-Items : goal.returns-in-Items
unfolding attribute_value_text
returns-in-Items g c =
    let law : Joins g.W.Sink = record { joined = g.met.W.Sink.joined } in
    rw c.in-Items.is (and_then law c.put-in-Items.ensures c.put_joined.ensures)

pub returns-in-Metric : goal.returns-in-Metric
unfolding attribute_value_text
returns-in-Metric g c =
    let law : Joins g.W.Sink = record { joined = g.met.W.Sink.joined } in
    rw c.in-Metric.is (and_then law c.put-in-Metric.ensures c.put_decimal-in-Metric.ensures)
