use Rattle.std.proofs.Common.{sym}
use Rattle.std.proofs.lemmas.List.{length-map}
use Rattle.bgp_text.proofs.Pieces.{Joins, and_then}
use Rattle.mrt_sessions.specs.Located.{located}
use Rattle.bgp_list.specs.Sessions.{session_line}
use Rattle.bgp_list.proofs.session.put_session.Goals as goal

pub returns : goal.returns
unfolding session_line
returns g c =
    let law : Joins g.W.Sink = record { joined = g.met.W.Sink.joined } in
    let counts = rw c.of.ensures at c.put_counts.ensures in
    let times = rw (c.first_second.ensures, c.last_second.ensures) at c.put_times.ensures in
    let many = rw (sym (length-map c.args.records.now located)) at c.put_decimal.ensures in
    and_then law c.put.ensures (and_then law c.put_address.ensures (and_then law c.put-2.ensures (and_then law c.put_address-2.ensures (and_then law c.put-3.ensures
    (and_then law times (and_then law c.put-4.ensures (and_then law many (and_then law c.put-5.ensures (and_then law counts c.put-6.ensures)))))))))
