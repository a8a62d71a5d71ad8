use Rattle.std.proofs.Common.{refl}
use Rattle.bgp_why.specs.Deed.{received_deed, sent_deed}
use Rattle.bgp_why.proofs.deed.put_deed.Goals as goal

pub name_in-requires-clause-whole : goal.name_in-requires-clause-whole
name_in-requires-clause-whole g c =
    let allowed = rw c.in-In.is at c.requires in allowed.1.0.3

pub name_in-requires-in-Out-clause-whole : goal.name_in-requires-in-Out-clause-whole
name_in-requires-in-Out-clause-whole g c =
    let allowed = rw c.in-Out.is at c.requires in allowed.1.0.3

pub returns-in-In : goal.returns-in-In
returns-in-In g c =
    (received_deed c.args.peer.now c.name_in.result, rw c.in-In.is (c.name_in.result, c.name_in.ensures, refl), c.put_received.ensures)

pub returns-in-Out : goal.returns-in-Out
returns-in-Out g c =
    (sent_deed c.args.peer.now c.name_in-in-Out.result, rw c.in-Out.is (c.name_in-in-Out.result, c.name_in-in-Out.ensures, refl), c.put_sent.ensures)
