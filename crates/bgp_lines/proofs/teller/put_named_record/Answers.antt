use Rattle.std.proofs.Common.{refl}
use Rattle.bgp_lines.proofs.teller.put_named_record.Goals as goal

pub put_message_of-requires-clause-whole : goal.put_message_of-requires-clause-whole
put_message_of-requires-clause-whole g c =
    let allowed = rw c.in-In.is at c.requires in allowed.1.0.3

pub put_message_of-requires-in-Out-clause-whole : goal.put_message_of-requires-in-Out-clause-whole
put_message_of-requires-in-Out-clause-whole g c =
    let allowed = rw c.in-Out.is at c.requires in allowed.1.0.3

pub returns-in-In : goal.returns-in-In
returns-in-In g c =
    let (text, is, wrote) = c.put_message_of.ensures in
    (_, rw c.in-In.is (text, rw c.reading-reading.ensures at is, refl), wrote)

pub returns-in-Out : goal.returns-in-Out
returns-in-Out g c =
    let (text, is, wrote) = c.put_message_of-in-Out.ensures in
    (_, rw c.in-Out.is (text, rw c.reading-reading-in-Out.ensures at is, refl), wrote)
