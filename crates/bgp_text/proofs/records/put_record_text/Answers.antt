use Rattle.std.proofs.Common.{refl, codes}
use Rattle.bgp_text.specs.Capture.{message_text}
use Rattle.bgp_text.proofs.records.put_record_text.Goals as goal

pub put_message_of-requires-clause-whole : goal.put_message_of-requires-clause-whole
put_message_of-requires-clause-whole g c =
    let allowed = rw c.in-In.is at c.requires in allowed.1.0.3

pub put_message_of-requires-in-Out-clause-whole : goal.put_message_of-requires-in-Out-clause-whole
put_message_of-requires-in-Out-clause-whole g c =
    let allowed = rw c.in-Out.is at c.requires in allowed.1.0.3

pub returns-in-In : goal.returns-in-In
returns-in-In g c =
    let (text, is, wrote) = c.put_message_of.ensures in
    (message_text c.in-In.second (codes " received ") text, rw c.in-In.is (text, is, refl), wrote)

pub returns-in-Out : goal.returns-in-Out
returns-in-Out g c =
    let (text, is, wrote) = c.put_message_of-in-Out.ensures in
    (message_text c.in-Out.second (codes " sent ") text, rw c.in-Out.is (text, is, refl), wrote)
