use Rattle.std.proofs.Common.{refl}
use Rattle.bgp_json.specs.Others.{change_json}
use Rattle.bgp_json.specs.RecordJson.{place_at}
use Rattle.bgp_json.proofs.teller.put_shown.Goals as goal

pub put_json_message-requires-clause-whole : goal.put_json_message-requires-clause-whole
put_json_message-requires-clause-whole g c =
    let allowed = rw c.in-In.is at c.requires in rw c.with_extended-limit.ensures allowed.1.0.3

pub put_json_message-requires-in-Out-clause-whole : goal.put_json_message-requires-in-Out-clause-whole
put_json_message-requires-in-Out-clause-whole g c =
    let allowed = rw c.in-Out.is at c.requires in rw c.with_extended-limit.ensures allowed.1.0.3

pub returns-in-In : goal.returns-in-In
returns-in-In g c =
    let (value, is, wrote) = c.put_json_message.ensures in
    (value, rw c.in-In.is (rw (c.reading-reading.ensures, c.with_extended-limit.ensures, c.place_at.ensures) at is), wrote)

pub returns-in-Out : goal.returns-in-Out
returns-in-Out g c =
    let (value, is, wrote) = c.put_json_message-in-Out.ensures in
    (value, rw c.in-Out.is (rw (c.reading-reading-in-Out.ensures, c.with_extended-limit.ensures, c.place_at-in-Out.ensures) at is), wrote)

pub returns-in-Change : goal.returns-in-Change
returns-in-Change g c = (change_json (place_at c.args.number c.in-Change.second c.args.packet) c.in-Change.old c.in-Change.new, rw c.in-Change.is refl, rw c.place_at-in-Change.ensures at c.put_json_change.ensures)
