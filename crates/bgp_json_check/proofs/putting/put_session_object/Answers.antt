use Rattle.std.proofs.Common.{map}
use Rattle.mrt_sessions.specs.Located.{located}
use Rattle.bgp_json.proofs.Lines.{starts_with_nothing, is_written}
use Rattle.bgp_list.specs.SessionJson.{session_json}
use Rattle.bgp_list.proofs.Shallow.{session_shallow}
use Rattle.bgp_json_check.proofs.putting.put_session_object.Goals as goal

pub put_written-requires : goal.put_written-requires
put_written-requires g c = starts_with_nothing c.start-writer.ensures.before c.write_session-written.ensures

pub returns : goal.returns
returns g c =
    let records = map located c.args.records.now in
    c.put_written.ensures (session_json c.args.addresses records) (is_written c.start-writer.ensures.tokens c.write_session-written.ensures) (session_shallow c.args.addresses records)
