use Rattle.std.proofs.Common.{map}
use Rattle.mrt_sessions.specs.Located.{located}
use Rattle.bgp_json.proofs.Lines.{starts_with_nothing, is_written}
use Rattle.bgp_list.specs.SessionJson.{session_json}
use Rattle.bgp_list.proofs.Shallow.{session_shallow}
use Rattle.bgp_list.proofs.json_text.add_session.Goals as goal

pub add_written-requires : goal.add_written-requires
add_written-requires g c = starts_with_nothing c.start-writer.ensures.before c.in_ok-write_session.ensures

pub returns : goal.returns
returns g c = c.add_written.ensures (session_json c.args.addresses (map located c.args.records.now)) (is_written c.start-writer.ensures.tokens c.in_ok-write_session.ensures) (session_shallow c.args.addresses (map located c.args.records.now))
