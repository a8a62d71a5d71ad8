use Rattle.std.proofs.Common.{map, refl}
use Rattle.mrt_sessions.specs.Located.{located}
use Rattle.bgp_check_lines.specs.Values.{HasSession, value_text}
use Rattle.bgp_check_lines.proofs.Puts.{in_text, one_line}
use Rattle.bgp_check_lines.proofs.listed.put_session.Goals as goal

pub returns-in-Text : goal.returns-in-Text
returns-in-Text g c = in_text c.args.lines.now _ _ c.in-Text.is c.put_session.ensures

pub returns-in-Json : goal.returns-in-Json
unfolding value_text
returns-in-Json g c = one_line c.args.lines.now _ _ _ (HasSession c.args.addresses (map located c.args.records.now)) _ c.in-Json.is (c.put_session-in-Json.ensures) refl
