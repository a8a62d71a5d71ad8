use Rattle.std.proofs.Common.{map}
use Rattle.mrt_sessions.specs.Located.{located}
use Rattle.bgp_text.proofs.Pieces.{Joins}
use Rattle.bgp_check_lines.proofs.Puts.{no_lines}
use Rattle.bgp_check_lines.specs.Sessions.{session_line}
use Rattle.bgp_check_capture_tool.proofs.Adds.{fault_added, none_added}
use Rattle.bgp_check_capture_tool.proofs.checking.put_end_of.Goals as goal

pub returns-in-None : goal.returns-in-None
returns-in-None g c =
    rw c.in-None.is (none_added (session_line c.args.addresses (map located c.args.named.now)) c.args.lines.now c.args.lines.now c.args.is_headed (no_lines g.met.W.Sink.nothing c.args.lines.now))

pub returns-in-Some : goal.returns-in-Some
returns-in-Some g c =
    let law : Joins g.W.Sink = record { joined = g.met.W.Sink.joined } in
    rw c.in-Some.is (fault_added law (session_line c.args.addresses (map located c.args.named.now)) c.args.lines.now c.put_heading.new.lines c.put_fault.new.lines c.args.is_headed c.in-Some.fault c.put_heading.ensures c.put_fault.ensures)
