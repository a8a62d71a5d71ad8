use Rattle.std.proofs.Common.{◌∙◌, ap, map}
use Rattle.mrt_sessions.specs.Located.{located}
use Rattle.bgp_check_lines.specs.Sessions.{session_line}
use Rattle.bgp_text.proofs.Pieces.{Joins}
use Rattle.bgp_check_capture_tool.proofs.Adds.{adds_then, session_put}
use Rattle.bgp_check_lines.specs.DeclaredTally.{Tally}
use Rattle.bgp_check_capture_tool.specs.Counted.{with_fault}
use Rattle.bgp_check_capture_tool.proofs.checking.put_one.Goals as goal

pub returns-clause-puts : goal.returns-clause-puts
returns-clause-puts g c =
    let law : Joins g.W.Sink = record { joined = g.met.W.Sink.joined } in
    let puts = c.put_ends-fault.ensures in
    let heading = session_line c.args.addresses (map located c.args.named.now) in
    record {
      ends = puts.ends;
      fault = c.put_ends-fault.result.1;
      told = puts.told;
      wrote = session_put law heading c.args.lines.now c.put_heading.new.lines c.put_end_of.new.lines c.args.telling.printing.quiet _ _ c.put_heading.ensures
          (adds_then law heading c.put_heading.new.lines c.put_ends-fault.new.lines c.put_end_of.new.lines _ _ _ _ _ puts.adds c.put_end_of.ensures);
      tallied = c.add_fault.ensures.tallied ∙ ap (λ (t : Tally). with_fault t c.put_ends-fault.result.1) puts.tallied;
      added = c.add_fault.ensures.added;
      marked = puts.marked;
    }
