use Rattle.std.proofs.Common.{◌∙◌, List, ℕ, subst, rules}
use Rattle.bgp_text.proofs.Fresh.{IsFresh}
use Rattle.bgp_text.proofs.Pieces.{Joins}
use Rattle.bgp_check_lines.proofs.Printed.{printed_in}
use Rattle.bgp_check_lines.proofs.Puts.{then_lines}
use Rattle.bgp_check_capture_tool.specs.Checking.{PutsFile}
use Rattle.bgp_check_lines.proofs.SameSink.{same_sink}
use Rattle.bgp_check_capture_tool.proofs.Statuses.{coded_as}
use Rattle.bgp_check_capture_tool.proofs.checking.check_held.Goals as goal

pub returns : goal.returns
returns g c =
    let law : Joins g.W.Sink = record { joined = g.met.W.Sink.joined } in
    let fresh : IsFresh c.new-lines.result.lines = record { empty = c.new-lines.ensures.empty; calm = c.new-lines.ensures.fresh } in
    let put = c.put_file-counted.result in
    let puts = subst (λ (octets : List ℕ). PutsFile c.args.options.now octets c.args.held.now.ending c.new-lines.result c.put_file-counted.new.lines put.counted.tally put.counted.refusals.items put.sessions put.fault c.args.marks.now c.put_file-counted.new.marks)
    c.as_slice.ensures.value c.put_file-counted.ensures.puts in
    let wrote = then_lines law puts.wrote (then_lines law c.put_fault.ensures (then_lines law c.put_nothing.ensures c.put_last.ensures)) in
    let one = same_sink c.new-lines.result.lines c.put_last.new.lines.lines c.new-lines.result.teller c.put_last.new.lines.teller _ wrote.puts in
    let one_sink = c.finish-status.ensures.writes.same_sink ∙ (one ∙ c.new-lines.ensures.same) in
    let ended = rw c.status.ensures at c.finish-status.ensures.told in
    record {
      checks = record {
        text = puts.text;
        of_sessions = put.counted.tally;
        of_blocks = put.counted.refusals.items;
        tells = puts.tells;
        tally = c.add_fault.new.self.tally;
        counts = c.add_fault.ensures.tallied;
        are_firsts = c.add_fault.ensures.added;
        is_nothing = c.nothing_by.ensures;
        written = printed_in law c.args.options.now.form c.new-lines.result c.put_last.new.lines c.finish-status.new.self.lines c.args.sink.now _ _ _ _ fresh c.new-lines.ensures.now (search rules)
            c.new-lines.ensures.starts wrote c.finish-status.ensures.writes c.finish-status.ensures.none (coded_as _ _ _ _ c.code.ensures ended);
      };
      marked = puts.marked;
    }
