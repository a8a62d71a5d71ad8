use Rattle.std.proofs.Common.{List, ℕ, subst, rules}
use Rattle.bgp_tool.proofs.CaptureJudged.{is_written}
use Rattle.bgp_text.proofs.Fresh.{IsFresh}
use Rattle.bgp_text.proofs.Pieces.{Joins, and_nothing, and_then}
use Rattle.bgp_list.specs.Capture.{Lists}
use Rattle.bgp_list.proofs.Texts.{coded_as, told_as}
use Rattle.bgp_list.proofs.capture.list_capture.Goals as goal

pub returns : goal.returns
returns g c =
    let law : Joins g.W.Sink = record { joined = g.met.W.Sink.joined } in
    let fresh : IsFresh c.new-lines.result = record { empty = c.new-lines.ensures.empty; calm = c.new-lines.ensures.fresh } in
    let listed = c.put_listed-sessions.ensures in
    let wrote = and_nothing law (and_then law listed.1 c.put_fault_in.ensures.wrote) c.hand_over-status.ensures.writes in
    record {
      octets = c.hold-held.result.octets.items;
      ending = c.hold-held.result.ending;
      held = c.hold-held.ensures.held;
      counted = c.hold-held.ensures.failures;
      text = listed.0;
      lists = subst (λ (o : List ℕ). Lists c.args.form o c.hold-held.result.ending listed.0 c.put_listed-sessions.result.0 c.put_listed-sessions.result.1) c.as_slice-octets.ensures.value listed.2;
      in_form = c.put_fault_in.ensures.in_form;
      written = is_written c.new-lines.result c.hand_over-status.new.lines c.args.sink.now _ fresh c.new-lines.ensures.now (search rules)
          _ _ _ wrote c.hand_over-status.ensures.none (coded_as _ _ _ _ c.code.ensures (told_as _ _ _ _ c.hand_over-status.ensures.told c.status_of.ensures));
    }
