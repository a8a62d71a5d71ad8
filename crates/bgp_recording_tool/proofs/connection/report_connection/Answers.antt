use Rattle.std.proofs.Common.{◌≡◌, List, length, reverse, inr, subst, sym}
use Rattle.bgp_prefix.specs.declared.session.RouteRefresh.TheVariants as refreshes
use Rattle.bgp_prefix.specs.declared.session.Session.{Session}
use Rattle.bgp_tool.specs.Status.{code_of}
use Rattle.bgp_recording.specs.Pieces.{framings_of}
use Rattle.bgp_recording.specs.Recorded.{IsRecorded}
use Rattle.bgp_recording.proofs.Capturing.{made_are_allowed}
use Rattle.bgp_recording_tool.specs.Remarks.{AddsTold, IsHelp}
use Rattle.bgp_recording_tool.specs.declared.remark.Remark.{Remark}
use Rattle.bgp_recording_tool.proofs.Tellings.{was_judged, was_refreshed, was_turned_down}
use Rattle.bgp_recording_tool.proofs.connection.report_connection.Goals as goal

pub returns-in-Err : goal.returns-in-Err
returns-in-Err g c = λ packets segments taken holds.
    was_turned_down c.args.config.now c.args.report c.args.import.now packets segments c.args.number c.args.named c.args.lines.now c.put_refused.new.lines c.args.remarks.now.items
    c.put_refused.new.remarks.items (code_of c.put_refused.result) c.in-Err.refusal (rw c.in-Err.is at (c.records_of.ensures.told packets segments taken holds))
    c.put_refused.ensures.writes c.put_refused.ensures.status c.put_refused.ensures.helps

pub returns-in-Some : goal.returns-in-Some
returns-in-Some g c = λ packets segments taken holds.
    was_refreshed c.args.config.now c.args.report c.args.import.now packets segments c.args.number c.args.named c.args.lines.now c.put_refused-in-Some.new.lines c.args.remarks.now.items
    c.put_refused-in-Some.new.remarks.items (code_of c.put_refused-in-Some.result) c.in-Some.refusal c.in-Ok.made (rw c.in-Ok.is at (c.records_of.ensures.told packets segments taken holds))
    c.in-Some.ensures.some.0 c.in-Some.ensures.some.1 c.put_refused-in-Some.ensures.writes c.put_refused-in-Some.ensures.status c.put_refused-in-Some.ensures.helps

pub report_made-reported-requires-clause-can : goal.report_made-reported-requires-clause-can
report_made-reported-requires-clause-can g c =
    let h = c.requires.holds in
    let tells = rw c.in-Ok.is at (c.records_of.ensures.told h.packets h.segments h.taken h.holds) in
    let session = c.args.config.now.parts.session in
    made_are_allowed session c.args.import.now.within tells.connection c.in-Ok.made.entries.items c.in-Ok.made.received c.in-Ok.made.sent
    (λ refuses. c.in_default.ensures.none (subst (λ (s : Session). s.refresh ≡ refreshes.Refused) (sym c.requires.session) refuses))
    (subst (λ (s : Session). IsRecorded (framings_of s) c.args.import.now.within tells.connection c.in-Ok.made.entries.items c.in-Ok.made.received c.in-Ok.made.sent)
    c.requires.session tells.recorded.told)

pub returns-in-Ok-reported : goal.returns-in-Ok-reported
returns-in-Ok-reported g c = λ packets segments taken holds.
    let tells = rw c.in-Ok.is at (c.records_of.ensures.told packets segments taken holds) in
    was_judged c.args.config.now c.args.report c.args.import.now packets segments c.args.number c.args.named c.args.lines.now c.report_made-reported.new.lines c.args.remarks.now.items
    c.report_made-reported.new.remarks.items (code_of c.in-Ok-reported.status) c.in-Ok.made tells
    c.in_default.ensures.none (c.in-Ok-reported.ensures packets segments taken holds tells)

pub returns : goal.returns
returns g c = λ packets segments taken holds.
    let none = c.in-Err-reported.ensures packets segments taken holds in
    let refused = c.put_refused-in-Err-reported in
    was_turned_down c.args.config.now c.args.report c.args.import.now packets segments c.args.number c.args.named c.args.lines.now refused.new.lines c.args.remarks.now.items
    refused.new.remarks.items (code_of refused.result) c.no_memory.result (inr (c.no_memory.ensures (reverse segments) (length packets) holds))
    (rw none.same_lines at refused.ensures.writes) refused.ensures.status
    (subst (λ (old : List Remark). AddsTold old refused.new.remarks.items (IsHelp c.args.named c.no_memory.result)) none.same_remarks refused.ensures.helps)
