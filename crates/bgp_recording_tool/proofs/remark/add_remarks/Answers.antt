use Rattle.std.proofs.Common.{◌∙◌, ◌++◌, ◌+◌, drop, List, [], ◌∷◌, Some, None, sym, ap, append_assoc, append-nil}
use Rattle.bgp_recording_tool.specs.Remarks.{some_of}
use Rattle.bgp_recording_tool.specs.declared.remark.Remark.{Remark}
use Rattle.bgp_recording_tool.proofs.SomeRemarks.{one_more, pushed}
use Rattle.bgp_recording_tool.proofs.remark.add_remarks.Goals.{in-Some+else-is_err, in_default}
use Rattle.bgp_recording_tool.proofs.remark.add_remarks.Goals as goal

pub loop-remark-preserved : goal.loop-remark-preserved
loop-remark-preserved g c =
    let (extra, added, so_far) = c.loop-remark.invariant in
    elim c.match-remark.branch [
      | in-Some+else-is_err w ↦ (
        extra ++ w.in-Some.remark ∷ [],
        ap (λ v. v.items) w.remarks-is
            ∙ pushed _ w.push.new.self.items c.loop-remark.remarks.items _ w.in-Some.remark w.if-is_err.ensures.negation w.push.ensures.items
            ∙ ap (λ (o : List Remark). o ++ w.in-Some.remark ∷ []) added
            ∙ append_assoc c.args.remarks.now.items extra (w.in-Some.remark ∷ []),
        one_more extra (some_of c.args.more.now) c.args.more.now c.loop-remark.remark-index (Some w.in-Some.remark) c.loop-remark-test.true w.in-Some.is so_far,
      )
      | in_default w ↦ (
        extra,
        ap (λ v. v.items) w.remarks-is ∙ added,
        sym (ap (λ (o : List Remark). o ++ some_of (drop (c.loop-remark.remark-index + 1) c.args.more.now)) (append-nil extra))
            ∙ one_more extra (some_of c.args.more.now) c.args.more.now c.loop-remark.remark-index None c.loop-remark-test.true w.in_default.is so_far,
      )
    ]
