use Rattle.std.proofs.Common.{◌∙◌, Bool, None, refl, ap, length, reverse}
use Rattle.bgp_import.specs.Gathers.{cut_short_by}
use Rattle.bgp_tool.specs.Status.{code_of}
use Rattle.bgp_recording_tool.proofs.Puttings.{was_read, was_refused}
use Rattle.bgp_recording_tool.proofs.judging.judge_source.Goals as goal

pub returns-in-Ok : goal.returns-in-Ok
returns-in-Ok g c =
    let i = c.in-Ok.ensures.gathers in
    let failures = rw c.in-Ok.is at c.gather.ensures.failures in
    let is_cut = c.cut_short.ensures (reverse i.segments) (length i.packets) i.holds
    ∙ ap (λ (b : Bool). cut_short_by b (length i.packets)) i.is_cut in
    was_read g.R.Source.gives g.R.Source.has_ended g.R.Source.failures c.args.config.now c.args.report c.args.import.now c.args.source.now c.gather.new.source
    c.args.lines.now c.judge_gathered-status.new.lines c.args.remarks.now.items c.judge_gathered-status.new.remarks.items (code_of c.judge_gathered-status.result) c.cut_short.result
    i.octets i.packets i.segments i.cut i.all is_cut failures (c.judge_gathered-status.ensures i.packets i.segments i.all.taken i.holds)

pub returns-in-Err : goal.returns-in-Err
returns-in-Err g c =
    was_refused g.R.Source.gives g.R.Source.has_ended g.R.Source.failures c.args.config.now c.args.report c.args.import.now c.args.source.now c.gather.new.source
    c.args.lines.now c.put_refused.new.lines c.args.remarks.now.items c.put_refused.new.remarks.items (code_of c.put_refused.result) None c.in-Err.refusal
    c.in-Err.ensures.gathers c.in-Err.ensures.failures c.put_refused.ensures.writes c.put_refused.ensures.status c.put_refused.ensures.helps refl
