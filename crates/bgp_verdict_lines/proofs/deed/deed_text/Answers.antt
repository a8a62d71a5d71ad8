use Rattle.std.proofs.Common.{◌≡◌, ◌∙◌, ◌++◌, List, ℕ, ap, sym}
use Rattle.mrt.specs.MemSink.{SinkState}
use Rattle.bgp_why.specs.Deed.{cause_text}
use Rattle.bgp_verdict_lines.proofs.deed.deed_text.Goals as goal

pub returns-in-Ok : goal.returns-in-Ok
returns-in-Ok g c =
    let (deed, is, took) = c.write_deed.ensures in
    let text = deed ++ cause_text c.args.style.now.own_faults c.args.possible.now c.args.lacks.now in
    let all = rw c.in-Ok.is at took in
    (deed, is, c.into_octets.ensures ∙ all.behind ∙ ap (λ (s : SinkState). s.octets ++ text) c.new-sink.ensures)

pub returns-in-Err : goal.returns-in-Err
returns-in-Err g c =
    let (deed, is, took) = c.write_deed.ensures in
    (deed, is, tt)
