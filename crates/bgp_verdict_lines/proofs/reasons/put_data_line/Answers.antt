use Rattle.std.proofs.Common.{◌++◌, ◌∙◌, ℕ, List, ap, codes, refl}
use Rattle.bgp_why.specs.Cut.{cut}
use Rattle.bgp_json_verdicts.specs.Lines.{Reasons, TheData, line_text, reason_text}
use Rattle.bgp_verdict_lines.proofs.Puts.{failed_line, in_text, one_line}
use Rattle.bgp_verdict_lines.proofs.reasons.put_data_line.Goals as goal

pub returns-in-Text : goal.returns-in-Text
returns-in-Text g c = λ text is. in_text c.args.lines.now _ _ c.in-Text.is (c.put_data_line.ensures text is)

pub returns-in-Ok : goal.returns-in-Ok
unfolding line_text reason_text
returns-in-Ok g c = λ text is.
    let shown = rw c.in-Ok.is at (c.cut_text.ensures text is) in
    one_line c.args.lines.now _ _ _ _ _ c.in-Json.is c.put.ensures
    (ap (λ (t : List ℕ). codes "  data: " ++ (t ++ codes "\n")) (c.as_slice.ensures.value ∙ shown))

pub returns-in-Err : goal.returns-in-Err
unfolding line_text reason_text
returns-in-Err g c = λ text is.
    rw c.fail.ensures (failed_line c.args.lines.now g.met.W.Sink.nothing c.in-Json.telling (Reasons (TheData (cut text))) _ c.in-Json.is refl)
