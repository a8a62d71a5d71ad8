use Rattle.std.proofs.Common.{◌∙◌, ap}
use Rattle.bgp_json_verdicts.specs.Lines.{Reasons, SentAlready, line_text}
use Rattle.bgp_json_verdicts.specs.declared.at.At.{At}
use Rattle.bgp_verdict_lines.proofs.Puts.{in_text, no_lines, one_line}
use Rattle.bgp_verdict_lines.proofs.SameTexts.{already_same}
use Rattle.bgp_verdict_lines.proofs.reasons.put_sent_already.Goals as goal

pub returns-in_default : goal.returns-in_default
returns-in_default g c = rw c.in_default.is (no_lines g.met.W.Sink.nothing c.args.lines.now)

pub returns-in-Text : goal.returns-in-Text
returns-in-Text g c = rw c.in-Some.is (in_text c.args.lines.now _ _ c.in-Text.is c.put_sent_already.ensures)

pub returns-in-Json : goal.returns-in-Json
returns-in-Json g c =
    let sent = c.in-Some.sent in
    rw c.in-Some.is
    (one_line c.args.lines.now _ _ _ _ _ c.in-Json.is c.put.ensures
    (ap (λ (at : At). line_text (Reasons (SentAlready sent.code sent.subcode at))) c.new-at.ensures ∙ already_same c.args.style.now.first sent))
