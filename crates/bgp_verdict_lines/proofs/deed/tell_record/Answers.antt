use Rattle.std.proofs.Common.{◌++◌, ◌∙◌, ℕ, List, [], ◌∷◌, ap}
use Rattle.bgp_json_verdicts.specs.Lines.{Reasons, TheRecord, line_text}
use Rattle.bgp_json_verdicts.proofs.Told.{failed, one_text}
use Rattle.bgp_verdict_lines.proofs.SameTexts.{record_same}
use Rattle.bgp_verdict_lines.proofs.deed.tell_record.Goals as goal

pub returns-in-Ok : goal.returns-in-Ok
returns-in-Ok g c = λ deed cause said.
    let is = rw c.in-Ok.is at said in
    one_text c.put.ensures
    (ap (λ (t : List ℕ). line_text (Reasons (TheRecord c.args.place.now c.args.session.now.local t))) (c.as_slice.ensures.value ∙ is)
    ∙ record_same c.args.place.now c.args.session.now.local deed cause)

pub returns-in-Err : goal.returns-in-Err
returns-in-Err g c = λ deed cause said.
    rw c.fail.ensures
    (one_text (failed g.met.W.Sink.nothing c.args.lines.now c.args.telling.now (Reasons (TheRecord c.args.place.now c.args.session.now.local (deed ++ cause)) ∷ []))
    (record_same c.args.place.now c.args.session.now.local deed cause))
