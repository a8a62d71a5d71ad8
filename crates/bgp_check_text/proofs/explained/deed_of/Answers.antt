use Rattle.std.proofs.Common.{◌≡◌, ◌∙◌, ◌++◌, List, ℕ, ap, subst, sym}
use Rattle.mrt.specs.MemSink.{SinkState}
use Rattle.bgp_judge.specs.Verdict.{verdict_value}
use Rattle.bgp_explain.specs.Records.{SaysDeed}
use Rattle.bgp_check_text.proofs.explained.deed_of.Goals as goal

pub returns-in-Ok : goal.returns-in-Ok
returns-in-Ok g c = λ records are.
    let telling = c.args.telling.now in
    let (text, says, took) = c.in-Ok.ensures records are in
    let written : text ≡ c.into_octets.result.items = sym (c.into_octets.ensures ∙ took.behind ∙ ap (λ (s : SinkState). s.octets ++ text) c.new-sink.ensures) in
    subst (λ (t : List ℕ). SaysDeed c.args.config.now telling.style c.args.session.now telling.peer records (verdict_value c.args.explained.now.verdict) t) written says
