use Rattle.std.proofs.Common.{◌≡◌, ◌∙◌, ◌++◌, List, ℕ, ap, subst, sym}
use Rattle.mrt.specs.MemSink.{SinkState}
use Rattle.bgp_explain.specs.Text.{IsWhyOfWith}
use Rattle.bgp_explain.proofs.kept_lines.text_of.Goals as goal

pub returns-in-Ok : goal.returns-in-Ok
returns-in-Ok g c =
    let (text, is, took) = c.in-Ok.ensures in
    let written : text ≡ c.into_octets.result.items = sym (c.into_octets.ensures ∙ took.behind ∙ ap (λ (s : SinkState). s.octets ++ text) c.new-sink.ensures) in
    subst (λ (t : List ℕ). IsWhyOfWith c.args.config.now c.args.style.now c.args.session.now c.args.another c.args.reason.now c.args.why.now t) written is
