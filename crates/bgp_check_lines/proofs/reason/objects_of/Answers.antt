use Rattle.std.proofs.Common.{◌≡◌, ◌∙◌, ◌++◌, List, ℕ, ap, subst, sym}
use Rattle.mrt.specs.MemSink.{SinkState}
use Rattle.bgp_check_text.specs.Reason.{lines_text}
use Rattle.bgp_check_lines.specs.Reason.{AreToldAs}
use Rattle.bgp_check_lines.proofs.reason.objects_of.Goals as goal

pub returns-clause-ok : goal.returns-clause-ok
returns-clause-ok g c =
    let (text, are, took) = c.in_ok-write_objects.ensures.ok in
    let written : text ≡ c.into_octets.result.items = sym (c.into_octets.ensures ∙ took.behind ∙ ap (λ (s : SinkState). s.octets ++ text) c.new-sink.ensures) in
    subst (λ (t : List ℕ). AreToldAs c.args.judged (lines_text c.args.reason.now) t) written are
