use Rattle.std.proofs.Common.{rules, ◌∙◌}
use Rattle.bgp_tool.specs.declared.shown.Lent.{Lent}
use Rattle.bgp_tool.specs.Shown.{GivesLent}
use Rattle.bgp_tool.proofs.ShownAnswers.{of_lent}
use Rattle.bgp_tool.proofs.captures.decode_capture.Goals as goal

pub returns : goal.returns
returns g c =
    let decoded = c.decode_with-source.ensures.0 in
    let same = decoded.gave.same_source ∙ c.new-lent.ensures.same in
    of_lent (λ (s : Lent g.row.R.Denot). s.source.now) (λ a b. GivesLent g.R.Source.gives a.source b.source) g.R.Source.gives g.R.Source.has_ended g.W.Sink.takes
    g.R.Source.failures g.W.Sink.failures (λ a b xs given. given.gave) c.args.options.now c.new-lent.result c.decode_with-source.result.source _ _ _ _ _ _
    c.new-lent.ensures.now (search rules) decoded
