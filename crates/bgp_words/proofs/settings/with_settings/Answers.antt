use Rattle.std.proofs.Common.{◌∙◌, ap}
use Rattle.std.proofs.lemmas.Result.{IfOk-weaker}
use Rattle.bgp_words.specs.Words.{with_choices}
use Rattle.bgp_words.proofs.settings.with_settings.Goals as goal

pub returns-clause-words : goal.returns-clause-words
returns-clause-words c =
    IfOk-weaker c.with_words.result _ _ (λ it is. is ∙ ap with_choices c.in_ok-command.ensures.words) c.with_words.ensures.words
