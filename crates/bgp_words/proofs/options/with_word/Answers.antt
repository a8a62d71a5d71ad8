use Rattle.std.proofs.Common.{◌∙◌, ◌||◌, ap, ap₂}
use Rattle.std.proofs.lemmas.Result.{IfOk-weaker}
use Rattle.clap.specs.Words.{app_of, with_rule}
use Rattle.bgp_words.proofs.options.with_word.Goals as goal

pub returns-clause-words : goal.returns-clause-words
returns-clause-words c =
    IfOk-weaker c.arg.result _ _ (λ it adds. record { is = adds.shape c.arg_of.ensures.local ∙ ap (with_rule (app_of c.args.command)) c.arg_of.ensures.rule }) c.arg.ensures

pub returns-clause-local : goal.returns-clause-local
returns-clause-local c none =
    IfOk-weaker c.arg.result _ _ (λ it adds. adds.globals ∙ ap₂ ◌||◌ none c.arg_of.ensures.local) c.arg.ensures
