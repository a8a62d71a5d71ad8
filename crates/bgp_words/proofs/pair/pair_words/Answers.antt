use Rattle.std.proofs.Common.{◌∙◌, ap, codes}
use Rattle.std.proofs.lemmas.Result.{IfOk-weaker}
use Rattle.clap.specs.Words.{App, with_rule}
use Rattle.bgp_words.specs.Words.{file_word}
use Rattle.bgp_words.proofs.pair.pair_words.Goals as goal

pub returns-clause-words : goal.returns-clause-words
returns-clause-words c =
    IfOk-weaker c.with_word.result _ _ (λ pair adds. adds.is ∙ ap (λ (a : App). with_rule a (file_word (codes "FILE"))) c.new_command-pair.ensures.words) c.with_word.ensures.words

pub returns-clause-local : goal.returns-clause-local
returns-clause-local c =
    c.with_word.ensures.local c.new_command-pair.ensures.local
