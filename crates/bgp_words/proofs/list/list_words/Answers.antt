use Rattle.std.proofs.Common.{◌∙◌, ap, codes}
use Rattle.std.proofs.lemmas.Result.{IfOk-weaker}
use Rattle.clap.specs.Words.{App, with_rule}
use Rattle.bgp_words.specs.Words.{file_word, flag_word, port_word}
use Rattle.bgp_words.proofs.list.list_words.Goals as goal

abbrev words : App → App
words list =
    with_rule (with_rule (with_rule list (file_word (codes "FILE"))) port_word) (flag_word (codes "json"))

pub returns-clause-words : goal.returns-clause-words
returns-clause-words c =
    IfOk-weaker c.with_words.result _ _ (λ list is. is ∙ ap words c.new_command-list.ensures.words) c.with_words.ensures.words

pub returns-clause-local : goal.returns-clause-local
returns-clause-local c =
    c.with_words.ensures.local c.new_command-list.ensures.local
