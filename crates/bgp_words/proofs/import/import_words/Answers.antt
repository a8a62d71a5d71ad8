use Rattle.std.proofs.Common.{◌∙◌, ap, codes}
use Rattle.std.proofs.lemmas.Result.{IfOk-weaker}
use Rattle.clap.specs.Words.{App, with_rule}
use Rattle.bgp_words.specs.Words.{file_word, flag_word, required_word, with_recording}
use Rattle.bgp_words.proofs.import.import_words.Goals as goal

abbrev words : App → App
words import =
    with_rule (with_rule (with_rule (with_rule (with_rule import (file_word (codes "FILE")))
    (file_word (codes "OUT"))) (required_word (codes "local"))) (required_word (codes "peer")))
    (flag_word (codes "extended"))

pub returns-clause-words : goal.returns-clause-words
returns-clause-words c =
    IfOk-weaker c.with_recording.result _ _ (λ import is. is ∙ ap with_recording (c.in_ok-import.ensures.words ∙ ap words c.new_command-import.ensures.words)) c.with_recording.ensures.words

pub returns-clause-local : goal.returns-clause-local
returns-clause-local c =
    c.with_recording.ensures.local (c.in_ok-import.ensures.local c.new_command-import.ensures.local)
