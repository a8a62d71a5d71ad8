use Rattle.std.proofs.Common.{◌∙◌, ap, codes}
use Rattle.std.proofs.lemmas.Result.{IfOk-weaker}
use Rattle.clap.specs.Words.{App, with_rule}
use Rattle.bgp_words.specs.Words.{file_word, flag_word, option_word, with_recording}
use Rattle.bgp_words.proofs.decode.decode_words.Goals as goal

abbrev words : App → App
words decode =
    with_rule (with_rule (with_rule (with_rule (with_rule (with_rule (with_rule (with_rule decode
    (file_word (codes "FILE"))) (flag_word (codes "names"))) (flag_word (codes "json")))
    (flag_word (codes "as2"))) (flag_word (codes "mrt"))) (option_word (codes "peer")))
    (option_word (codes "local"))) (flag_word (codes "extended"))

pub returns-clause-words : goal.returns-clause-words
returns-clause-words c =
    IfOk-weaker c.with_recording.result _ _ (λ decode is. is ∙ ap with_recording (c.in_ok-decode.ensures.words ∙ ap words c.new_command-decode.ensures.words)) c.with_recording.ensures.words

pub returns-clause-local : goal.returns-clause-local
returns-clause-local c =
    c.with_recording.ensures.local (c.in_ok-decode.ensures.local c.new_command-decode.ensures.local)
