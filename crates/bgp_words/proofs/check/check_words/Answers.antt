use Rattle.std.proofs.Common.{◌≡◌, ◌∙◌, ap, codes}
use Rattle.std.proofs.lemmas.Result.{IfOk-weaker}
use Rattle.clap.specs.Words.{App, app_of, new_app, with_rule}
use Rattle.clap.specs.Simple.{app_of_fields}
use Rattle.bgp_words.specs.Words.{file_word, flag_word, letter_word, port_word, within_word}
use Rattle.bgp_words.proofs.check.check_words.Goals as goal

abbrev words : App → App
words check =
    with_rule (with_rule (with_rule (with_rule (with_rule (with_rule (with_rule (with_rule check (file_word (codes "FILE")))
    port_word) within_word) (flag_word (codes "routes"))) (flag_word (codes "settings")))
    (letter_word (codes "quiet") 113)) (flag_word (codes "json"))) (flag_word (codes "html"))

pub returns-clause-words : goal.returns-clause-words
returns-clause-words c =
    let named : app_of c.display_order-check.result ≡ new_app (codes "check") =
    ap app_of_fields c.display_order-check.ensures ∙ c.new_command.ensures.words in
    IfOk-weaker c.with_words.result _ _ (λ check is. is ∙ ap words named) c.with_words.ensures.words

pub returns-clause-local : goal.returns-clause-local
returns-clause-local c =
    c.with_words.ensures.local (ap (λ f. f.has_globals) c.display_order-check.ensures ∙ c.new_command.ensures.local)
