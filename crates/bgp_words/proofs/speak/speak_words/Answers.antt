use Rattle.std.proofs.Common.{◌≡◌, ◌∙◌, ap, codes}
use Rattle.std.proofs.lemmas.Result.{IfOk-weaker}
use Rattle.clap.specs.Words.{App, app_of, new_app, with_rule}
use Rattle.clap.specs.Simple.{app_of_fields}
use Rattle.bgp_words.specs.Words.{file_word, with_settings, with_speaking}
use Rattle.bgp_words.proofs.speak.speak_words.Goals as goal

pub returns-clause-words : goal.returns-clause-words
returns-clause-words c =
    let named : app_of c.override_usage-speak.result ≡ new_app (codes "speak") =
    ap app_of_fields c.override_usage-speak.ensures ∙ c.new_command.ensures.words in
    let filed = c.in_ok-speak.ensures.words.is ∙ ap (λ (a : App). with_rule a (file_word (codes "FILE"))) named in
    IfOk-weaker c.with_speaking.result _ _ (λ speak is. is ∙ ap with_speaking (c.in_ok-speak-2.ensures.words ∙ ap with_settings filed))
    c.with_speaking.ensures.words

pub returns-clause-local : goal.returns-clause-local
returns-clause-local c =
    c.with_speaking.ensures.local (c.in_ok-speak-2.ensures.local (c.in_ok-speak.ensures.local (ap (λ f. f.has_globals) c.override_usage-speak.ensures ∙ c.new_command.ensures.local)))
