use Rattle.std.proofs.Common.{◌≡◌, ◌∙◌, ap, codes}
use Rattle.std.proofs.lemmas.Result.{IfOk-weaker}
use Rattle.clap.specs.Words.{App, app_of, new_app, with_rule}
use Rattle.clap.specs.Simple.{app_of_fields}
use Rattle.bgp_words.specs.Words.{file_word, flag_word, option_word, with_recording, with_settings}
use Rattle.bgp_words.proofs.judge.judge_words.Goals as goal

pub returns-clause-words : goal.returns-clause-words
returns-clause-words c =
    let named : app_of c.override_usage-judge.result ≡ new_app (codes "judge") =
    ap app_of_fields c.override_usage-judge.ensures ∙ c.new_command.ensures.words in
    let filed = c.in_ok-judge.ensures.words.is ∙ ap (λ (a : App). with_rule a (file_word (codes "FILE"))) named in
    let set = c.in_ok-judge-2.ensures.words ∙ ap with_settings filed in
    let offers = c.in_ok-judge-3.ensures.words.is ∙ ap (λ (a : App). with_rule a (option_word (codes "offers"))) set in
    let told = c.in_ok-judge-4.ensures.words ∙ ap with_recording offers in
    let explained = c.in_ok-judge-5.ensures.words.is ∙ ap (λ (a : App). with_rule a (flag_word (codes "explain"))) told in
    IfOk-weaker c.with_word-4.result _ _ (λ judge adds. adds.is ∙ ap (λ (a : App). with_rule a (flag_word (codes "json"))) explained)
    c.with_word-4.ensures.words

pub returns-clause-local : goal.returns-clause-local
returns-clause-local c =
    c.with_word-4.ensures.local (c.in_ok-judge-5.ensures.local (c.in_ok-judge-4.ensures.local (c.in_ok-judge-3.ensures.local (c.in_ok-judge-2.ensures.local (c.in_ok-judge.ensures.local (ap (λ f. f.has_globals) c.override_usage-judge.ensures ∙ c.new_command.ensures.local))))))
