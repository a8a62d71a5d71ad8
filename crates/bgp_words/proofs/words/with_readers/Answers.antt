use Rattle.std.proofs.Common.{◌∙◌, ap}
use Rattle.std.proofs.lemmas.Result.{IfOk-weaker}
use Rattle.clap.specs.Words.{App, app_of, with_subcommand}
use Rattle.bgp_words.specs.Words.{check_words, decode_words, import_words, judge_words, list_words}
use Rattle.bgp_words.proofs.words.with_readers.Goals as goal

pub returns : goal.returns
returns c =
    let first = c.in_ok-program.ensures decode_words c.decode_words.ensures.words c.decode_words.ensures.local in
    let second = c.in_ok-program-2.ensures judge_words c.judge_words.ensures.words c.judge_words.ensures.local
    ∙ ap (λ (a : App). with_subcommand a judge_words.top) first in
    let third = c.in_ok-program-3.ensures import_words c.import_words.ensures.words c.import_words.ensures.local
    ∙ ap (λ (a : App). with_subcommand a import_words.top) second in
    let fourth = c.in_ok-program-4.ensures list_words c.list_words.ensures.words c.list_words.ensures.local
    ∙ ap (λ (a : App). with_subcommand a list_words.top) third in
    IfOk-weaker c.with_command-5.result _ _ (λ program is. is ∙ ap (λ (a : App). with_subcommand a check_words.top) fourth)
    (c.with_command-5.ensures check_words c.check_words.ensures.words c.check_words.ensures.local)
