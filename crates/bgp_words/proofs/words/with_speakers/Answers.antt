use Rattle.std.proofs.Common.{◌∙◌, ap}
use Rattle.std.proofs.lemmas.Result.{IfOk-weaker}
use Rattle.clap.specs.Words.{App, with_subcommand}
use Rattle.bgp_words.specs.Words.{pair_words, speak_words}
use Rattle.bgp_words.proofs.words.with_speakers.Goals as goal

pub returns : goal.returns
returns c =
    let first = c.in_ok-program.ensures speak_words c.speak_words.ensures.words c.speak_words.ensures.local in
    IfOk-weaker c.with_command-2.result _ _ (λ program is. is ∙ ap (λ (a : App). with_subcommand a pair_words.top) first)
    (c.with_command-2.ensures pair_words c.pair_words.ensures.words c.pair_words.ensures.local)
