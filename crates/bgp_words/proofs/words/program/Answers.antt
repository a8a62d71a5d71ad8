use Rattle.std.proofs.Common.{◌≡◌, ◌∙◌, ap, true, codes}
use Rattle.std.proofs.lemmas.Result.{IfOk-weaker}
use Rattle.clap.specs.Words.{Shape, app_of, new_app}
use Rattle.clap.specs.Simple.{app_of_fields, on_top}
use Rattle.bgp_words.specs.Words.{with_readers, with_speakers}
use Rattle.bgp_words.proofs.words.program.Goals as goal

pub returns : goal.returns
returns c =
    let versioned : app_of c.version.result ≡ on_top (λ s. record s { has_version = true }) (new_app (codes "bgp")) =
    ap app_of_fields c.version.ensures ∙ ap (on_top (λ (s : Shape). record s { has_version = true })) c.new_command.ensures.words in
    let wanting = ap app_of_fields c.in_ok-program.ensures.0 ∙ ap app_of_fields c.subcommand_required-program.ensures
    ∙ ap (on_top (λ (s : Shape). record s { subcommand_required = true })) versioned in
    IfOk-weaker c.with_speakers.result _ _ (λ program is. is ∙ ap with_speakers (c.in_ok-program-2.ensures ∙ ap with_readers wanting)) c.with_speakers.ensures
