use Rattle.std.proofs.Common.{◌∙◌, Bool, not, ap, ap₂, refl, subst}
use Rattle.clap.specs.Words.{found_of, rows_of}
use Rattle.bgp_prefix.specs.declared.session.RouteRefresh.{RouteRefresh}
use Rattle.bgp_words.specs.Recording.{refresh_told}
use Rattle.bgp_words.specs.Settings.{AreParts}
use Rattle.bgp_words.specs.declared.judge.Reporting.{Reporting}
use Rattle.bgp_words.proofs.judge.judge_of.Goals as goal

abbrev told : Bool → Bool → Reporting
told explain json = record { explain = explain; json = json }

pub returns-clause-ok : goal.returns-clause-ok
returns-clause-ok c =
    let config = c.in_ok-config.config in
    let rows = rows_of (found_of c.args.judge.now) in (
      refl,
      (
        subst (λ (offers : RouteRefresh). AreParts config.parts offers rows)
            (c.refresh_of-refresh.ensures ∙ ap (λ (given : Bool). refresh_told (not given) rows) c.has_flag.ensures)
            ((c.in_ok-config.ensures config).0 refl),
        (c.in_ok-recording.ensures c.in_ok-recording.recording).0 refl,
        ap₂ (λ (e j : Bool). told e j) c.has_flag-explain.ensures c.has_flag-json.ensures,
        c.in_ok-file.ensures.ok,
      ),
    )
