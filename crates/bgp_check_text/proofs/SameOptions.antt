-- Options of a capture are of one session.
use Rattle.std.proofs.Common.{◌≡◌, ◌∙◌, ◌↔◌, Bool, IsFalse, List, ap}
use Rattle.std.specs.List.{AllByRecursion}
use Rattle.bgp_prefix.specs.Shown.{ShownRecord}
use Rattle.bgp_open.specs.declared.config.Config.{Config}
use Rattle.bgp_recording.specs.Captured.{IsNoRefresh}
use Rattle.bgp_check_text.specs.OfCapture.{AreOptionsFor, session_by, session_of}
use Rattle.bgp_check_text.specs.declared.options.JudgeOptions.{JudgeOptions}
use Rattle.bgp_check_text.proofs.Refreshes.{one_flag}

pub one_session : (config : Config) (records : List ShownRecord) (skips no_refresh : Bool) (options : JudgeOptions) → AreOptionsFor config records skips options
    → (IsFalse no_refresh ↔ AllByRecursion IsNoRefresh records) → session_of options ≡ session_by config.parts.session skips no_refresh
one_session config records skips no_refresh options are tells =
    ap (λ (its : Config). session_by its.parts.session options.skips_refresh options.no_refresh) are.is_config
    ∙ ap (λ (b : Bool). session_by config.parts.session b options.no_refresh) are.skips
    ∙ ap (λ (b : Bool). session_by config.parts.session skips b) (one_flag options.no_refresh no_refresh (AllByRecursion IsNoRefresh records) are.refuses tells)
