-- Whether the `bgp judge` command is told that reproduces a verdict.
use Rattle.std.specs.Prelude.{Bool, true, false, if◌then◌else◌}
use Rattle.bgp_judge.specs.Verdict.{No, Unfinished, VerdictValue, Yes}
use Rattle.bgp_check_text.specs.declared.settings.Settings.{Settings}
use Rattle.bgp_check_text.specs.declared.settings.Settings.TheVariants.{Always, Never}

abbrev pub is_no_yes : VerdictValue → Bool
is_no_yes (Yes ends) = false
is_no_yes (No count) = true
is_no_yes Unfinished = true

abbrev pub are_told : Settings → Bool
are_told Never = false
are_told Always = true

-- for a file or a session that is refused, on which `judge` gives no verdict, it isn't told
abbrev pub where_refused : Bool → Settings → Settings
where_refused refused settings = if refused then Never else settings
