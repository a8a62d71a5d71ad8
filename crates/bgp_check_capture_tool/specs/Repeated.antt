-- What a line is worth that tells how `bgp judge` gives a verdict.
use Rattle.std.specs.Prelude.{◌≡◌, ℕ, List, Option, Some}
use Rattle.mrt_sessions.specs.File.{Located}
use Rattle.mrt_sessions.specs.declared.addresses.Addresses.{Addresses}
use Rattle.bgp_open.specs.declared.config.Config.{Config}
use Rattle.bgp_judge.specs.Verdict.{HasVerdict, VerdictValue}
use Rattle.bgp_check.specs.Answered.{JudgedAs}
use Rattle.bgp_check.specs.declared.peer_as.PeerAs.{PeerAs}
use Rattle.bgp_check_lines.specs.OfCapture.{IsReadAlike, session_of}
use Rattle.bgp_check_lines.specs.JudgeOptions.{JudgeOptions}
use Rattle.bgp_check_capture_tool.specs.Headline.{IsToldAmong}
use Rattle.bgp_check_capture_tool.specs.StretchEnd.{StretchEnd}
use Rattle.bgp_check_capture_tool.specs.declared.telling.Telling.{Telling}

-- By the options of the line `judge` reads of the session's records in the file just those that
-- were judged, and under their configuration these have the verdict that is told.
abbrev pub LineGivesTheVerdict : Type 0
LineGivesTheVerdict =
    (telling : Telling) (addresses : Addresses) (named : List Located) (end : StretchEnd)
    (number : Option ℕ) (peer : PeerAs) (under : Config) (verdict : VerdictValue)
    (line : JudgeOptions)
    → IsToldAmong telling addresses named end
    → end.told.answer ≡ JudgedAs number peer under verdict → end.judge ≡ Some line
    → IsReadAlike (session_of line) telling.is_plain named end.told.records
    × HasVerdict line.config end.told.records verdict
