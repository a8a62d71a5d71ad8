-- What is watched while an end of a session is judged.
use Rattle.std.specs.Prelude.{List, Option, None, Some}
use Rattle.bgp_prefix.specs.Shown.{ShownRecord}
use Rattle.bgp_watch.specs.Front.{FrontValue, IsLongestFront}
use Rattle.bgp_check.specs.Answered.{AnswerValue, JudgedAs, Unjudged}

-- This front is known for the longest of the records that has an end in Established, under the
-- configuration of the verdict; or nothing is known.
abbrev pub IsWatchedFor : List ShownRecord → AnswerValue → Option FrontValue → Type 0
IsWatchedFor records answer None = Unit {0}
IsWatchedFor records (Unjudged why) (Some front) = ⊥
IsWatchedFor records (JudgedAs number peer under verdict) (Some front) =
    IsLongestFront under records front
