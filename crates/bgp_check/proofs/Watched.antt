-- What is watched while an end is judged is also so of what is told of a stretch.
use Rattle.std.proofs.Common.{ℕ, List, Option, None, Some}
use Rattle.bgp_prefix.specs.Shown.{ShownRecord}
use Rattle.bgp_open.specs.declared.config.Config.{Config}
use Rattle.bgp_judge.specs.Verdict.{VerdictValue}
use Rattle.bgp_watch.specs.Front.{FrontValue, IsWatched}
use Rattle.bgp_check.specs.Answered.{AnswerValue, JudgedAs, Unjudged}
use Rattle.bgp_check.specs.StretchTold.{answer_by}
use Rattle.bgp_check.specs.WatchedEnd.{IsWatchedFor}
use Rattle.bgp_check.specs.declared.peer_as.PeerAs.{PeerAs}

-- the record that leaves it changes no configuration
pub watched_by : (records : List ShownRecord) (leaving : Option ShownRecord) (answer : AnswerValue) (front : Option FrontValue)
    → IsWatchedFor records answer front → IsWatchedFor records (answer_by leaving answer) front
watched_by records None answer front is = is
watched_by records (Some leaving) answer None is = tt
watched_by records (Some leaving) (Unjudged why) (Some front) is = is
watched_by records (Some leaving) (JudgedAs number peer under verdict) (Some front) is = is

-- of a judged end it is so under its configuration
pub watched_for : (records : List ShownRecord) (number : Option ℕ) (peer : PeerAs) (under : Config) (verdict : VerdictValue) (front : Option FrontValue)
    → IsWatched under records front → IsWatchedFor records (JudgedAs number peer under verdict) front
watched_for records number peer under verdict None is = tt
watched_for records number peer under verdict (Some front) is = is

pub watched_under : (records : List ShownRecord) (number : Option ℕ) (peer : PeerAs) (under : Config) (verdict : VerdictValue) (front : Option FrontValue)
    → IsWatchedFor records (JudgedAs number peer under verdict) front → IsWatched under records front
watched_under records number peer under verdict None is = tt
watched_under records number peer under verdict (Some front) is = is
