-- How `bgp judge` gives a verdict that is told of a stretch.
use Rattle.std.specs.Prelude.{◌≡◌, ◌||◌, Bool, true, false, ℕ, zero, suc, List, [], Option, None}
use Rattle.std.specs.Prelude.{Some, is_some, length, nat_lt}
use Rattle.bgp_prefix.specs.Shown.{ShownRecord}
use Rattle.bgp_prefix.specs.declared.session.Session.{Session}
use Rattle.mrt.specs.declared.fault.CaptureFault.{CaptureFault}
use Rattle.mrt_sessions.specs.File.{Located}
use Rattle.bgp_open.specs.declared.config.Config.{Config}
use Rattle.bgp_check.specs.Answered.{AnswerValue, JudgedAs, Unjudged}
use Rattle.bgp_check.specs.StretchTold.{IsStretchTold, ToldValue}
use Rattle.bgp_check_lines.specs.OwnFaults.{IsToldConfiguration}
use Rattle.bgp_check_lines.specs.Settings.{are_told, where_refused}
use Rattle.bgp_check_lines.specs.JudgeLine.{judge_line}
use Rattle.bgp_check_lines.specs.OfCapture.{AreCaptureOptions}
use Rattle.bgp_check_lines.specs.JudgeOptions.{JudgeOptions}
use Rattle.bgp_check_capture_tool.specs.declared.telling.Telling.{Telling}

-- the line, where they are told
abbrev pub judge_text : Option JudgeOptions → List ℕ
judge_text None = []
judge_text (Some options) = judge_line options

-- this is told of some stretch of the session
abbrev pub IsToldOfSome : Session → ToldValue → Type 0
IsToldOfSome session told =
    (stretch : List ShownRecord) × (leaving : Option ShownRecord)
    × IsStretchTold session stretch (length stretch) leaving told

-- what is told of a session, or of the sessions of a file, that is refused for this, if it is
abbrev pub telling_where : Option CaptureFault → Telling → Telling
telling_where fault telling =
    record telling { settings = where_refused (is_some fault) telling.settings }

-- ROUTE-REFRESH messages are passed over
abbrev pub passes_over : ToldValue → Bool
passes_over told = nat_lt 0 told.received || nat_lt 0 told.sent

-- For a session that has these records in its file.
module _ (telling : Telling) (named : List Located) (told : ToldValue) where
  -- under the configuration for which the verdict is told, if the OPEN is one's own
  abbrev pub AreOptionsUnder : Option Config → Option JudgeOptions → Type 0
  AreOptionsUnder None judge = judge ≡ None
  AreOptionsUnder (Some config) judge =
      AreCaptureOptions config telling.is_plain named told.records (passes_over told) judge

  abbrev pub AreOptionsFor : Bool → Config → Option JudgeOptions → Type 0
  AreOptionsFor false under judge = judge ≡ None
  AreOptionsFor true under judge =
      (config : Option Config) × IsToldConfiguration told.records under config
      × AreOptionsUnder config judge

  abbrev pub AreOptionsTo : AnswerValue → Option JudgeOptions → Type 0
  AreOptionsTo (Unjudged why) judge = judge ≡ None
  AreOptionsTo (JudgedAs number peer under verdict) judge =
      AreOptionsFor (are_told telling.settings) under judge

  -- Of a stretch before which so many records stand, and which this one leaves, if one does: there
  -- are none unless it is all of its session.
  abbrev pub AreOptionsOf : ℕ → Option ShownRecord → Option JudgeOptions → Type 0
  AreOptionsOf zero None judge = AreOptionsTo told.answer judge
  AreOptionsOf zero (Some leaving) judge = judge ≡ None
  AreOptionsOf (suc before) leaving judge = judge ≡ None
