-- How `bgp judge` gives a verdict that is told of an end.
use Rattle.std.specs.Prelude.{◌≡◌, Bool, true, false, ℕ, List, [], Option, None, Some}
use Rattle.bgp_open.specs.declared.config.Config.{Config}
use Rattle.streams.specs.declared.connection.Connection.{Connection}
use Rattle.bgp_recording.specs.Captured.{records_of}
use Rattle.bgp_recording.specs.declared.entry.Entry.{Entry}
use Rattle.bgp_recording.specs.declared.framing.Unshown.{Unshown}
use Rattle.bgp_import.specs.declared.refusal.Refusal.{Refusal}
use Rattle.bgp_check.specs.Answered.{AnswerValue, JudgedAs, Unjudged}
use Rattle.bgp_check_lines.specs.OwnFaults.{IsToldConfiguration}
use Rattle.bgp_check_lines.specs.JudgeLine.{judge_line}
use Rattle.bgp_check_lines.specs.ReadAlike.{AreJudgeOptions}
use Rattle.bgp_check_lines.specs.DeclaredAsked.{Asked}
use Rattle.bgp_check_lines.specs.JudgeOptions.{JudgeOptions}
use Rattle.bgp_check_tool.specs.declared.options.CheckOptions.{CheckOptions}
use Rattle.bgp_check_lines.specs.Settings.{are_told}
use Rattle.bgp_check_lines.specs.DeclaredSettings.{Settings}
use Rattle.bgp_check_lines.specs.DeclaredSettings.TheVariants as told

-- ---- after which verdicts its options are told

-- where the file is refused, `judge` gives none
abbrev pub settings_by : Option Refusal → Settings → Settings
settings_by None settings = settings
settings_by (Some refusal) settings = told.Never

abbrev pub options_by : Option Refusal → CheckOptions → CheckOptions
options_by refusal options =
    record options { settings = settings_by refusal options.settings }

-- ---- which these are

-- the line
abbrev pub judge_text : Option JudgeOptions → List ℕ
judge_text None = []
judge_text (Some options) = judge_line options

-- For the end that has the connection so, whose records these are; its connection is asked for so.
module _ (within : ℕ) (asked : Asked) (connection : Connection) (entries : List Entry)
    (received_unshown sent_unshown : Unshown) where
  -- under the configuration for which the verdict is told, if the OPEN is one's own
  abbrev pub AreOptionsUnder : Option Config → Option JudgeOptions → Type 0
  AreOptionsUnder None judge = judge ≡ None
  AreOptionsUnder (Some config) judge =
      AreJudgeOptions config asked within connection entries received_unshown sent_unshown judge

  abbrev pub AreOptionsFor : Bool → Config → Option JudgeOptions → Type 0
  AreOptionsFor false under judge = judge ≡ None
  AreOptionsFor true under judge =
      (config : Option Config) × IsToldConfiguration (records_of entries) under config
      × AreOptionsUnder config judge

  -- the options by which `judge` gives what is answered of them, if it does
  abbrev pub AreOptionsTo : Settings → AnswerValue → Option JudgeOptions → Type 0
  AreOptionsTo settings (Unjudged why) judge = judge ≡ None
  AreOptionsTo settings (JudgedAs number peer under verdict) judge =
      AreOptionsFor (are_told settings) under judge
