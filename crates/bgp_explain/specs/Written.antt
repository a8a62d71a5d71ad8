-- What is written of a capture that is explained: the verdict alone, or with its reason. In JSON it
-- is told as objects of lines that have this text.
use Rattle.std.specs.Prelude.{ℕ, Bool, List}
use Rattle.bgp_open.specs.declared.config.Config.{Config}
use Rattle.bgp_tool.specs.Answer.{answer_status, answer_text}
use Rattle.bgp_verdict_lines.specs.Printed.{IsWrittenIn}
use Rattle.bgp_verdict_lines.specs.declared.form.VerdictForm.{VerdictForm}
use Rattle.bgp_explain.specs.declared.explained.Explained.{Explained}
use Rattle.bgp_explain.specs.declared.report.Report.{Report}
use Rattle.bgp_explain.specs.declared.report.Report.TheVariants.{VerdictAlone, WithReason}
use Rattle.bgp_explain.specs.Text.{IsExplainedText}

module _ {W X : Type 0} (form : VerdictForm) (takes : W → W → List ℕ → Type 0) (failures : W → ℕ)
    (config : Config) (explained : Explained X) (sink sink' : W) (status : ℕ) where
  abbrev pub WritesReport : Report → Type 0
  WritesReport VerdictAlone =
      IsWrittenIn form takes failures (answer_text explained.answer)
      (answer_status explained.answer) sink sink' status
  WritesReport WithReason =
      (text : List ℕ) × (detailed : Bool) × IsExplainedText config explained detailed text
      × IsWrittenIn form takes failures text (answer_status explained.answer) sink sink' status
