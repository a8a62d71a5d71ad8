-- A capture that is explained is judged: what is told of it if the verdict alone is written.
use Rattle.std.proofs.Common.{◌↔◌, ◌≡◌, ◌∙◌, ◌+◌, ◌++◌, ◌==◌, ℕ, List, [], Bool, IsTrue, Option, ap, subst}
use Rattle.bgp_prefix.specs.Shown.{ShownRecord}
use Rattle.bgp_open.specs.declared.config.Config.{Config}
use Rattle.mrt.specs.declared.fault.CaptureFault.{CaptureFault}
use Rattle.mrt.specs.Capture.{joined, records_of}
use Rattle.mrt.specs.Progress.{failures_of}
use Rattle.mrt.specs.ReadBy.{ReadBy}
use Rattle.mrt.specs.Reader.{ReaderState}
use Rattle.bgp_judge.specs.Judging.{EndsBy, ReadsWith, fault_in}
use Rattle.bgp_tool.specs.Answer.{answer_status, answer_text}
use Rattle.bgp_tool.specs.Front.{kept}
use Rattle.bgp_tool.specs.Judging.{fault_answered}
use Rattle.bgp_tool.specs.Seen.{lacking_by, lacking_in}
use Rattle.bgp_tool.specs.declared.seen.Seen.{Seen}
use Rattle.bgp_tool.proofs.CaptureJudged.{told_in, tells}
use Rattle.bgp_verdict_lines.specs.Printed.{IsWrittenIn}
use Rattle.bgp_verdict_lines.specs.declared.form.VerdictForm.{VerdictForm}
use Rattle.bgp_explain.specs.declared.explained.Explained.{Explained}
use Rattle.bgp_explain.specs.Explaining.{Explains}
use Rattle.bgp_explain.specs.declared.left_out.LeftOut.{LeftOut}
use Rattle.bgp_explain.specs.LeftOut.{IsLeftOutBy}
use Rattle.bgp_explain.specs.Opened.{IsOfConfederation, JudgesIn, confederation_in, left_out_in}
use Rattle.bgp_explain.proofs.Reading.{as_judged}
use Rattle.bgp_explain.proofs.Telling.{is_left_out, is_of_one, same_lacking, shows, viewed}

-- What was read by a reader of captures, and what is told of it.
module _ {R W : Type 0} (form : VerdictForm) (takes : W → W → List ℕ → Type 0) (failures : W → ℕ) (gives : R → R → List ℕ → Type 0)
    (has_ended : R → Bool) (counts : R → ℕ) (config : Config) (source source' : R)
    (may_lack : Config → List ShownRecord → ShownRecord → Type 0) (sink sink' : W) where
  pub record JudgedOf (reader : ReaderState) (status : ℕ) (first : List ℕ) (refused : Option CaptureFault) (seen : Seen) (confederation : Bool) (left_out : LeftOut) : Type 0 where
    pub read : ReadBy gives config.parts.session source source' reader
        (λ given. JudgesIn form given has_ended takes counts failures config source source' may_lack sink sink' status)
    pub ends : EndsBy read.pieces read.rest (fault_answered read.holds.answer)
    pub front : first ≡ kept (joined read.pieces ++ read.rest)
    pub fault : refused ≡ fault_answered read.holds.answer
    pub lacking : lacking_by (read.holds.code == 0) seen ≡ lacking_in read.holds.code (records_of read.pieces)
    pub is_of_one : IsTrue confederation ↔ IsOfConfederation read.holds.code (records_of read.pieces)
    pub is_left_out : IsLeftOutBy config read.holds.code (records_of read.pieces) left_out

module _ {F R W : Type 0} (view : F → R) (form : VerdictForm) (takes : W → W → List ℕ → Type 0) (failures : W → ℕ) (gives : R → R → List ℕ → Type 0)
    (has_ended : R → Bool) (counts : R → ℕ) (config : Config) (source source' : F)
    (may_lack : Config → List ShownRecord → ShownRecord → Type 0) (sink sink' : W) where
  -- and the source keeps its front
  pub judges_read : {X : Type 0} (front_of : F → List ℕ) (reader : ReaderState) (explained : Explained X) (status : ℕ) (refused : Option CaptureFault)
      → front_of source ≡ []
      → ReadsWith (λ from to some. gives (view from) (view to) some × (front_of to ≡ kept (front_of from ++ some))) config.parts.session source source' reader
      (fault_in explained.answer) (λ given. Explains given (λ state. has_ended (view state)) config source source' may_lack explained)
      → counts (view source') ≡ counts (view source) + failures_of explained.answer
      → IsWrittenIn form takes failures (answer_text explained.answer) (answer_status explained.answer) sink sink' status
      → refused ≡ fault_in explained.answer
      → JudgedOf form takes failures gives has_ended counts config (view source) (view source') may_lack sink sink' reader status (front_of source') refused
      explained.totals.seen (confederation_in explained.answer explained.totals) (left_out_in explained.answer explained.totals)
  judges_read front_of reader explained status refused nothing (by, ends) counted wrote is =
      let code = answer_status explained.answer in
      let octets = joined by.pieces ++ by.rest in
      let given = λ (from to : R) (some : List ℕ). some ≡ octets in
      let seen = viewed view has_ended config source source' may_lack octets explained.answer explained.reason explained.totals by.holds in
      let judged = as_judged given has_ended config (view source) (view source') may_lack explained.answer explained.reason explained.totals seen in
      let told = told_in given has_ended counts config (view source) (view source') may_lack explained.answer judged counted in record {
        read = record {
          pieces = by.pieces;
          rest = by.rest;
          knows = by.knows;
          gave = by.gave.0;
          each = by.each;
          holds = record {
            text = answer_text explained.answer;
            code = code;
            answer = tells given has_ended counts config (view source) (view source') may_lack explained.answer judged counted;
            wrote = wrote;
          };
        };
        ends = subst (λ (f : Option CaptureFault). EndsBy by.pieces by.rest f) told ends;
        front = by.gave.1 ∙ ap (λ (o : List ℕ). kept (o ++ octets)) nothing;
        fault = is ∙ told;
        lacking = same_lacking code explained.totals.seen (records_of by.pieces) (shows view form takes failures gives has_ended counts config source source' may_lack sink sink' explained by.pieces by.rest seen by.each ends);
        is_of_one = is_of_one view form takes failures gives has_ended counts config source source' may_lack sink sink' explained by.pieces by.rest seen by.each ends;
        is_left_out = is_left_out view form takes failures gives has_ended counts config source source' may_lack sink sink' explained by.pieces by.rest seen by.each ends;
      }
