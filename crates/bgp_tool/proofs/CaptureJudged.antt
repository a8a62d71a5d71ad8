-- A capture's judging that began with a fresh text, told by what the sink took.
use Rattle.std.proofs.Common.{◌≡◌, ◌∙◌, ◌⊎◌, ◌+◌, ◌≤◌, ℕ, List, [], Bool, IsTrue, IsFalse, arith, refl, sym, ap, subst, inl, inr, map, Result, Ok, Err}
use Rattle.bgp_open.specs.declared.config.Config.{Config}
use Rattle.mrt.specs.declared.fault.CaptureFault.{CaptureFault}
use Rattle.mrt.specs.declared.fault.FaultKind.{FaultKind}
use Rattle.mrt.specs.declared.fault.FaultKind.TheVariants as kinds
use Rattle.mrt.specs.declared.sink.Sink as sinks
use Rattle.bgp_prefix.specs.Shown.{ShownRecord}
use Rattle.mrt.specs.Progress.{failures_of}
use Rattle.bgp_judge.specs.declared.verdict.Verdict.{Verdict}
use Rattle.bgp_judge.specs.declared.verdict.Verdict.TheVariants.{Yes, No, Unfinished}
use Rattle.bgp_judge.specs.Ends.{end_value}
use Rattle.bgp_judge.specs.Judging.{Judges, fault_in}
use Rattle.bgp_text.specs.declared.lines.Lines.{Lines}
use Rattle.bgp_text.specs.Lines.{Writes}
use Rattle.bgp_text.proofs.Fresh.{IsFresh, put_is, nothing_left, none_counted, one_counted}
use Rattle.bgp_tool.specs.Answer.{answer_text, answer_status, IsWritten}
use Rattle.bgp_tool.specs.CaptureDecoding.{status_by}
use Rattle.bgp_tool.specs.Judging.{TellsVerdict, TellsFault, JudgesCapture, fault_answered}

module _ {R : Type 0} (gives : R → R → List ℕ → Type 0) (has_ended : R → Bool) (counts : R → ℕ) (config : Config)
    (source source' : R) (may_lack : Config → List ShownRecord → ShownRecord → Type 0) where
  same_count : counts source' ≡ counts source + 0 → counts source' ≡ counts source
  same_count counted = omega arith

  -- what is answered is told by its text and status
  pub tells : {X : Type 0} (answer : Result (Verdict X) CaptureFault) → Judges gives has_ended config source source' may_lack answer
      → counts source' ≡ counts source + failures_of answer
      → TellsVerdict gives has_ended counts config source source' (answer_text answer) (answer_status answer)
      ⊎ TellsFault gives has_ended counts config source source' may_lack (answer_text answer) (answer_status answer)
  tells (Ok (Yes ends)) judged counted = inl record {
    octets = judged.octets;
    records = judged.records;
    gave = judged.gave;
    ended = judged.ended;
    spells = judged.spells;
    says = inl record {
      ends = map end_value ends.items;
      some = judged.verdict.0;
      lists = judged.verdict.1;
      prints = refl;
      tells = refl;
    };
    counted = same_count counted;
  }
  tells (Ok (No count)) judged counted = inl record {
    octets = judged.octets;
    records = judged.records;
    gave = judged.gave;
    ended = judged.ended;
    spells = judged.spells;
    says = inr (inl record {
      count = count;
      within = judged.verdict.0;
      before = judged.verdict.1;
      behind = judged.verdict.2;
      prints = refl;
      tells = refl;
    });
    counted = same_count counted;
  }
  tells (Ok Unfinished) judged counted = inl record {
    octets = judged.octets;
    records = judged.records;
    gave = judged.gave;
    ended = judged.ended;
    spells = judged.spells;
    says = inr (inr record {
      begins = judged.verdict.0;
      none = judged.verdict.1;
      prints = refl;
      tells = refl;
    });
    counted = same_count counted;
  }
  tells (Err fault) judged counted = inr record {
    fault = fault;
    why = judged;
    prints = refl;
    tells = refl;
    counted = counted;
  }

-- and so is the judging, where its text was written
module _ {R W : Type 0} (takes : W → W → List ℕ → Type 0) (failures : W → ℕ) (gives : R → R → List ℕ → Type 0) (has_ended : R → Bool) (counts : R → ℕ)
    (config : Config) (source source' : R) (may_lack : Config → List ShownRecord → ShownRecord → Type 0) (sink sink' : W) where
  pub judges_capture : {X : Type 0} (answer : Result (Verdict X) CaptureFault) (status : ℕ) → Judges gives has_ended config source source' may_lack answer
      → counts source' ≡ counts source + failures_of answer → IsWritten takes failures (answer_text answer) (answer_status answer) sink sink' status
      → JudgesCapture gives has_ended takes counts failures config source source' may_lack sink sink' status
  judges_capture answer status judged counted wrote = record {
    text = answer_text answer;
    code = answer_status answer;
    answer = tells gives has_ended counts config source source' may_lack answer judged counted;
    written = wrote.written;
    left = wrote.left;
    took = wrote.took;
    begun = wrote.begun;
    all = wrote.all;
  }

-- and the fault that is told is the one that is answered
module _ {R : Type 0} (gives : R → R → List ℕ → Type 0) (has_ended : R → Bool) (counts : R → ℕ) (config : Config)
    (source source' : R) (may_lack : Config → List ShownRecord → ShownRecord → Type 0) where
  pub told_in : {X : Type 0} (answer : Result (Verdict X) CaptureFault) → (judged : Judges gives has_ended config source source' may_lack answer)
      → (counted : counts source' ≡ counts source + failures_of answer)
      → fault_in answer ≡ fault_answered (tells gives has_ended counts config source source' may_lack answer judged counted)
  unfolding tells
  told_in (Ok (Yes ends)) judged counted = refl
  told_in (Ok (No count)) judged counted = refl
  told_in (Ok Unfinished) judged counted = refl
  told_in (Err fault) judged counted = refl

module _ {W : Type 0} {sinks' : sinks.Ghosts W} (lines lines' : Lines W sinks') (sink sink' : W) (fresh : IsFresh lines)
    (first : lines.outlet.sink.now ≡ sink) (last : sink' ≡ lines'.outlet.sink.now) where
  pub is_written : (text : List ℕ) (code status : ℕ) → Writes lines lines' text → lines'.held.items ≡ []
      → (IsFalse lines'.outlet.has_failed × (status ≡ code)) ⊎ (IsTrue lines'.outlet.has_failed × (status ≡ 5))
      → IsWritten sinks'.takes sinks'.failures text code sink sink' status
  is_written text code status wrote handed_over told = record {
    written = wrote.taken;
    left = wrote.left;
    took = subst (λ (w : W). sinks'.takes w sink' wrote.taken) first (subst (λ (w : W). sinks'.takes lines.outlet.sink.now w wrote.taken) (sym last) wrote.took);
    begun = put_is lines lines' text fresh wrote;
    all = elim told [
      | inl calm ↦ inl (
        ap sinks'.failures last ∙ none_counted lines lines' text fresh wrote calm.0 ∙ ap sinks'.failures first,
        nothing_left lines lines' text fresh wrote handed_over calm.0,
        calm.1,
      )
      | inr failed ↦ inr (
        ap sinks'.failures last ∙ one_counted lines lines' text fresh wrote failed.0 ∙ ap (λ (w : W). sinks'.failures w + 1) first,
        failed.1,
      )
    ];
  }

-- its status is none of usage
status_below : (kind : FaultKind) → status_by kind ≤ 5
status_below kinds.Truncated = omega arith
status_below kinds.TooLong = omega arith
status_below kinds.Body = omega arith
status_below kinds.BadState = omega arith
status_below kinds.NotAMessage = omega arith
status_below kinds.TimeBack = omega arith
status_below kinds.RouteRefresh = omega arith
status_below kinds.AddPath = omega arith
status_below kinds.Device = omega arith
status_below kinds.Memory = omega arith

pub answer_below : {X : Type 0} (answer : Result (Verdict X) CaptureFault) → answer_status answer ≤ 5
answer_below (Ok (Yes ends)) = omega arith
answer_below (Ok (No count)) = omega arith
answer_below (Ok Unfinished) = omega arith
answer_below (Err fault) = status_below fault.kind
