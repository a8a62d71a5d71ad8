-- What a sink that never fails took of what is printed is a text in memory.
use Rattle.std.proofs.Common.{◌≡◌, ◌+◌, ℕ, Bool, List, [], Option, arith, inl, inr, refl, subst, sym}
use Rattle.bgp_tool.specs.Answer.{IsWritten}
use Rattle.bgp_check_capture_tool.specs.CheckLinesPrinted.{IsWrittenIn}
use Rattle.bgp_verdict_lines.specs.declared.form.VerdictForm.{VerdictForm}
use Rattle.bgp_verdict_lines.specs.declared.form.VerdictForm.TheVariants as forms
use Rattle.packets.specs.Packet.{Recorded}
use Rattle.mrt.specs.declared.fault.CaptureFault.{CaptureFault}
use Rattle.bgp_import.specs.declared.cut_short.CutShort.{CutShort}
use Rattle.bgp_import.specs.declared.refusal.Refusal.{Refusal}
use Rattle.bgp_import.specs.declared.talks.Talks.{Talks}
use Rattle.bgp_html.specs.Pieces.{Piece}
use Rattle.bgp_check_tool.specs.Blocks.{Block}
use Rattle.bgp_check_tool.specs.Checking.{ChecksMarked}
use Rattle.bgp_check_tool.specs.Marks.{marks_of}
use Rattle.bgp_check_tool.specs.Printed.{PrintsTrue}
use Rattle.bgp_check_tool.specs.declared.nothing.NothingJudged.{NothingJudged}
use Rattle.bgp_check_tool.specs.declared.marks.Marks.{Marks}
use Rattle.bgp_check_tool.specs.declared.options.CheckOptions.{CheckOptions}
use Rattle.mrt_sessions.specs.declared.holding.Ending.{Ending}
use Rattle.bgp_check_capture_tool.specs.Checking.{ChecksMarked as CaptureMarked, told_marks}
use Rattle.bgp_check_capture_tool.specs.Printed.{WritesTrueNoes}
use Rattle.bgp_check_capture_tool.specs.declared.marks.StretchMarks.{StretchMarks}
use Rattle.bgp_check_capture_tool.specs.declared.nothing.NothingJudged.{NothingJudged as NoneJudged}
use Rattle.bgp_check_capture_tool.specs.declared.options.CaptureOptions.{CaptureOptions}
use Rattle.bgp_report.specs.Ladders.{AreBehind}
use Rattle.bgp_report.specs.Report.{ChecksHeldWithStretches, ChecksWithLadders, TakesText, never_fails}
use Rattle.bgp_report.specs.Stretches.{AreStretchesBehind}

module _ {T : Type 0} (takes : T → T → List ℕ → Type 0) (from to : T) where
  -- what it took, and that this is printed to memory
  abbrev InMemory : (List ℕ → Type 0) → Type 0
  InMemory Prints = (written : List ℕ) × takes from to written × Prints written

  all_written : (text : List ℕ) (code status : ℕ) → IsWritten takes (λ (a : T). 0) text code from to status
      → InMemory (λ written. IsWritten TakesText never_fails text code [] written status)
  all_written text code status wrote = (
    wrote.written,
    wrote.took,
    record {
      written = wrote.written;
      left = wrote.left;
      took = refl;
      begun = wrote.begun;
      all = elim wrote.all [
        | inl calm ↦ inl (refl, calm.1, calm.2)
        | inr broken ↦ let one = broken.0 in absurd (omega (arith, one))
      ];
    },
  )

  written_in : (form : VerdictForm) → form ≡ forms.Text → (text : List ℕ) (code status : ℕ) → IsWrittenIn form takes (λ (a : T). 0) text code from to status
      → InMemory (λ written. IsWrittenIn form TakesText never_fails text code [] written status)
  written_in form is text code status wrote =
      subst (λ (f : VerdictForm). InMemory (λ written. IsWrittenIn f TakesText never_fails text code [] written status)) (sym is)
      (all_written text code status (subst (λ (f : VerdictForm). IsWrittenIn f takes (λ (a : T). 0) text code from to status) is wrote))

  -- ---- of a recording

  module _ {S : Type 0} (gives : S → S → List ℕ → Type 0) (has_ended : S → Bool) (source_failures : S → ℕ) (source source' : S) (status : ℕ) where
    pub printed_of : (AreTrue : CheckOptions → List Recorded → ℕ → Block → Type 0) (options : CheckOptions) (cut : Option CutShort)
        → PrintsTrue AreTrue gives has_ended takes (λ (a : T). 0) options source source' from to status cut → options.form ≡ forms.Text
        → InMemory (λ written. PrintsTrue AreTrue gives has_ended TakesText never_fails options source source' [] written status cut)
    printed_of AreTrue options cut p is =
        let wrote = written_in options.form is _ _ status p.written in (
          wrote.0,
          wrote.1,
          record {
            packets = p.packets;
            short = p.short;
            stopped = p.stopped;
            read = p.read;
            blocks = p.blocks;
            told = p.told;
            are_true = p.are_true;
            lacking = p.lacking;
            tally = p.tally;
            written = wrote.2;
          },
        )

    -- with ladders after it, as soon as these are known
    pub laddered_of : {Y : Type 0} (options : CheckOptions) (cut : Option CutShort) (firsts : List (Option Refusal)) (refusal : Option Refusal) (nothing : Option NothingJudged)
        (talks : Talks Y) (marks marks' : Marks Y)
        → (p : ChecksMarked gives has_ended takes source_failures (λ (a : T). 0) options source source' from to status cut firsts refusal nothing talks marks marks')
        → options.form ≡ forms.Text
        → InMemory (λ written. (behind : List Piece) → AreBehind options.port options.within p.checks.packets written (marks_of options.printing p.checks.blocks) behind
        → ChecksWithLadders gives has_ended source_failures options source source' cut firsts refusal nothing written status behind)
    laddered_of options cut firsts refusal nothing talks marks marks' p is =
        let q = p.checks in
        let wrote = written_in options.form is _ _ status q.written in (
          wrote.0,
          wrote.1,
          λ behind are. record {
            checks = record {
              packets = q.packets;
              short = q.short;
              stopped = q.stopped;
              read = q.read;
              counted = q.counted;
              is_cut_short = q.is_cut_short;
              lacking = q.lacking;
              lacks = q.lacks;
              is_refusal = q.is_refusal;
              blocks = q.blocks;
              told = q.told;
              rise = q.rise;
              none = q.none;
              some = q.some;
              all = q.all;
              tally = q.tally;
              counts = q.counts;
              are_firsts = q.are_firsts;
              is_nothing = q.is_nothing;
              written = wrote.2;
            };
            ladders = are;
          },
        )

  -- ---- of a capture that is held

  module _ (options : CaptureOptions) (octets : List ℕ) (status : ℕ) (fault : Option CaptureFault) where
    pub noes_of_capture : WritesTrueNoes takes (λ (a : T). 0) options octets from to status fault → options.form ≡ forms.Text
        → InMemory (λ written. WritesTrueNoes TakesText never_fails options octets [] written status fault)
    noes_of_capture p is =
        let wrote = written_in options.form is _ _ status p.written in
        (wrote.0, wrote.1, record { text = p.text; noes = p.noes; tally = p.tally; written = wrote.2 })

    -- with ladders after it, as soon as these are known
    pub stretched_of : {Y : Type 0} (ending : Ending) (firsts : List (Option CaptureFault)) (count : ℕ) (nothing : Option NoneJudged) (marks marks' : StretchMarks Y)
        → (p : CaptureMarked takes (λ (a : T). 0) options octets ending from to status firsts count fault nothing marks marks') → options.form ≡ forms.Text
        → InMemory (λ written. (behind : List Piece) → AreStretchesBehind written (told_marks options p.checks.tells) behind
        → ChecksHeldWithStretches options octets ending firsts count fault nothing written status behind)
    stretched_of ending firsts count nothing marks marks' p is =
        let q = p.checks in
        let wrote = written_in options.form is _ _ status q.written in (
          wrote.0,
          wrote.1,
          λ behind are. record {
            checks = record {
              text = q.text;
              of_sessions = q.of_sessions;
              of_blocks = q.of_blocks;
              tells = q.tells;
              tally = q.tally;
              counts = q.counts;
              are_firsts = q.are_firsts;
              is_nothing = q.is_nothing;
              written = wrote.2;
            };
            ladders = are;
          },
        )
