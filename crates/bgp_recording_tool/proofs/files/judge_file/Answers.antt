use Rattle.std.proofs.Common.{◌∙◌, ◌+◌, ℕ, refl, sym, ap, subst, inl, inr}
use Rattle.mrt.specs.FromWrite.{writer_state}
use Rattle.bgp_explain.specs.Opened.{ReportsOpened}
use Rattle.bgp_explain.specs.declared.opened.JudgedCapture.{JudgedCapture}
use Rattle.bgp_recording_tool.specs.Files.{peeked_remaining}
use Rattle.bgp_recording_tool.proofs.Outcomes.{same_judged}
use Rattle.bgp_recording_tool.proofs.files.judge_file.Goals as goal

-- a capture
pub returns-then-not-is_recording-clause-reported : goal.returns-then-not-is_recording-clause-reported
returns-then-not-is_recording-clause-reported g c =
    let outcome = c.without_remarks-then-not-is_recording in
    rw c.in-Ok.is
    (record {
      peeked = c.new-peeked.result;
      is_peeked = c.new-peeked.ensures;
      is = inr (
        sym c.if-not-is_recording.ensures,
        subst
            (λ (o : JudgedCapture). ReportsOpened c.args.form (peeked_remaining g.R.Read.remaining) g.W.Write.contents c.args.config.now g.T.Tracker.may_lack c.args.file c.new-peeked.result
            (writer_state c.args.sink.now) (writer_state c.judge_opened-judged.new.sink) o c.args.report)
            (same_judged c.judge_opened-judged.result outcome.result.status outcome.result.skipped outcome.result.note outcome.result.confederation
            outcome.result.left_out outcome.ensures.status outcome.ensures.skipped outcome.ensures.note outcome.ensures.confederation outcome.ensures.left_out)
            c.judge_opened-judged.ensures.reported,
        outcome.ensures.uncut,
        outcome.ensures.remarks,
      );
    })

-- a recording
pub returns-clause-reported : goal.returns-clause-reported
returns-clause-reported g c =
    let note = c.recording_note-note.ensures in
    let before = c.failures-failures.ensures in
    rw c.in-Ok.is
    (record {
      peeked = c.new-peeked.result;
      is_peeked = c.new-peeked.ensures;
      is = inl (
        sym c.if-not-is_recording.ensures,
        record {
          begun = c.new-source.result;
          read = c.judge_recording-judged.new.source;
          fresh = c.new-source.ensures;
          is_read = c.judge_recording-judged.ensures;
          told = record {
            writer = λ more. note.writer (more ∙ ap (λ (n : ℕ). n + 1) (sym before));
            quiet = λ same status. note.quiet (same ∙ sym before) status;
            memory = λ same status. note.memory (same ∙ sym before) status;
            reader = λ same status. note.reader (same ∙ sym before) status;
          };
        },
        refl,
        refl,
        c.nothing-2.ensures,
      );
    })
