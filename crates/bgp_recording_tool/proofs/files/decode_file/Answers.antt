use Rattle.std.proofs.Common.{◌∙◌, ◌+◌, ℕ, refl, sym, ap, subst, inl, inr}
use Rattle.mrt.specs.FromWrite.{writer_state}
use Rattle.bgp_tool.specs.declared.opened.Outcome.{Outcome}
use Rattle.bgp_tool.specs.OpenedCapture.{DecodesOpened}
use Rattle.bgp_recording_tool.specs.Files.{peeked_remaining}
use Rattle.bgp_recording_tool.proofs.Outcomes.{same_outcome}
use Rattle.bgp_recording_tool.proofs.files.decode_file.Goals as goal

-- a capture
pub returns-then-not-is_recording-clause-decoded : goal.returns-then-not-is_recording-clause-decoded
returns-then-not-is_recording-clause-decoded g c =
    let outcome = c.without_remarks-then-not-is_recording in
    rw c.in-Ok.is
    (record {
      peeked = c.new-peeked.result;
      is_peeked = c.new-peeked.ensures;
      is = inr (
        sym c.if-not-is_recording.ensures,
        (
          subst
              (λ (o : Outcome). DecodesOpened (peeked_remaining g.R.Read.remaining) g.W.Write.contents c.args.options.now c.args.file c.new-peeked.result
              (writer_state c.args.sink.now) (writer_state c.decode_opened_capture-outcome.new.sink) o)
              (same_outcome c.decode_opened_capture-outcome.result outcome.result.status outcome.result.skipped outcome.result.note
              outcome.ensures.status outcome.ensures.skipped outcome.ensures.note)
              c.decode_opened_capture-outcome.ensures.decoded,
          outcome.ensures.confederation,
          outcome.ensures.left_out ∙ c.nothing-then-not-is_recording.ensures,
        ),
        outcome.ensures.uncut,
        outcome.ensures.remarks,
      );
    })

-- a recording
pub returns-clause-decoded : goal.returns-clause-decoded
returns-clause-decoded g c =
    let note = c.recording_note-note.ensures in
    let before = c.failures-failures.ensures in
    rw c.in-Ok.is
    (record {
      peeked = c.new-peeked.result;
      is_peeked = c.new-peeked.ensures;
      is = inl (
        sym c.if-not-is_recording.ensures,
        record {
          begun = c.new-source.result;
          read = c.decode_recording-judged.new.source;
          fresh = c.new-source.ensures;
          is_read = c.decode_recording-judged.ensures;
          told = record {
            writer = λ more. note.writer (more ∙ ap (λ (n : ℕ). n + 1) (sym before));
            quiet = λ same status. note.quiet (same ∙ sym before) status;
            memory = λ same status. note.memory (same ∙ sym before) status;
            reader = λ same status. note.reader (same ∙ sym before) status;
          };
        },
        refl,
        refl,
        c.nothing-2.ensures,
      );
    })
