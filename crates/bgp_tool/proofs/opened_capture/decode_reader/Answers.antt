use Rattle.std.proofs.Common.{◌≡◌, ◌∙◌, ◌+◌, ◌++◌, List, ℕ, ap, subst, arith, inl, inr, is_some, None, Some}
use Rattle.mrt.specs.Capture.{joined}
use Rattle.mrt.specs.FromRead.{ReaderState, reader_state, fresh_reader, Gives}
use Rattle.mrt.specs.FromWrite.{writer_state}
use Rattle.mrt.specs.Progress.{failures_of}
use Rattle.bgp_judge.specs.Judging.{fault_in}
use Rattle.bgp_tool.specs.Front.{kept, no_capture}
use Rattle.bgp_tool.specs.OpenedCapture.{told_by}
use Rattle.bgp_tool.specs.declared.note.CaptureCommand.TheVariants.{Decode}
use Rattle.bgp_tool.proofs.ToldCapture.{of_writer, of_reader}
use Rattle.bgp_tool.proofs.opened_capture.decode_reader.Goals.{then-failures, else-failures}
use Rattle.bgp_tool.proofs.opened_capture.decode_reader.Goals as goal

pub returns-clause-decoded : goal.returns-clause-decoded
returns-clause-decoded g c =
    let (decoded, refused) = c.decode_with-decoded.ensures in
    let file = c.args.file in
    let found = c.decode_with-decoded.new.reader in
    let status = c.decode_with-decoded.result.status in
    let octets = joined decoded.pieces ++ decoded.rest in
    let last = reader_state c.decode_with-decoded.result.source.source in
    let old = writer_state c.args.sink.now in
    let new = writer_state c.decode_with-decoded.new.sink in
    let fresh : reader_state c.new-source.result.source ≡ fresh_reader c.args.reader =
    ap reader_state c.new-source.ensures.source ∙ c.new.ensures in
    let front : c.decode_with-decoded.result.source.front.items ≡ kept octets =
    decoded.gave.1 ∙ ap (λ (o : List ℕ). kept (o ++ octets)) c.new-source.ensures.front in record {
      source = last;
      found = found;
      decoded = record {
        pieces = decoded.pieces;
        rest = decoded.rest;
        knows = decoded.knows;
        answer = decoded.answer;
        gave = subst (λ (s : ReaderState _). Gives g.R.Read.remaining s last octets) fresh decoded.gave.0;
        each = decoded.each;
        ends = decoded.ends;
        counted = decoded.counted ∙ ap (λ (s : ReaderState _). s.failures + failures_of decoded.answer) fresh;
        lines = decoded.lines;
        are_lines = decoded.are_lines;
        written = decoded.written;
        left = decoded.left;
        took = decoded.took;
        begun = decoded.begun;
        all = decoded.all;
      };
      told = elim c.if-failures.branch [
        | then-failures w ↦ rw w.note-is (of_writer Decode file last octets found (fault_in decoded.answer) None old new status w.unwritten-note.result
            (elim decoded.all [
              | inl calm ↦ inl calm.0
              | inr others ↦ elim others [
                | inl broken ↦ inr broken.1
                | inr lacking ↦ inl lacking.0
              ]
            ]) (omega (arith, w.if-failures.true, c.failures.ensures, c.failures-failures.ensures)) w.unwritten-note.ensures)
        | else-failures w ↦ rw w.note-is (of_reader Decode file last octets found (fault_in decoded.answer) None old new status w.note_of-note.result
            (omega (arith, w.if-failures.false, c.failures.ensures, c.failures-failures.ensures))
            (λ less. w.note_of-note.ensures.read less
            ∙ ap (λ (o : List ℕ). told_by Decode file (is_some found.last) (no_capture o) c.decode_with-decoded.result.refused None found.others) front
            ∙ ap (λ f. told_by Decode file (is_some found.last) (no_capture (kept octets)) f None found.others) refused)
            w.note_of-note.ensures.memory w.note_of-note.ensures.reader)
      ];
      skipped = ap Some c.skipped-skipped.ensures;
    }
