use Rattle.std.proofs.Common.{ℕ, ap, subst, ◌∙◌}
use Rattle.mrt.specs.FromRead.{reader_state}
use Rattle.mrt.specs.FromWrite.{writer_state}
use Rattle.bgp_tool.specs.Front.{no_capture}
use Rattle.bgp_tool.specs.NothingFound.{without_records_by}
use Rattle.bgp_tool.specs.declared.note.CaptureCommand.TheVariants as commands
use Rattle.bgp_commands.specs.Ends.{AreEnds}
use Rattle.bgp_commands.proofs.reporting.report_records.Goals as goal

pub returns : goal.returns
returns g c = record {
  begun = c.new-source.result;
  read = c.report_capture-checked.new.source;
  fresh = ap reader_state c.new-source.ensures.source ∙ c.new.ensures;
  no_front = c.new-source.ensures.front;
  is_call = (c.report_capture-checked.ensures.no, c.report_capture-checked.ensures.all);
  note = c.file_note-note.result;
  is_note = record {
    some = c.file_note-note.ensures.some;
    none = λ empty. c.file_note-note.ensures.none empty
        ∙ ap (λ octets. without_records_by commands.Check c.args.file (no_capture octets) c.report_capture-checked.result.fault) c.front.ensures;
  };
  are_ends = subst
      (λ (n : ℕ). AreEnds c.args.file (reader_state c.report_capture-checked.new.source.source)
      (writer_state c.report_capture-checked.new.sink) n c.file_note-note.result c.of-ends.result)
      c.failures-failures.ensures
      (subst (λ s. AreEnds c.args.file (reader_state s) (writer_state c.report_capture-checked.new.sink)
      c.failures-failures.result c.file_note-note.result c.of-ends.result) c.source.ensures c.of-ends.ensures);
}
