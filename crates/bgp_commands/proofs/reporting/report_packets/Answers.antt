use Rattle.std.proofs.Common.{ℕ, None, subst}
use Rattle.mrt.specs.FromRead.{reader_state}
use Rattle.mrt.specs.FromWrite.{writer_state}
use Rattle.bgp_commands.specs.Ends.{AreEnds}
use Rattle.bgp_commands.proofs.reporting.report_packets.Goals as goal

pub returns : goal.returns
returns g c = record {
  begun = c.new-source.result;
  read = c.report_recording-checked.new.source;
  fresh = c.new-source.ensures;
  is_call = (
    c.report_recording-checked.ensures.no,
    c.report_recording-checked.ensures.yes,
    c.report_recording-checked.ensures.unfinished,
    c.report_recording-checked.ensures.all,
  );
  are_ends = subst
      (λ (n : ℕ). AreEnds c.args.file (reader_state c.report_recording-checked.new.source)
      (writer_state c.report_recording-checked.new.sink) n None c.of-ends.result)
      c.failures-failures.ensures c.of-ends.ensures;
}
