use Rattle.std.proofs.Common.{inl, inr, refl, sym}
use Rattle.bgp_commands.proofs.reporting.report.Goals as goal

pub returns-then-is_recording : goal.returns-then-is_recording
returns-then-is_recording g c = record {
  peeked = c.new-peeked.result;
  is_peeked = c.new-peeked.ensures;
  is = inl (sym c.if-is_recording.ensures, (c.report_packets-checked.result.0, (c.report_packets-checked.result.1, (refl, c.report_packets-checked.ensures))));
}

pub returns-else-is_recording : goal.returns-else-is_recording
returns-else-is_recording g c = record {
  peeked = c.new-peeked.result;
  is_peeked = c.new-peeked.ensures;
  is = inr (
    sym c.if-is_recording.ensures,
    (c.report_records-checked.result.0, (c.report_records-checked.result.1, (refl, rw c.capture_options-options.ensures at c.report_records-checked.ensures))),
  );
}
