use Rattle.std.proofs.Common.{inl, inr, refl, sym}
use Rattle.bgp_commands.proofs.listing.list.Goals as goal

pub returns-then-is_recording : goal.returns-then-is_recording
returns-then-is_recording g c = record {
  peeked = c.new-peeked.result;
  is_peeked = c.new-peeked.ensures;
  is = inl (sym c.if-is_recording.ensures, (c.list_packets-listed.result.0, (c.list_packets-listed.result.1, (refl, c.list_packets-listed.ensures))));
}

pub returns-else-is_recording : goal.returns-else-is_recording
returns-else-is_recording g c = record {
  peeked = c.new-peeked.result;
  is_peeked = c.new-peeked.ensures;
  is = inr (
    sym c.if-is_recording.ensures,
    (c.list_records.result.0, (c.list_records.result.1, (refl, c.list_records.ensures))),
  );
}
