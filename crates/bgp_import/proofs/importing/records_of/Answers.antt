use Rattle.std.proofs.Common.{inl, inr, subst, reverse, length}
use Rattle.bgp_recording.specs.declared.framing.Framings.{Framings}
use Rattle.bgp_recording.specs.Recorded.{IsRecordedInOrder}
use Rattle.bgp_recording.proofs.Capturing.{made_are_writable}
use Rattle.bgp_import.proofs.InOrder.{in_order}
use Rattle.bgp_import.proofs.Telling.{are_covered, is_clocked, entries_written}
use Rattle.bgp_import.proofs.importing.records_of.Goals as goal

pub make_records-requires-clause-received : goal.make_records-requires-clause-received
make_records-requires-clause-received g c =
    let h = c.requires.holds in
    let answered = rw c.in-Ok.is at (c.choose.ensures (reverse h.segments) (length h.packets) h.holds) in
    (are_covered _ _ _ c.in-Ok.connection answered).0

pub make_records-requires-clause-sent : goal.make_records-requires-clause-sent
make_records-requires-clause-sent g c =
    let h = c.requires.holds in
    let answered = rw c.in-Ok.is at (c.choose.ensures (reverse h.segments) (length h.packets) h.holds) in
    (are_covered _ _ _ c.in-Ok.connection answered).1

pub returns-in-Err-clause-told : goal.returns-in-Err-clause-told
returns-in-Err-clause-told g c = λ packets segments taken holds.
    inl (rw c.in-Err.is at (c.choose.ensures (reverse segments) (length packets) holds))

pub returns-in-Ok-make_records-clause-told : goal.returns-in-Ok-make_records-clause-told
returns-in-Ok-make_records-clause-told g c = λ packets segments taken holds.
    let session = c.args.import.now.selection.session in
    let connection = c.in-Ok.connection in
    let made = c.in-Ok-make_records.made in
    let answered = rw c.in-Ok.is at (c.choose.ensures (reverse segments) (length packets) holds) in
    let told = c.in-Ok-make_records.ensures.told (is_clocked (reverse segments) _ (length packets) connection (in_order _ packets segments taken) answered) in
    let recorded = subst (λ (f : Framings). IsRecordedInOrder f c.args.import.now.within connection made.entries.items made.received made.sent) c.of_session-framings.ensures told in
    record {
      connection = connection;
      answered = answered;
      recorded = recorded;
      writable = entries_written session made.entries.items (made_are_writable session c.args.import.now.within connection made.entries.items made.received made.sent c.requires.families recorded.told);
    }

pub returns-in-Err-make_records-clause-told : goal.returns-in-Err-make_records-clause-told
returns-in-Err-make_records-clause-told g c = λ packets segments taken holds.
    inr (c.no_memory.ensures (reverse segments) (length packets) holds)
