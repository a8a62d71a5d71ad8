use Rattle.std.proofs.Common.{List, refl, sym, subst}
use Rattle.std.specs.List.{AllByRecursion}
use Rattle.bgp_recording.specs.Pieces.{framings_of}
use Rattle.bgp_recording.specs.Recorded.{IsRecordedInOrder}
use Rattle.bgp_recording.specs.declared.framing.Unshown.{Unshown}
use Rattle.bgp_recording.specs.declared.entry.Entry.{Entry}
use Rattle.bgp_import.specs.Captures.{CanBeWritten, IsCapture, put_off}
use Rattle.bgp_import.specs.declared.note.Notes.{Notes}
use Rattle.bgp_import.proofs.importing.import_gathered.Goals as goal

pub returns-in-Err-clause-imports : goal.returns-in-Err-clause-imports
returns-in-Err-clause-imports g c = λ packets segments taken holds. record {
  nothing = refl;
  why = rw c.in-Err.is at (c.records_of.ensures.told packets segments taken holds);
}

pub write_capture-requires-clause-writable : goal.write_capture-requires-clause-writable
write_capture-requires-clause-writable g c =
    let h = c.requires.holds in
    let told = rw c.in-Ok.is at (c.records_of.ensures.told h.packets h.segments h.taken h.holds) in
    subst (λ (es : List Entry). AllByRecursion (CanBeWritten c.args.import.now.selection.session) es) (sym c.as_slice.ensures.value) told.writable

pub returns-in-Ok-write_capture-clause-imports : goal.returns-in-Ok-write_capture-clause-imports
returns-in-Ok-write_capture-clause-imports g c = λ packets segments taken holds.
    let import' = c.args.import.now in
    let made = c.in-Ok.made in
    let notes = c.notes_on.result in
    let told = rw c.in-Ok.is at (c.records_of.ensures.told packets segments taken holds) in
    let wrote = c.in-Ok-write_capture.ensures.ok in
    let recorded = subst (λ (r : Unshown). IsRecordedInOrder (framings_of import'.selection.session) import'.within told.connection made.entries.items r notes.sent) (sym c.notes_on.ensures.received)
    (subst (λ (r : Unshown). IsRecordedInOrder (framings_of import'.selection.session) import'.within told.connection made.entries.items made.received r) (sym c.notes_on.ensures.sent) told.recorded) in
    record {
      capture = wrote.0;
      captured = record {
        connection = told.connection;
        is_connection = record { segments = segments; taken = taken; answered = told.answered };
        made = record {
          entries = made.entries.items;
          made = record { recorded = recorded; counts = c.notes_on.ensures.put_off };
          capture = subst (λ (es : List Entry). IsCapture c.args.import.now.selection.session es wrote.0) c.as_slice.ensures.value wrote.1;
        };
      };
      written = wrote.2;
    }

pub returns-clause-imports : goal.returns-clause-imports
returns-clause-imports g c = λ packets segments taken holds.
    let made = c.in-Ok.made in
    let told = rw c.in-Ok.is at (c.records_of.ensures.told packets segments taken holds) in
    let wrote = c.in-Err-write_capture.ensures.err in
    let notes : Notes = record { received = made.received; sent = made.sent; put_off = put_off 0 made.entries.items } in
    record {
      notes = notes;
      capture = wrote.0;
      captured = record {
        connection = told.connection;
        is_connection = record { segments = segments; taken = taken; answered = told.answered };
        made = record {
          entries = made.entries.items;
          made = record { recorded = told.recorded; counts = refl };
          capture = subst (λ (es : List Entry). IsCapture c.args.import.now.selection.session es wrote.0) c.as_slice.ensures.value wrote.1;
        };
      };
      begun = wrote.2;
    }
