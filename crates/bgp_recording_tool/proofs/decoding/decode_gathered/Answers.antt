use Rattle.std.proofs.Common.{◌∙◌, List, subst, sym, length, reverse, inl, inr}
use Rattle.std.specs.List.{AllByRecursion}
use Rattle.bgp_recording.specs.declared.entry.Entry.{Entry}
use Rattle.bgp_recording_tool.specs.Decoding.{AreLinesWith, HasLine}
use Rattle.bgp_recording_tool.specs.Remarks.{notes_of}
use Rattle.bgp_recording_tool.proofs.EntryLines.{have_lines}
use Rattle.bgp_recording_tool.proofs.Judgings.{is_made}
use Rattle.bgp_recording_tool.proofs.decoding.decode_gathered.Goals as goal

pub returns-in-Err : goal.returns-in-Err
returns-in-Err g c = λ packets segments taken holds. (
  inr (record {
    refusal = c.in-Err.refusal;
    turned_down = rw c.in-Err.is at (c.records_of.ensures.told packets segments taken holds);
    written = c.refused.ensures.written;
    helps = c.refused.ensures.helps;
  }),
  c.refused.ensures.cut ∙ c.cut_short-cut_short.ensures (reverse segments) (length packets) holds,
)

pub returns-in-Err-made_remarks : goal.returns-in-Err-made_remarks
returns-in-Err-made_remarks g c = λ packets segments taken holds. (
  inr (record {
    refusal = c.no_memory.result;
    turned_down = inr (c.no_memory.ensures (reverse segments) (length packets) holds);
    written = c.refused-in-Err-made_remarks.ensures.written;
    helps = c.refused-in-Err-made_remarks.ensures.helps;
  }),
  c.refused-in-Err-made_remarks.ensures.cut ∙ c.cut_short-cut_short.ensures (reverse segments) (length packets) holds,
)

pub write_entries-requires-clause-lines : goal.write_entries-requires-clause-lines
write_entries-requires-clause-lines g c =
    let h = c.requires.holds in
    let tells = rw c.in-Ok.is at (c.records_of.ensures.told h.packets h.segments h.taken h.holds) in
    subst (λ (es : List Entry). AllByRecursion (HasLine c.args.import.now.selection.session) es) (sym c.as_slice-entries.ensures.value)
    (have_lines c.args.import.now.selection.session c.args.import.now.within tells.connection c.in-Ok.made.entries.items c.in-Ok.made.received c.in-Ok.made.sent tells.recorded.told)

pub returns : goal.returns
returns g c = λ packets segments taken holds.
    let tells = rw c.in-Ok.is at (c.records_of.ensures.told packets segments taken holds) in
    let (text, (code, are_lines, written)) = c.write_entries.ensures in (
      inl (record {
        connection = tells.connection;
        entries = c.in-Ok.made.entries.items;
        notes = notes_of c.in-Ok.made;
        text = text;
        code = code;
        chosen = tells.answered;
        made = is_made c.args.import.now c.args.import.now.connection packets segments c.in-Ok.made tells;
        are_lines = subst (λ (es : List Entry). AreLinesWith c.args.form c.args.import.now.selection.session es text code) c.as_slice-entries.ensures.value are_lines;
        written = written;
        remarked = c.in-Ok-made_remarks.ensures;
      }),
      c.cut_short-cut_short.ensures (reverse segments) (length packets) holds,
    )
