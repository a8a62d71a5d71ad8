use Rattle.bgp_page.proofs.checking.bgp_page_check.Goals as goal

pub returns-clause-named : goal.returns-clause-named
returns-clause-named c text = record {
  file_name = c.in-Ok.name;
  is_name = c.in-Ok.ensures.cases.0;
  empty = c.new.result;
  is_empty = c.new.ensures.items;
  begun = c.new-sink.result;
  is_begun = c.new-sink.ensures;
  written = c.report_over-status.new.sink;
  voice = c.new-voice.result;
  voice' = c.report_over-status.new.voice;
  reported = c.report_over-status.ensures;
  in_room = rw c.into_inner-report.ensures at (rw c.as_slice.ensures.value at c.put_into.ensures);
  in_notes = rw c.text.ensures at (rw c.as_bytes.ensures.value at c.put_into-2.ensures);
}
