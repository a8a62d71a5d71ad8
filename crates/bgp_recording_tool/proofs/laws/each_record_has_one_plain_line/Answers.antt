use Rattle.bgp_recording_tool.proofs.EntryLines.{plain_lines}
use Rattle.bgp_recording_tool.proofs.laws.each_record_has_one_plain_line.Goals as goal

pub returns : goal.returns
returns c = plain_lines
