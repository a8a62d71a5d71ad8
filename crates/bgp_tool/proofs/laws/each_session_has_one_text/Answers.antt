use Rattle.bgp_tool.proofs.PlacedLines.{lines_plainly, plain_lines}
use Rattle.bgp_tool.proofs.OneRecordLine.{one_text_of}
use Rattle.bgp_tool.proofs.laws.each_session_has_one_text.Goals as goal

pub returns : goal.returns
returns c = record {
  one = one_text_of;
  plain = λ session before number records text. (plain_lines session before number records text, lines_plainly session before number records text);
}
