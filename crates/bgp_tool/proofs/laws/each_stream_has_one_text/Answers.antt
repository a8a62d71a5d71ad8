use Rattle.std.proofs.Common.{[]}
use Rattle.bgp_text.proofs.EachMessage.{each_message}
use Rattle.bgp_text.proofs.OneMessage.{one_message}
use Rattle.bgp_tool.proofs.Decoded.{each_text}
use Rattle.bgp_tool.proofs.LinesOfFrames.{plain_lines}
use Rattle.bgp_tool.proofs.OneText.{one_text}
use Rattle.bgp_tool.proofs.laws.each_stream_has_one_text.Goals as goal

pub returns : goal.returns
returns c = record {
  says = each_message;
  says_once = one_message;
  each = each_text;
  one = one_text;
  plain = plain_lines [];
}
