use Rattle.bgp_json_laws.proofs.Frames.{same_frame_line}
use Rattle.bgp_json_laws.proofs.line_laws.each_frame_has_its_line.Goals as goal

pub returns : goal.returns
returns c = same_frame_line
