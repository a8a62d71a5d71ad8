use Rattle.bgp_json_laws.proofs.Streams.{same_stream}
use Rattle.bgp_json_laws.proofs.line_laws.each_stream_has_its_text.Goals as goal

pub returns : goal.returns
returns c = same_stream
