use Rattle.bgp_json.proofs.Shallow.{message_shallow}
use Rattle.bgp_json.proofs.Lines.{starts_with_nothing, is_written}
use Rattle.bgp_json.specs.MessageJson.{message_json}
use Rattle.bgp_json.proofs.message.put_json_frame.Goals as goal

pub put_written-requires : goal.put_written-requires
put_written-requires g c = starts_with_nothing c.start-writer.ensures.before (c.write_frame-written.ensures c.requires.says.0 c.requires.says.1)

pub returns : goal.returns
returns g c = λ message says.
    c.put_written.ensures (message_json c.args.reading c.args.place c.args.frame.now message) (is_written c.start-writer.ensures.tokens (c.write_frame-written.ensures message says)) (message_shallow c.args.reading c.args.place c.args.frame.now message)
