use Rattle.std.proofs.Common.{refl}
use Rattle.bgp_json.specs.MessageJson.{message_json}
use Rattle.bgp_json.specs.Object.{json_line}
use Rattle.bgp_json.specs.declared.place.Place.TheVariants.{InStream}
use Rattle.bgp_json.proofs.teller.JsonTeller.put_frame.Goals as goal

pub put_json_frame-requires-clause-says : goal.put_json_frame-requires-clause-says
put_json_frame-requires-clause-says g c = c.requires.says _

pub returns-clause-line : goal.returns-clause-line
returns-clause-line g c = λ before known.
    let reading = c.reading-reading.result in
    let said = c.requires.says reading.form in
    let value = message_json reading (InStream c.args.offset) c.args.frame.now said.0 in
    (json_line value, (reading, (c.args.self.now.opens, known, c.reading-reading.ensures), (value, (said.0, said.1, refl), refl)), c.put_json_frame.ensures said.0 said.1)

pub returns-clause-knows : goal.returns-clause-knows
returns-clause-knows g c = λ before known. c.take.ensures before.received before.sent known
