use Rattle.std.proofs.Common.{◌++◌, codes, refl}
use Rattle.bgp_open.specs.RouteForm.{plain_form}
use Rattle.bgp_text.specs.Text.{line_of}
use Rattle.bgp_text.proofs.Pieces.{Joins, and_then}
use Rattle.bgp_lines.specs.MessageLine.{named_text}
use Rattle.bgp_lines.proofs.teller.Teller.put_frame.Goals as goal

pub put_message-requires-clause-says : goal.put_message-requires-clause-says
put_message-requires-clause-says g c = c.requires.says plain_form

pub put_named-requires-clause-says : goal.put_named-requires-clause-says
put_named-requires-clause-says g c = c.requires.says _

pub returns-in-Plain-clause-line : goal.returns-in-Plain-clause-line
returns-in-Plain-clause-line g c = λ before known.
    let said = c.requires.says plain_form in
    rw c.in-Plain.is (line_of said.0, (said.0, said.1, refl), c.put_message.ensures said.0 said.1)

pub returns-in-Plain-clause-knows : goal.returns-in-Plain-clause-knows
returns-in-Plain-clause-knows g c = λ before known. rw c.in-Plain.is tt

pub returns-in-Names-clause-line : goal.returns-in-Names-clause-line
returns-in-Names-clause-line g c = λ before known.
    let law : Joins g.W.Sink = record { joined = g.met.W.Sink.joined } in
    let opens = rw c.in-Names.is at known in
    let reading = c.reading.result in
    let said = c.requires.says reading.form in
    let text = named_text reading c.args.frame.now said.0 in
    rw c.in-Names.is (
      text ++ codes "\n",
      (reading, (c.args.self.now.opens, opens, c.reading.ensures), (text, (said.0, said.1, refl), refl)),
      and_then law (c.put_named.ensures said.0 said.1) c.put.ensures,
    )

pub returns-in-Names-clause-knows : goal.returns-in-Names-clause-knows
returns-in-Names-clause-knows g c = λ before known.
    rw c.in-Names.is (c.take.ensures before.received before.sent (rw c.in-Names.is at known))
