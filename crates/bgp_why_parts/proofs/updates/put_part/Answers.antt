use Rattle.bgp_why_parts.specs.Updates.{part_text}
use Rattle.bgp_names.proofs.Pieces.{Joins, and_then}
use Rattle.bgp_why_parts.proofs.updates.put_part.Goals as goal

pub returns-in-LengthsRunOver : goal.returns-in-LengthsRunOver
unfolding part_text
returns-in-LengthsRunOver g c = rw c.in-LengthsRunOver.is c.put.ensures

pub returns-in-WithdrawnMalformed : goal.returns-in-WithdrawnMalformed
unfolding part_text
returns-in-WithdrawnMalformed g c = rw c.in-WithdrawnMalformed.is c.put-in-WithdrawnMalformed.ensures

pub returns-in-NlriMalformed : goal.returns-in-NlriMalformed
unfolding part_text
returns-in-NlriMalformed g c = rw c.in-NlriMalformed.is c.put-in-NlriMalformed.ensures

pub returns-in-AttributesCut : goal.returns-in-AttributesCut
unfolding part_text
returns-in-AttributesCut g c = rw c.in-AttributesCut.is c.put-in-AttributesCut.ensures

pub returns-in-Missing : goal.returns-in-Missing
unfolding part_text
returns-in-Missing g c = rw c.in-Missing.is (rw c.row.ensures.number at c.put_named-in-Missing.ensures)

pub returns-in-BaseNotInUse : goal.returns-in-BaseNotInUse
unfolding part_text
returns-in-BaseNotInUse g c = rw c.in-BaseNotInUse.is c.put-in-BaseNotInUse.ensures

pub returns-in-Faulty : goal.returns-in-Faulty
unfolding part_text
returns-in-Faulty g c =
    let law : Joins g.W.Sink = record { joined = g.met.W.Sink.joined } in
    rw c.in-Faulty.is (and_then law c.put_attribute_name.ensures c.put_fault.ensures)

pub returns-in-Overrun : goal.returns-in-Overrun
unfolding part_text
returns-in-Overrun g c = rw c.in-Overrun.is c.put_named.ensures
