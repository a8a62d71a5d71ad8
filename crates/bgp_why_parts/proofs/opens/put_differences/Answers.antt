use Rattle.std.proofs.Common.{codes, []}
use Rattle.bgp_names.proofs.Pieces.{Joins, and_then}
use Rattle.bgp_why_parts.specs.Opens.{number_piece, id_piece, families_piece, as_number_piece, extended_piece, offers_piece}
use Rattle.bgp_why_parts.proofs.Separated.{seven_pieces}
use Rattle.bgp_why_parts.proofs.opens.put_differences.Goals as goal

pub returns : goal.returns
returns g c =
    let law : Joins g.W.Sink = record { joined = g.met.W.Sink.joined } in
    let told = c.args.told.now in
    rw
    (seven_pieces (codes "; ") [] c.put_number-first.result.now c.put_number-second.result.now c.put_id-third.result.now c.put_families-fourth.result.now c.put_as_number-fifth.result.now c.put_extended-sixth.result.now
    (number_piece (codes "My AS ") told.my_as) (number_piece (codes "Hold Time ") told.hold) (id_piece told.id) (families_piece told.families) (as_number_piece told.as_number) (extended_piece told.extended) (offers_piece told.offers)
    c.put_number-first.ensures.next c.put_number-second.ensures.next c.put_id-third.ensures.next c.put_families-fourth.ensures.next c.put_as_number-fifth.ensures.next c.put_extended-sixth.ensures.next)
    (and_then law c.put_number-first.ensures.writes (and_then law c.put_number-second.ensures.writes (and_then law c.put_id-third.ensures.writes
    (and_then law c.put_families-fourth.ensures.writes (and_then law c.put_as_number-fifth.ensures.writes (and_then law c.put_extended-sixth.ensures.writes c.put_offers.ensures))))))
