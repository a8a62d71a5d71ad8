use Rattle.std.proofs.Common.{reverse, subst}
use Rattle.bgp_import.specs.Listed.{IsPlaceOf}
use Rattle.bgp_import.proofs.ListedSoFar.{listed_more, lists_one, no_number, place_by, place_of}
use Rattle.bgp_import.proofs.listed.add_connection.Goals as goal

pub returns-in_ok-insert-in-Some-clause-listed : goal.returns-in_ok-insert-in-Some-clause-listed
returns-in_ok-insert-in-Some-clause-listed g c = λ port packets o h all.
    let opens = c.in-Some.ensures (reverse h.segments) h.holds in
    listed_more port packets c.args.listed.now.entries _ c.in-Some.opening.packet _ c.in_ok-insert-in-Some.ensures.entries
    (lists_one port packets c.args.addresses c.args.talk.now c.in-Some.opening c.args.number o h c.requires.first (c.requires.last (reverse h.segments) h.holds) opens.0 opens.1) all

pub returns-in_ok-insert-in-Some-clause-adds : goal.returns-in_ok-insert-in-Some-clause-adds
returns-in_ok-insert-in-Some-clause-adds g c = λ segments holds.
    let opens = c.in-Some.ensures (reverse segments) holds in
    subst (IsPlaceOf c.insert.new.self) (place_of segments c.args.number c.in-Some.opening opens.0 opens.1)
    (place_by c.insert.new.self c.in-Some.opening.packet _ c.in_ok-insert-in-Some.ensures.updates.1)

pub returns-in-None-clause-adds : goal.returns-in-None-clause-adds
returns-in-None-clause-adds g c = λ segments holds.
    absurd (no_number c.args.number _ (c.in-None.ensures (reverse segments) holds) c.requires.first (c.requires.last (reverse segments) holds))
