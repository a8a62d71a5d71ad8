use Rattle.std.proofs.Common.{◌≡◌, []}
use Rattle.std.proofs.lemmas.List.{nil_from_length}
use Rattle.bgp_text.proofs.Pieces.{Joins, and_then}
use Rattle.bgp_lines.proofs.others.put_faults.Goals as goal

pub returns-in_default : goal.returns-in_default
returns-in_default g c =
    let none : c.args.subcodes.now ≡ [] = nil_from_length c.args.subcodes.now (c.in_default.ensures {u = tt}).cases in
    rw none c.put.ensures

pub returns : goal.returns
returns g c =
    let law : Joins g.W.Sink = record { joined = g.met.W.Sink.joined } in
    rw c.in-Some.ensures.cases.0 (and_then law c.put_fault.ensures c.put_more_faults.ensures)
