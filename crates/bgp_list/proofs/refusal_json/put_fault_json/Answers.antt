use Rattle.std.proofs.Common.{List, ℕ, subst}
use Rattle.bgp_text.proofs.Pieces.{Joins, and_then}
use Rattle.bgp_text.specs.Lines.{Writes}
use Rattle.bgp_list.proofs.RefusalPrinted.{fault_printed, fault_value}
use Rattle.bgp_list.proofs.refusal_json.put_fault_json.Goals as goal

pub returns-clause-wrote : goal.returns-clause-wrote
returns-clause-wrote g c =
    let law : Joins g.W.Sink = record { joined = g.met.W.Sink.joined } in
    let front = rw (c.number.ensures, c.name.ensures) at c.put_front.ensures.wrote in
    subst (λ (t : List ℕ). Writes c.args.lines.now c.put_offset_end.new.lines t) (fault_printed c.args.fault) (and_then law front c.put_offset_end.ensures.wrote)

pub returns-clause-is_value : goal.returns-clause-is_value
returns-clause-is_value g c = fault_value c.args.fault (rw c.number.ensures at c.put_front.ensures.fits) c.put_offset_end.ensures.fits
