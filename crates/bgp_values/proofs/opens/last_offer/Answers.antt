use Rattle.bgp_open.proofs.LeastFault.{none_if_well_formed}
use Rattle.bgp_values.proofs.LastOffer.{no_open, new_open}
use Rattle.bgp_values.proofs.opens.last_offer.Goals as goal

pub returns-in-Ok : goal.returns-in-Ok
returns-in-Ok c messages last = rw (c.offered_by.ensures, c.in-Ok.ensures.open) (new_open messages _ c.in-Ok.ensures.ok)

pub returns-in-Err : goal.returns-in-Err
returns-in-Err c messages last =
    no_open messages c.args.so_far c.args.octets.now (λ well. none_if_well_formed _ _ well c.in-Err.ensures.err) last
