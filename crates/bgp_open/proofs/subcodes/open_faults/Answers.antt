use Rattle.bgp_open.proofs.NamedSubcodes.{empty_if_valid, valid_is_well_formed}
use Rattle.bgp_open.proofs.subcodes.open_faults.Goals as goal

pub returns-clause-valid : goal.returns-clause-valid
returns-clause-valid c = empty_if_valid c.args.config.now c.args.octets.now _ c.fault_sets.ensures.must

pub returns-clause-well_formed : goal.returns-clause-well_formed
returns-clause-well_formed c = valid_is_well_formed c.args.config.now c.args.octets.now
