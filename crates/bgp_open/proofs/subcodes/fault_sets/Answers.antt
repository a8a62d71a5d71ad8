use Rattle.bgp_open.proofs.NamedSubcodes.{of_readable, of_malformed}
use Rattle.bgp_open.proofs.subcodes.fault_sets.Goals as goal

pub returns-in-Ok-clause-must : goal.returns-in-Ok-clause-must
returns-in-Ok-clause-must c =
    of_readable _ _ c.in-Ok.readable.has_capabilities_alone _ c.in-Ok.ensures.ok c.in-Ok.ensures.types (rw c.in-Ok.ensures.open at c.field_subcodes.ensures)

pub returns-in-Err-Malformed-clause-must : goal.returns-in-Err-Malformed-clause-must
returns-in-Err-Malformed-clause-must c = of_malformed c.args.config.now _ (rw c.in-Err-Malformed.field-0-is at c.in-Err-Malformed.ensures.err)
