use Rattle.bgp_import.proofs.Refreshed.{none_by}
use Rattle.bgp_import.proofs.refresh.refresh_in.Goals as goal

pub returns-clause-none : goal.returns-clause-none
returns-clause-none g c =
    none_by c.args.made.now.entries.items c.as_slice-entries.result.now c.args.made.now.received.rest c.args.made.now.sent.rest c.refresh_of.result c.refresh_of-2.result c.earlier.result
    c.as_slice-entries.ensures.value c.refresh_of.ensures c.refresh_of-2.ensures c.earlier.ensures
