use Rattle.std.proofs.Common.{refl}
use Rattle.bgp_open.proofs.CapabilityEntries.{of_paths}
use Rattle.bgp_open.proofs.paths.first_path_entry.Goals as goal

pub returns-clause-some : goal.returns-clause-some
returns-clause-some c =
    let parts = c.in_ok-entry.ensures.cases in
    of_paths _ _ _ _ _ _ parts.0 parts.1 parts.2 c.read_u16.ensures refl refl
