use Rattle.bgp_update.proofs.CleanWords.{unused}
use Rattle.bgp_update.proofs.mp.MpState.is_of_unused_family.Goals as goal

pub returns-in-Unused : goal.returns-in-Unused
returns-in-Unused c = unused c.args.self.now _ c.in-Unused.is
