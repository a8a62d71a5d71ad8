use Rattle.bgp_open.proofs.NamedSubcodes.{free_is_none}
use Rattle.bgp_open.proofs.subcodes.OpenSubcodes.is_empty.Goals as goal

pub returns : goal.returns
returns c = rw c.eq.ensures (free_is_none c.args.self.now)
