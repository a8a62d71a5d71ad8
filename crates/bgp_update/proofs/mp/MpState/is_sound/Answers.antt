use Rattle.bgp_update.proofs.Words.{sound}
use Rattle.bgp_update.proofs.mp.MpState.is_sound.Goals as goal

pub returns-in-Sound : goal.returns-in-Sound
returns-in-Sound c = sound c.args.self.now _ _ c.in-Sound.is
