use Rattle.std.proofs.Common.{arith}
use Rattle.packets.proofs.Ticks.{some_ticks}
use Rattle.packets.proofs.clock.micro_in_ticks.Goals as goal

pub nonzero_rem-result : goal.nonzero_rem-result
nonzero_rem-result c = let some = some_ticks c.args.resolution in omega (arith, c.in-Some.ensures)

pub nonzero_div-result : goal.nonzero_div-result
nonzero_div-result c = let some = some_ticks c.args.resolution in omega (arith, c.in-Some.ensures)
