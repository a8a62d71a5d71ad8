use Rattle.std.proofs.Common.{◌≡◌, suc, length}
use Rattle.packets.specs.Pcapng.{clock_by, clock_in}
use Rattle.packets.proofs.interface.clock_in.Given as goal

abbrev pub invariant-each : goal.invariant-each
invariant-each l = clock_by (suc (length l.rest)) l.order l.clock l.rest ≡ clock_in l.order l.options

abbrev pub decreases-each : goal.decreases-each
decreases-each l = length l.rest
