use Rattle.std.proofs.Common.{◌-◌, length}
use Rattle.bgp_recording.proofs.Splitting.{IsSplit}
use Rattle.bgp_recording.proofs.framing.split_messages.Given as goal

abbrev pub invariant-loop-rest : goal.invariant-loop-rest
invariant-loop-rest g l =
    IsSplit l.framing l.direction l.givers l.octets l.place l.passed_over l.cursor l.messages.items

abbrev pub decreases-loop-rest : goal.decreases-loop-rest
decreases-loop-rest g l = length l.octets - l.place
