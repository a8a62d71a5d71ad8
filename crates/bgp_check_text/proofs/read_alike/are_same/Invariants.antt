use Rattle.std.proofs.Common.{◌≡◌, map, take}
use Rattle.bgp_recording.specs.Tells.{numbered_of}
use Rattle.bgp_check_text.proofs.read_alike.are_same.Given as goal

-- those so far are the same
abbrev pub invariant-loop-index : goal.invariant-loop-index
invariant-loop-index l = map numbered_of (take l.index l.one) ≡ map numbered_of (take l.index l.other)
