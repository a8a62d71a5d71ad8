use Rattle.std.proofs.Common.{◌≡◌, map, take}
use Rattle.mrt_sessions.specs.Located.{located}
use Rattle.bgp_check_capture_tool.specs.Places.{numbers_of}
use Rattle.bgp_check_capture_tool.proofs.places.numbers_of.Given as goal

-- those so far
abbrev pub invariant-loop-place : goal.invariant-loop-place
invariant-loop-place g l = l.numbers.items ≡ numbers_of (map located l.named) l.before (take l.place-index l.places)
