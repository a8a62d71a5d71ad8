use Rattle.std.proofs.Common.{take}
use Rattle.bgp_recording.specs.Captured.{records_of}
use Rattle.bgp_check_text.specs.FramedAlike.{ArePlain}
use Rattle.bgp_check_text.proofs.framed_alike.are_plain.Given as goal

-- those so far are
abbrev pub invariant-loop-one : goal.invariant-loop-one
invariant-loop-one l = ArePlain (records_of (take l.one-index l.entries))
