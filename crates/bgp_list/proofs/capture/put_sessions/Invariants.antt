use Rattle.std.proofs.Common.{take}
use Rattle.std.specs.List.{flat_map}
use Rattle.bgp_text.specs.Lines.{Writes}
use Rattle.mrt_sessions.specs.Sessions.{held_records, held_sessions}
use Rattle.bgp_list.specs.Sessions.{session_line}
use Rattle.bgp_list.proofs.capture.put_sessions.Given as goal

-- the lines of the sessions so far
abbrev pub invariant-loop-addresses : goal.invariant-loop-addresses
invariant-loop-addresses g l =
    Writes l.fn.lines l.lines (flat_map (λ a. session_line a (held_records l.sessions a)) (take l.addresses-index (held_sessions l.sessions)))
