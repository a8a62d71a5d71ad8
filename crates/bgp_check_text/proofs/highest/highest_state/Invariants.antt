use Rattle.std.proofs.Common.{◌≡◌, drop, map, max}
use Rattle.mrt.specs.Reader.{shown_of}
use Rattle.bgp_check_text.specs.Highest.{highest_state}
use Rattle.bgp_check_text.proofs.highest.highest_state.Given as goal

-- with the rest of the records it is the highest of all
abbrev pub invariant-loop-record : goal.invariant-loop-record
invariant-loop-record l =
    max l.highest (highest_state (map shown_of (drop l.record-index l.records))) ≡ highest_state (map shown_of l.records)
