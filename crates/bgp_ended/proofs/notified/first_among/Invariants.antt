use Rattle.std.proofs.Common.{◌++◌, List, option_map, take}
use Rattle.bgp_ended.specs.Notified.{HasFirst, Said, said_by}
use Rattle.bgp_ended.specs.Values.{ended_value}
use Rattle.bgp_ended.proofs.notified.first_among.Given as goal

-- the first of those before and of those so far
abbrev pub invariant-loop-message : goal.invariant-loop-message
invariant-loop-message l =
    (before : List Said) → HasFirst before (option_map ended_value l.fn.so_far) → HasFirst (before ++ said_by l.by (take l.message-index l.messages)) (option_map ended_value l.first)
