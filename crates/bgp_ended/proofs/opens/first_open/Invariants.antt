use Rattle.std.proofs.Common.{ℕ, List, Option, drop}
use Rattle.bgp_ended.specs.FirstOpen.{FirstOpen}
use Rattle.bgp_ended.proofs.opens.first_open.Given as goal

-- the OPEN of the rest is that of all
abbrev pub invariant-loop-message : goal.invariant-loop-message
invariant-loop-message l =
    (it : Option (List ℕ)) → FirstOpen (drop l.message-index l.messages) it → FirstOpen l.messages it
