use Rattle.std.proofs.Common.{ℕ, List, Option, drop, map}
use Rattle.bgp_open.specs.OpenFault.{IsWellFormed}
use Rattle.mrt.specs.Reader.{shown_of}
use Rattle.bgp_parts.specs.Opens.{FirstReceived}
use Rattle.bgp_check.proofs.opens.heard_open.Given as goal

-- the OPEN of the rest is that of all
abbrev pub invariant-loop-record : goal.invariant-loop-record
invariant-loop-record l =
    (it : Option (List ℕ)) → FirstReceived IsWellFormed (map shown_of (drop l.record-index l.records)) it → FirstReceived IsWellFormed (map shown_of l.records) it
