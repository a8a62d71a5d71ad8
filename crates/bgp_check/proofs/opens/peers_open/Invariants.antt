use Rattle.std.proofs.Common.{ℕ, List, Option, drop, map}
use Rattle.mrt.specs.Reader.{shown_of}
use Rattle.bgp_parts.specs.Opens.{HasPeersOpen}
use Rattle.bgp_check.proofs.opens.peers_open.Given as goal

-- the OPEN of the rest is that of all
abbrev pub invariant-loop-record : goal.invariant-loop-record
invariant-loop-record l =
    (it : Option (List ℕ)) → HasPeersOpen (map shown_of (drop l.record-index l.records)) it → HasPeersOpen (map shown_of l.records) it
