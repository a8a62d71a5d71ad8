use Rattle.std.proofs.Common.{◌≡◌, drop}
use Rattle.std.specs.List.{slice_get}
use Rattle.streams.specs.Held.{holding}
use Rattle.streams.proofs.connections.nth_holding.Given as goal

-- it is among those left
abbrev pub invariant-loop-it : goal.invariant-loop-it
invariant-loop-it g l = slice_get (holding (drop l.it-index l.list)) l.left ≡ slice_get (holding l.list) l.index
