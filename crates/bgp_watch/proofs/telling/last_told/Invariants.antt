use Rattle.std.proofs.Common.{◌≡◌, map}
use Rattle.mrt.specs.Reader.{shown_of}
use Rattle.bgp_watch.proofs.Fronts.{ToldSoFar}
use Rattle.bgp_watch.proofs.telling.last_told.Given as goal

-- what is told so far, and after which front Established was told last
abbrev pub invariant-loop-shown : goal.invariant-loop-shown
invariant-loop-shown l = record {
  counted : l.count ≡ l.shown-index;
  so_far : ToldSoFar (map shown_of l.records) l.shown-index l.last l.told;
}
