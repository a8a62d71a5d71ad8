use Rattle.std.proofs.Common.{map, option_map, take}
use Rattle.bgp_machine.specs.Run.{Begins}
use Rattle.mrt.specs.Reader.{shown_of}
use Rattle.bgp_watch.specs.Front.{IsWatched, front_value}
use Rattle.bgp_watch.proofs.watching.watch_records.Given as goal

-- the tracker stands for the records so far, which begin a run, and of which the front is known
abbrev pub invariant-loop-count : goal.invariant-loop-count
invariant-loop-count g l = record {
  stands : g.T.Tracker.stands_for l.tracker l.config (map shown_of (take l.count l.records));
  begins : Begins l.config (map shown_of (take l.count l.records));
  watched : IsWatched l.config (map shown_of (take l.count l.records)) (option_map front_value l.before);
}
