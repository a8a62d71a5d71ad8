use Rattle.std.proofs.Common.{◌≡◌, ℕ, List, ◌++◌, drop}
use Rattle.std.specs.List.{AllByRecursion}
use Rattle.bgp_import.specs.Captures.{CanBeWritten, entries_octets}
use Rattle.bgp_import.proofs.capture.write_entries.Given as goal

-- the octets of the records so far were written, and those of the rest follow them
abbrev pub invariant-loop-entry : goal.invariant-loop-entry
invariant-loop-entry g l = record {
  written : (taken : List ℕ) × g.W.Sink.takes l.fn.sink l.sink taken
      × (entries_octets l.session l.numbers l.entries
      ≡ taken ++ entries_octets l.session l.numbers (drop l.entry-index l.entries));
  writable : AllByRecursion (CanBeWritten l.session) (drop l.entry-index l.entries);
  calm : g.W.Sink.failures l.sink ≡ g.W.Sink.failures l.fn.sink;
}
