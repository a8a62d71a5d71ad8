use Rattle.std.proofs.Common.{◌≡◌, ℕ, List, ◌++◌, length, map}
use Rattle.std.specs.List.{AllByRecursion}
use Rattle.bgp_speaker.specs.Shown.{shown_value}
use Rattle.bgp_talk.specs.CoreFacts.{IsShort}
use Rattle.bgp_talk.specs.Talk.{capture_of}
use Rattle.bgp_talk.proofs.talking.write_records.Given as goal

-- the text of the records so far was written, and that of the rest is behind it
abbrev pub invariant-loop-first : goal.invariant-loop-first
invariant-loop-first g l = record {
  written : (taken : List ℕ) × g.C.Sink.takes l.fn.sink l.sink taken
      × (capture_of l.config (map shown_value l.records)
      ≡ taken ++ capture_of l.config (map shown_value l.rest));
  short : AllByRecursion (IsShort l.config) (map shown_value l.rest);
  calm : g.C.Sink.failures l.sink ≡ g.C.Sink.failures l.fn.sink;
}

abbrev pub decreases-loop-first : goal.decreases-loop-first
decreases-loop-first g l = length l.rest
