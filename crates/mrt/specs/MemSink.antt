-- A sink in memory: what it holds, and what a write does to it.
use Rattle.std.specs.Prelude.{ℕ, ◌+◌, ◌-◌, ◌^◌, ◌==◌, min, List, [], ◌++◌, length, take}
use Rattle.std.specs.Prelude.{Option, None, Some, Result, Ok, Err, if◌then◌else◌}
use Rattle.std.specs.Int.NonZero.{non_zero_usize_get}
use Rattle.mrt.specs.Failures.{failures_after}
use Rattle.mrt.specs.declared.failure.Failed.{Failed}
use Rattle.mrt.specs.declared.mem_sink.MemSink.{MemSink}
use Rattle.mrt.specs.declared.mem_sink.SinkUpset.{SinkUpset}
use Rattle.mrt.specs.declared.mem_sink.SinkUpset.TheVariants.{Fail, Short}

-- what it holds: the octets that it took, the most that a call takes, what else happens once and
-- after how many calls, and how often it failed
pub record SinkState : Type 0 where
  pub octets : List ℕ
  pub most : ℕ
  pub upset : Option SinkUpset
  pub calls_before : ℕ
  pub failures : ℕ

abbrev pub sink_state : {A : Type 0} → MemSink A → SinkState
sink_state sink = record {
  octets = sink.octets.items;
  most = non_zero_usize_get sink.most;
  upset = sink.upset;
  calls_before = sink.calls_before;
  failures = sink.failures;
}

-- one that has taken nothing yet, and takes all that it is given
abbrev pub fresh_sink : SinkState
fresh_sink = record {
  octets = [];
  most = 2 ^ 64 - 1;
  upset = None;
  calls_before = 0;
  failures = 0;
}

-- one that failed once more
abbrev pub failed_sink : SinkState → SinkState
failed_sink state = record state { failures = state.failures + 1 }

-- what else happens in the next call
abbrev pub next_upset : SinkState → Option SinkUpset
next_upset state = if state.calls_before == 0 then state.upset else None

-- the state once a call is counted
abbrev pub after_call : SinkState → SinkState
after_call state = record state {
  upset = if state.calls_before == 0 then None else state.upset;
  calls_before = state.calls_before - 1;
}

-- the most octets that a call takes, by what else happens in it
abbrev pub most_taken : Option SinkUpset → ℕ → ℕ
most_taken None most = most
most_taken (Some Fail) most = 0
most_taken (Some (Short few)) most = min (non_zero_usize_get few) most

-- how many of so many octets a call takes, if it does not fail
abbrev pub count_taken : SinkState → ℕ → ℕ
count_taken state count = min count (most_taken (next_upset state) state.most)

-- the octets that are taken by an answer
abbrev pub taken_by : Result ℕ Failed → List ℕ → List ℕ
taken_by (Ok count) octets = take count octets
taken_by (Err failed) octets = []

-- one that took octets, or failed, by an answer
abbrev pub answered_sink : SinkState → List ℕ → Result ℕ Failed → SinkState
answered_sink state octets answer = record state {
  octets = state.octets ++ taken_by answer octets;
  failures = failures_after state.failures answer;
}

-- the state behind a write of these octets: one of no octets is not counted
abbrev pub after_write : SinkState → List ℕ → Result ℕ Failed → SinkState
after_write state octets answer =
    if length octets == 0 then state else answered_sink (after_call state) octets answer
