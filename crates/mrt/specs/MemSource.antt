-- A source in memory: what it holds, and what a read does to it.
use Rattle.std.specs.Prelude.{ℕ, ◌+◌, ◌-◌, ◌^◌, ◌==◌, min, List, length, drop}
use Rattle.std.specs.Prelude.{Bool, false, Option, None, Some, Result, Ok, Err}
use Rattle.std.specs.Prelude.{if◌then◌else◌}
use Rattle.std.specs.Int.NonZero.{non_zero_usize_get}
use Rattle.mrt.specs.Failures.{failures_after}
use Rattle.mrt.specs.Source.{is_end}
use Rattle.mrt.specs.declared.failure.Failed.{Failed}
use Rattle.mrt.specs.declared.mem_source.MemSource.{MemSource}
use Rattle.mrt.specs.declared.mem_source.SourceUpset.{SourceUpset}
use Rattle.mrt.specs.declared.mem_source.SourceUpset.TheVariants.{Fail, Short, End}

-- what it holds: all its octets, how many of them it has given, the most that a call gives, what
-- else happens once and after how many calls, how often it failed, and whether the last read with
-- room told the end
pub record SourceState : Type 0 where
  pub octets : List ℕ
  pub given : ℕ
  pub most : ℕ
  pub upset : Option SourceUpset
  pub calls_before : ℕ
  pub failures : ℕ
  pub has_ended : Bool

abbrev pub source_state : {A : Type 0} → MemSource A → SourceState
source_state source = record {
  octets = source.octets.items;
  given = source.given;
  most = non_zero_usize_get source.most;
  upset = source.upset;
  calls_before = source.calls_before;
  failures = source.failures;
  has_ended = source.has_ended;
}

-- one that gives these octets, as many in a call as there is room for, and then ends
abbrev pub fresh_source : List ℕ → SourceState
fresh_source octets = record {
  octets = octets;
  given = 0;
  most = 2 ^ 64 - 1;
  upset = None;
  calls_before = 0;
  failures = 0;
  has_ended = false;
}

-- one that failed once more
abbrev pub failed_source : SourceState → SourceState
failed_source state = record state { failures = state.failures + 1; has_ended = false }

-- the octets that it has not given yet
abbrev pub octets_left : SourceState → List ℕ
octets_left state = drop state.given state.octets

-- what else happens in the next call
abbrev pub next_upset : SourceState → Option SourceUpset
next_upset state = if state.calls_before == 0 then state.upset else None

-- what is left of it behind that call: an end is for good
abbrev pub upset_behind : Option SourceUpset → Option SourceUpset
upset_behind None = None
upset_behind (Some Fail) = None
upset_behind (Some (Short few)) = None
upset_behind (Some End) = Some End

-- the state once a call is counted
abbrev pub after_call : SourceState → SourceState
after_call state = record state {
  upset = if state.calls_before == 0 then upset_behind state.upset else state.upset;
  calls_before = state.calls_before - 1;
}

-- the most octets that a call gives, by what else happens in it
abbrev pub most_given : Option SourceUpset → ℕ → ℕ
most_given None most = most
most_given (Some Fail) most = 0
most_given (Some (Short few)) most = min (non_zero_usize_get few) most
most_given (Some End) most = 0

-- how many octets a call with so much room gives
abbrev pub count_given : SourceState → ℕ → ℕ
count_given state room =
    min (min (length (octets_left state)) (most_given (next_upset state) state.most)) room

-- what a call that gives so many octets answers, by what else happens in it
abbrev pub call_answer : Option SourceUpset → ℕ → Result ℕ Failed
call_answer None count = Ok count
call_answer (Some Fail) count = Err (record {})
call_answer (Some (Short few)) count = Ok count
call_answer (Some End) count = Ok count

-- what a read with so much room answers: without room it gives nothing, and is not counted
abbrev pub read_answer : SourceState → ℕ → Result ℕ Failed
read_answer state room =
    if room == 0 then Ok 0 else call_answer (next_upset state) (count_given state room)

-- the state behind a read with so much room
abbrev pub after_read : SourceState → ℕ → SourceState
after_read state room =
    if room == 0 then state else record (after_call state) {
      given = state.given + count_given state room;
      failures = failures_after state.failures (read_answer state room);
      has_ended = is_end (read_answer state room);
    }
