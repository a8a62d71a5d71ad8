-- How a source or a sink counts its failures.
use Rattle.std.specs.Prelude.{ℕ, ◌+◌, Result, Ok, Err}
use Rattle.mrt.specs.declared.failure.Failed.{Failed}

-- the count after a call: one more where the call failed, and else the same
abbrev pub failures_after : {X : Type 0} → ℕ → Result X Failed → ℕ
failures_after count (Ok answer) = count
failures_after count (Err failed) = count + 1
