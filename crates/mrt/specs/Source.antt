-- What gives octets: how a read tells the end.
use Rattle.std.specs.Prelude.{ℕ, ◌==◌, List, length, Result, Ok, Err, Bool, false, if◌then◌else◌}
use Rattle.mrt.specs.declared.failure.Failed.{Failed}

-- the answer of a read gives nothing
abbrev pub is_end : Result ℕ Failed → Bool
is_end (Ok count) = count == 0
is_end (Err failed) = false

-- Whether the end is told, after a read into this buffer. A read with room tells it by giving
-- nothing, and takes it back by any other answer; a read without room tells nothing.
abbrev pub ended_after : Bool → List ℕ → Result ℕ Failed → Bool
ended_after ended buffer answer = if length buffer == 0 then ended else is_end answer
