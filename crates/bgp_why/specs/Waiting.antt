-- Errors one after another, of which the last waits until it is known whether another follows.
use Rattle.std.specs.Prelude.{◌++◌, ◌&&◌, ℕ, Bool, List, [], Option, None, Some, if◌then◌else◌}
use Rattle.std.specs.Prelude.{codes, is_none}
use Rattle.bgp_why.specs.declared.errors.ErrorCode.{ErrorCode}
use Rattle.bgp_why.specs.declared.errors.Waiting.{Waiting}
use Rattle.bgp_why.specs.Errors.{error_text}

-- the error that waits, after this text unless it is the first
abbrev pub last_by : Bool → List ℕ → Option ErrorCode → List ℕ
last_by is_first text None = []
last_by is_first text (Some error) =
    if is_first then error_text error else text ++ error_text error

abbrev pub last_text : List ℕ → Waiting → List ℕ
last_text text waiting = last_by waiting.is_first text waiting.error

-- what waits once an error follows, if it does
abbrev pub with : Waiting → Option ErrorCode → Waiting
with waiting None = waiting
with waiting (Some error) =
    record { is_first = waiting.is_first && is_none waiting.error; error = Some error }

-- what is put then
abbrev pub passed : Waiting → Option ErrorCode → List ℕ
passed waiting None = []
passed waiting (Some error) = last_text (codes ", ") waiting
