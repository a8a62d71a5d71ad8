-- A sink made of a writer: what it holds, and what it takes.
use Rattle.std.specs.Prelude.{ℕ, ◌+◌, List, Option, None, Some}
use Rattle.std.specs.declared.io.ErrorKind.{ErrorKind}
use Rattle.std.specs.Io.KnownBytes.{Appends}
use Rattle.mrt.specs.declared.sink.FromWrite.{FromWrite}

-- what it holds: the writer, how many octets it has taken, how often it failed, and the kind of the
-- error by which it failed last
pub record WriterState (W : Type 0) : Type 0 where
  pub writer : W
  pub taken : ℕ
  pub failures : ℕ
  pub last_error : Option ErrorKind

abbrev pub writer_state : {W : Type 0} → FromWrite W → WriterState W
writer_state sink = record {
  writer = sink.writer;
  taken = sink.taken;
  failures = sink.failures;
  last_error = sink.last_error;
}

-- one that has taken nothing yet
abbrev pub fresh_writer : {W : Type 0} → W → WriterState W
fresh_writer writer = record { writer = writer; taken = 0; failures = 0; last_error = None }

-- one that failed once more, by such an error
abbrev pub failed_writer : {W : Type 0} → WriterState W → ErrorKind → WriterState W
failed_writer state error =
    record state { failures = state.failures + 1; last_error = Some error }

-- From one state to another it took these octets: the writer holds them behind what it held, as far
-- as the writer tells that.
abbrev pub Takes : {W : Type 0} → (W → Option (List ℕ)) → WriterState W → WriterState W
    → List ℕ → Type 0
Takes contents old new octets = Appends (contents old.writer) (contents new.writer) octets
