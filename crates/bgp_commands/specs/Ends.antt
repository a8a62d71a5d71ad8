-- How far a command came with its file and its output.
use Rattle.std.specs.Prelude.{◌≡◌, ◌≢◌, ◌≤◌, ◌<◌, ℕ, List, Option, Some}
use Rattle.std.specs.Borrow.{Bor}
use Rattle.std.specs.declared.io.ErrorKind.TheVariants as errors
use Rattle.mrt.specs.FromRead.{ReaderState}
use Rattle.mrt.specs.FromWrite.{WriterState}
use Rattle.bgp_tool.specs.declared.note.Note.{Note}
use Rattle.bgp_commands.specs.declared.ends.Ends.{Ends}
use Rattle.bgp_commands.specs.declared.ends.Output.{Output}
use Rattle.bgp_commands.specs.declared.ends.Output.TheVariants.{Whole, Closed, Failed}

-- whether a writer took all, which had failed so often before
pub record IsOutput {W : Type 0} (writer : WriterState W) (failures : ℕ) (output : Output) : Type 0
  where
    pub whole : writer.failures ≤ failures → output ≡ Whole
    pub closed : failures < writer.failures → writer.last_error ≡ Some errors.BrokenPipe
        → output ≡ Closed writer.taken
    pub failed : failures < writer.failures → writer.last_error ≢ Some errors.BrokenPipe
        → output ≡ Failed writer.taken writer.last_error

-- how far a reader of this file came, and a writer; and what the file is, if that is known
pub record AreEnds {R W : Type 0} (file : Bor (List ℕ)) (reader : ReaderState R)
    (writer : WriterState W) (failures : ℕ) (note : Option Note) (ends : Ends) : Type 0 where
  pub is_file : ends.file ≡ file
  pub is_octet : ends.octet ≡ reader.given
  pub is_error : ends.error ≡ reader.last_error
  pub is_output : IsOutput writer failures ends.output
  pub is_note : ends.note ≡ note
