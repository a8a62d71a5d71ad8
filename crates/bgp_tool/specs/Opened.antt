-- What a decoding of what a reader gives leaves in a writer, as far as both tell their octets, and
-- what is told of its end on standard error.
use Rattle.std.specs.Prelude.{◌≡◌, ◌≢◌, ◌<◌, ◌+◌, ◌⊎◌, ℕ, List, Option, None, Some, length}
use Rattle.std.specs.Prelude.{option_map}
use Rattle.std.specs.Borrow.{Bor}
use Rattle.std.specs.Io.KnownBytes.{Consumes, Appends, IsAtEnd}
use Rattle.std.specs.declared.io.ErrorKind.{ErrorKind}
use Rattle.std.specs.declared.io.ErrorKind.TheVariants as errors
use Rattle.mrt.specs.FromWrite.{WriterState}
use Rattle.bgp_tool.specs.declared.note.Note.{Note}
use Rattle.bgp_tool.specs.declared.note.Note.TheVariants.{Unopened, Unread, Unwritten}
use Rattle.bgp_tool.specs.declared.note.Note.TheVariants.{OutOfMemory, NoStream}
use Rattle.bgp_tool.specs.declared.opened.Outcome.{Outcome}
use Rattle.bgp_tool.specs.declared.stream_options.StreamOptions.{StreamOptions}
use Rattle.bgp_tool.specs.Decoding.{IsDecoded, IsSoFar, IsBeginning}
use Rattle.bgp_tool.specs.Front.{no_stream, kept}

-- what is told of a writer that failed: nothing where a pipe was closed
abbrev pub TellsWriter : {W : Type 0} → WriterState W → Option Note → Type 0
TellsWriter writer note =
    ((writer.last_error ≡ Some errors.BrokenPipe) × (note ≡ None))
    ⊎ ((writer.last_error ≢ Some errors.BrokenPipe)
    × (note ≡ Some (Unwritten writer.taken writer.last_error)))

-- what is told of a reader that failed behind so many octets
abbrev pub TellsReader : Bor (List ℕ) → ℕ → Option Note → Type 0
TellsReader file octet note =
    (error : Option ErrorKind) × (note ≡ Some (Unread file octet error))

-- How a decoding ended, by its status, and what is told of it: of this file, of which these octets
-- were given, and this text written to a writer.
pub record Tells {W : Type 0} (options : StreamOptions) (file : Bor (List ℕ)) (given written : List ℕ)
    (old new : WriterState W) (outcome : Outcome) : Type 0 where
  -- a whole stream isn't told of, nor one that ends inside a message
  pub quiet : ((outcome.status ≡ 0) ⊎ (outcome.status ≡ 2)) → outcome.note ≡ None
  -- a file that is no raw stream is told by its front
  pub refused : outcome.status ≡ 3 →
      outcome.note ≡ option_map (NoStream file) (no_stream (kept given))
  pub memory : outcome.status ≡ 4 → outcome.note ≡ Some (OutOfMemory file (length given))
  -- the reader failed, and the lines of the frames that it gave are written; or the writer did
  pub device : outcome.status ≡ 5 →
      ((new.failures ≡ old.failures) × IsSoFar options given written
      × TellsReader file (length given) outcome.note)
      ⊎ ((new.failures ≡ old.failures + 1) × TellsWriter new outcome.note)
  -- else neither failed
  pub calm : outcome.status ≢ 5 → new.failures ≡ old.failures

-- From one state of a writer to another a reader's octets were decoded.
pub record DecodesReader {R W : Type 0} (options : StreamOptions)
    (remaining : R → Option (List ℕ)) (contents : W → Option (List ℕ)) (file : Bor (List ℕ))
    (reader : R) (old new : WriterState W) (outcome : Outcome) : Type 0 where
  pub given : List ℕ
  pub left : Option (List ℕ)
  pub written : List ℕ
  pub consumed : Consumes (remaining reader) left given
  pub appended : Appends (contents old.writer) (contents new.writer) written
  -- in any case a beginning of the text of what was given
  pub begun : IsBeginning options given written
  -- where the status tells of the stream, the whole text
  pub whole : outcome.status < 4 → IsDecoded options given written outcome.status
  -- where it ended, the reader has nothing left
  pub ended : ((outcome.status ≡ 0) ⊎ (outcome.status ≡ 2)) → IsAtEnd left
  pub told : Tells options file given written old new outcome
  pub no_capture : outcome.skipped ≡ None

-- A file couldn't be opened: a device failed, or memory was refused.
abbrev pub IsUnopened : Bor (List ℕ) → ErrorKind → Outcome → Type 0
IsUnopened file kind outcome =
    ((kind ≡ errors.OutOfMemory) × (outcome.status ≡ 4)
    × (outcome.note ≡ Some (OutOfMemory file 0)) × (outcome.skipped ≡ None))
    ⊎ ((kind ≢ errors.OutOfMemory) × (outcome.status ≡ 5)
    × (outcome.note ≡ Some (Unopened file kind)) × (outcome.skipped ≡ None))
