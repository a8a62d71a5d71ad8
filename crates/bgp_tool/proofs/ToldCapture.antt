-- What is told of a command on a capture, by how often its writer had failed before.
use Rattle.std.proofs.Common.{◌≡◌, ◌≤◌, ◌<◌, ◌⊎◌, ℕ, List, Option, Some, arith, inl, inr}
use Rattle.std.specs.Borrow.{Bor}
use Rattle.mrt.specs.FromRead.{ReaderState}
use Rattle.mrt.specs.FromWrite.{WriterState}
use Rattle.mrt.specs.Reader as records
use Rattle.mrt.specs.declared.fault.CaptureFault.{CaptureFault}
use Rattle.bgp_tool.specs.declared.note.CaptureCommand.{CaptureCommand}
use Rattle.bgp_tool.specs.declared.seen.Seen.{Seen}
use Rattle.bgp_tool.specs.declared.note.Note.{Note}
use Rattle.bgp_tool.specs.declared.note.Note.TheVariants.{Unread, OutOfMemory}
use Rattle.bgp_tool.specs.Opened.{TellsWriter}
use Rattle.bgp_tool.specs.OpenedCapture.{TellsCapture, told_of}

module _ {R W : Type 0} (command : CaptureCommand) (file : Bor (List ℕ)) (source : ReaderState R) (octets : List ℕ) (found : records.ReaderState)
    (fault : Option CaptureFault) (lacking : Option Seen) (old new : WriterState W) (status : ℕ) (note : Option Note) where
  -- the writer failed, and it is told
  pub of_writer : (new.failures ≡ old.failures) ⊎ (status ≡ 5) → old.failures < new.failures → TellsWriter new note
      → TellsCapture command file source octets found fault lacking old new status note
  of_writer calm more tells = record {
    writer = λ is. tells;
    read = λ less. elim calm [
      | inl same ↦ absurd (omega (arith, same, more))
      | inr is ↦ absurd (omega (arith, is, less))
    ];
    memory = λ four. elim calm [
      | inl same ↦ absurd (omega (arith, same, more))
      | inr is ↦ absurd (omega (arith, is, four))
    ];
    reader = λ is same. absurd (omega (arith, same, more));
  }

  -- it took all of the text
  pub of_reader : new.failures ≤ old.failures → (status < 4 → note ≡ told_of command file octets found fault lacking)
      → (status ≡ 4 → note ≡ Some (OutOfMemory file source.given)) → (status ≡ 5 → note ≡ Some (Unread file source.given source.last_error))
      → TellsCapture command file source octets found fault lacking old new status note
  of_reader none read memory reader = record {
    writer = λ is. absurd (omega (arith, is, none));
    read = read;
    memory = memory;
    reader = λ is same. reader is;
  }
