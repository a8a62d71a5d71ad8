-- What a call of the module does with a file.
use Rattle.std.specs.Prelude.{◌≡◌, ℕ, List, [], Option, Some, Vec, ⊤}
use Rattle.std.specs.Borrow.{Bor}
use Rattle.mrt.specs.FromWrite.{fresh_writer, writer_state}
use Rattle.mrt.specs.declared.sink.FromWrite.{FromWrite}
use Rattle.arena.specs.declared.arena.Arena.{Arena}
use Rattle.bgp_commands.specs.MemVoice.{voice_text}
use Rattle.bgp_commands.specs.Reported.{IsReported}
use Rattle.bgp_commands.specs.declared.mem_voice.MemVoice.{MemVoice}
use Rattle.bgp_commands.specs.declared.sentence.Sentence.{Sentence}
use Rattle.bgp_page.specs.Stands.{Stands}
use Rattle.bgp_page.specs.declared.answer.Answer.{Answer}

-- what the octets of a file still give
abbrev pub octets_left : Bor (List ℕ) → Option (List ℕ)
octets_left file = Some file.now

-- a report in memory that is taken from an arena, and the octets that it holds
abbrev pub Text : Type 0
Text = Vec ℕ (Bor Arena)

abbrev pub text_held : Text → Option (List ℕ)
text_held text = Some text.items

-- a voice in such memory: the words of what is said to it have no clause
abbrev pub Noted : Type 0
Noted = MemVoice (Bor Arena)

abbrev pub says_to : Noted → Noted → List Sentence → Type 0
says_to old new sentences = ⊤

-- The report of `bgp check --html` on a file with these octets, under this name, was written to a
-- text that was empty, and the status is the command's. The text stands in the room, as far as it
-- fits, and so does what the voice holds in the notes.
pub record Checks (port within : ℕ) (file : Bor (List ℕ)) (name : List ℕ)
    (room room' notes notes' : List ℕ) (answer : Answer) : Type 0 where
  pub file_name : Bor (List ℕ)
  pub is_name : file_name.now ≡ name
  pub empty : Text
  pub is_empty : empty.items ≡ []
  pub begun : FromWrite Text
  pub is_begun : writer_state begun ≡ fresh_writer empty
  pub written : FromWrite Text
  pub voice : Noted
  pub voice' : Noted
  pub reported : IsReported (Bor Arena) octets_left text_held says_to port within file_name file
      begun written voice voice' answer.status
  pub in_room : Stands (writer_state written).writer.items answer.text room room'
  pub in_notes : Stands (voice_text voice') answer.notes notes notes'
