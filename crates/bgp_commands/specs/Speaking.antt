-- What is said of a speaker on standard error.
use Rattle.std.specs.Prelude.{ℕ, ◌==◌, Bool, true, false, List, Option, None, Some, option_map}
use Rattle.std.specs.Prelude.{if◌then◌else◌}
use Rattle.std.specs.Borrow.{Bor}
use Rattle.std.specs.declared.io.ErrorKind.{ErrorKind}
use Rattle.std.specs.declared.io.ErrorKind.TheVariants as errors
use Rattle.bgp_talk.specs.declared.options.Start.{Start}
use Rattle.bgp_talk.specs.declared.options.Start.TheVariants.{Connect, Listen}
use Rattle.bgp_commands.specs.Sentences.{unwritten_sentence}
use Rattle.bgp_commands.specs.declared.ends.Output.{Output}
use Rattle.bgp_commands.specs.declared.ends.Output.TheVariants as outputs
use Rattle.bgp_commands.specs.declared.sentence.Sentence.{Sentence}
use Rattle.bgp_commands.specs.declared.sentence.Sentence.TheVariants.{Waiting}
use Rattle.bgp_commands.specs.declared.sentence.Sentence.TheVariants.{NoConnection, NoMemory}
use Rattle.bgp_commands.specs.declared.sentence.Sentence.TheVariants.{Unwritten}

-- where a peer is waited for, unless it is to be quiet
abbrev pub waiting_sentence : Start → Bool → Option Sentence
waiting_sentence (Connect port) quiet = None
waiting_sentence (Listen port) true = None
waiting_sentence (Listen port) false = Some (Waiting port)

abbrev pub no_connection_sentence : ℕ → Option ErrorKind → Option Sentence
no_connection_sentence port refusal = option_map (NoConnection port) refusal

-- the capture's failure comes before that of standard output
abbrev pub failed_sentence : Bor (List ℕ) → Output → Output → Option Sentence
failed_sentence file outputs.Whole output = unwritten_sentence output
failed_sentence file (outputs.Closed octet) output =
    Some (Unwritten file octet (Some errors.BrokenPipe))
failed_sentence file (outputs.Failed octet error) output = Some (Unwritten file octet error)

abbrev pub end_sentence : ℕ → Bor (List ℕ) → Output → Output → Option Sentence
end_sentence status file capture output =
    if status == 4 then Some NoMemory else failed_sentence file capture output
