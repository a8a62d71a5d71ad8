-- The command that the words of a command line spell, the program's own name first.
use Rattle.std.specs.Prelude.{◌≡◌, ◌⊎◌, Bool, List, [], ◌∷◌, ◌++◌, Option, Some, None}
use Rattle.std.specs.Prelude.{Result, MatchResult, codes}
use Rattle.clap.specs.Words.{Kinds, Row, Text, fault_of, kind_of, subcommand_of}
use Rattle.clap.specs.Kinds.{or_else}
use Rattle.clap.specs.declared.error.Error.{Error}
use Rattle.clap.specs.declared.error.kind.ErrorKind.{ErrorKind}
use Rattle.clap.specs.declared.error.kind.ErrorKind.TheVariants.{ArgumentConflict}
use Rattle.clap.specs.declared.error.kind.ErrorKind.TheVariants.{DisplayHelp, DisplayVersion}
use Rattle.clap.specs.declared.error.kind.ErrorKind.TheVariants.{MissingRequiredArgument}
use Rattle.clap.specs.declared.error.kind.ErrorKind.TheVariants.{MissingSubcommand, OutOfMemory}
use Rattle.clap.specs.declared.error.kind.ErrorKind.TheVariants.{ValueValidation}
use Rattle.bgp_json.specs.declared.output_form.OutputForm.{OutputForm}
use Rattle.bgp_open.specs.declared.config.Config.{Config}
use Rattle.bgp_words.specs.Decode.{IsStream, IsCapture, IsDecodeOf}
use Rattle.bgp_words.specs.Judge.{IsJudge, IsJudgeOf}
use Rattle.bgp_words.specs.Import.{IsChecking, IsImport, IsListing}
use Rattle.bgp_words.specs.Speak.{IsSpeak}
use Rattle.bgp_words.specs.Pair.{IsPair}
use Rattle.bgp_words.specs.Words.{program_words}
use Rattle.bgp_import.specs.declared.options.RecordingOptions.{RecordingOptions}
use Rattle.bgp_words.specs.declared.words.Command.{Command}
use Rattle.bgp_words.specs.declared.words.Command.TheVariants.{Decode, Capture, Judge}
use Rattle.bgp_words.specs.declared.words.Command.TheVariants.{Check, Import, List as Listing}
use Rattle.bgp_words.specs.declared.judge.Reporting.{Reporting}
use Rattle.bgp_words.specs.declared.words.Command.TheVariants.{Speak, Pair}

-- a command was named, and its values are such
abbrev pub IsUsed : Text → (List Row → Type 0) → Option (Text × List Row) → Type 0
IsUsed name values None = ⊥
IsUsed name values (Some used) = (used.0 ≡ name) × values used.1

-- the name of a command
abbrev pub name_of : Command → Text
name_of (Decode form extended file) = codes "decode"
name_of (Capture form session recording file) = codes "decode"
name_of (Judge config recording reporting file) = codes "judge"
name_of (Import session recording file out) = codes "import"
name_of (Listing port json file) = codes "list"
name_of (Check checking file) = codes "check"
name_of (Speak config speaking file) = codes "speak"
name_of (Pair file) = codes "pair"

-- its values
abbrev pub AreValuesOf : Command → List Row → Type 0
AreValuesOf (Decode form extended file) = IsStream form extended file.now
AreValuesOf (Capture form session recording file) = IsCapture form session recording file.now
AreValuesOf (Judge config recording reporting file) = IsJudge config recording reporting file.now
AreValuesOf (Import session recording file out) = IsImport session recording file.now out.now
AreValuesOf (Listing port json file) = IsListing port json file.now
AreValuesOf (Check checking file) =
    IsChecking checking file.now
AreValuesOf (Speak config speaking file) = IsSpeak config speaking file.now
AreValuesOf (Pair file) = IsPair file.now

-- the command that was named, by its name and its values
abbrev pub Names : Option (Text × List Row) → Command → Type 0
Names used command = IsUsed (name_of command) (AreValuesOf command) used

-- a command of this name, with values in these rows
abbrev pub NamesBy : Text → List Row → Command → Type 0
NamesBy name rows = Names (Some (name, rows))

-- `decode` was named, of a stream, in this form, with extended messages or without, and with this
-- file
abbrev pub NamesDecode : OutputForm → Bool → Text → Option (Text × List Row) → Type 0
NamesDecode form extended file = IsUsed (codes "decode") (IsStream form extended file)

-- `judge` was named, with this configuration, the options for a recording, what is reported, and
-- this file
abbrev pub NamesJudge : Config → RecordingOptions → Reporting → Text → Option (Text × List Row)
    → Type 0
NamesJudge config recording reporting file =
    IsUsed (codes "judge") (IsJudge config recording reporting file)

-- the words spell the command: nothing is wrong with them, and they name it
abbrev pub Spells : List Text → Command → Type 0
Spells words command =
    (fault_of program_words words ≡ []) × Names (subcommand_of program_words words) command

-- what may be wrong with words that spell no command, or what they ask for in its place: what is
-- told of them as words, or that a value isn't what its option wants
abbrev pub word_faults : List Text → Kinds
word_faults words = or_else (fault_of program_words words) (ValueValidation ∷ [])

-- it is `decode` of this file, or memory was refused
abbrev pub IsDecodeOrMemory : Text → Result Command Error → Type 0
IsDecodeOrMemory text result =
    MatchResult result (IsDecodeOf text) (λ error. kind_of error ≡ OutOfMemory)

-- it is `judge` with what these words tell, or memory was refused
abbrev pub IsJudgeOrMemory : List Text → Result Command Error → Type 0
IsJudgeOrMemory words result =
    MatchResult result (IsJudgeOf words) (λ error. kind_of error ≡ OutOfMemory)

-- `speak` with what tells of the session, these options, and a file
abbrev pub speak_with : List Text → List Text
speak_with options =
    codes "speak" ∷ codes "--local-as" ∷ codes "65001" ∷ codes "--peer-as" ∷ codes "65002"
    ∷ codes "--local-id" ∷ codes "192.0.2.1" ∷ codes "--local" ∷ codes "192.0.2.1"
    ∷ codes "--peer" ∷ codes "192.0.2.2" ∷ options ++ codes "a.mrt" ∷ []

-- some options of it
abbrev pub connect : Text → List Text
connect port = codes "--connect" ∷ port ∷ []

abbrev pub listen : Text → List Text
listen port = codes "--listen" ∷ port ∷ []

abbrev pub next_hop4 : List Text
next_hop4 = codes "--next-hop" ∷ codes "192.0.2.1" ∷ []

abbrev pub next_hop6 : List Text
next_hop6 = codes "--next-hop6" ∷ codes "2001:db8::1" ∷ []

abbrev pub announce : List Text
announce = codes "--announce" ∷ codes "10.1.0.0/16" ∷ []

abbrev pub turns : List Text
turns = codes "--turns" ∷ codes "5" ∷ []

-- `speak` with what it has to have, and then with these twice
abbrev pub twice : List Text → List Text
twice option =
    speak_with (connect (codes "1179") ++ next_hop4 ++ next_hop6 ++ option ++ option)

-- `import` with both addresses, one option more with its value, and two files
abbrev pub import_with : Text → Text → List Text
import_with option value =
    codes "import" ∷ codes "--local" ∷ codes "192.0.2.1" ∷ codes "--peer" ∷ codes "192.0.2.2"
    ∷ option ∷ value ∷ codes "a.pcap" ∷ codes "a.mrt" ∷ []

-- Words after the program's name that spell no command: what they ask for, or lack.
abbrev pub fault_rows : List (List Text × ErrorKind)
fault_rows =
    ([], MissingSubcommand)
    ∷ (codes "decode" ∷ [], MissingRequiredArgument)
    ∷ (codes "--help" ∷ [], DisplayHelp) ∷ (codes "-h" ∷ [], DisplayHelp)
    ∷ (codes "decode" ∷ codes "--help" ∷ [], DisplayHelp)
    ∷ (codes "decode" ∷ codes "-h" ∷ [], DisplayHelp)
    ∷ (codes "judge" ∷ [], MissingRequiredArgument)
    ∷ (codes "judge" ∷ codes "--help" ∷ [], DisplayHelp)
    ∷ (codes "judge" ∷ codes "-h" ∷ [], DisplayHelp)
    ∷ (codes "import" ∷ [], MissingRequiredArgument)
    ∷ (
      codes "import" ∷ codes "--local" ∷ codes "192.0.2.1" ∷ codes "--peer" ∷ codes "192.0.2.2"
          ∷ codes "a.pcap" ∷ [],
      MissingRequiredArgument,
    )
    ∷ (codes "import" ∷ codes "--help" ∷ [], DisplayHelp)
    ∷ (codes "import" ∷ codes "-h" ∷ [], DisplayHelp)
    ∷ (codes "list" ∷ [], MissingRequiredArgument)
    ∷ (codes "list" ∷ codes "--help" ∷ [], DisplayHelp)
    ∷ (codes "list" ∷ codes "-h" ∷ [], DisplayHelp)
    ∷ (codes "check" ∷ [], MissingRequiredArgument)
    ∷ (codes "check" ∷ codes "--help" ∷ [], DisplayHelp)
    ∷ (codes "check" ∷ codes "-h" ∷ [], DisplayHelp)
    ∷ (codes "speak" ∷ [], MissingRequiredArgument)
    ∷ (codes "speak" ∷ codes "--help" ∷ [], DisplayHelp)
    ∷ (codes "speak" ∷ codes "-h" ∷ [], DisplayHelp)
    ∷ (speak_with (connect (codes "1179") ++ next_hop6), MissingRequiredArgument)
    ∷ (speak_with (connect (codes "1179") ++ next_hop4), MissingRequiredArgument)
    ∷ (twice announce, ArgumentConflict) ∷ (twice next_hop4, ArgumentConflict)
    ∷ (twice next_hop6, ArgumentConflict) ∷ (twice (connect (codes "1179")), ArgumentConflict)
    ∷ (twice (listen (codes "1179")), ArgumentConflict) ∷ (twice turns, ArgumentConflict)
    ∷ (twice (codes "--quiet" ∷ []), ArgumentConflict)
    ∷ (codes "pair" ∷ [], MissingRequiredArgument)
    ∷ (codes "pair" ∷ codes "--help" ∷ [], DisplayHelp)
    ∷ (codes "pair" ∷ codes "-h" ∷ [], DisplayHelp)
    ∷ (codes "--version" ∷ [], DisplayVersion) ∷ (codes "-V" ∷ [], DisplayVersion) ∷ []

-- Words after the program's name in which no word is at fault, and a value or what is given beside
-- it is: neither way to come to a connection, both, ports 0 and 65536, and 2 to the 63rd turns; of
-- recordings ports 0 and 65536, connection 0, and 65536 seconds; AS numbers of two octets in lines
-- that aren't in words, and both words and JSON, of a stream and of a capture; both JSON and HTML.
abbrev pub value_rows : List (List Text)
value_rows =
    speak_with (next_hop4 ++ next_hop6)
    ∷ speak_with (connect (codes "1179") ++ listen (codes "1180") ++ next_hop4 ++ next_hop6)
    ∷ speak_with (connect (codes "0") ++ next_hop4 ++ next_hop6)
    ∷ speak_with (listen (codes "0") ++ next_hop4 ++ next_hop6)
    ∷ speak_with (connect (codes "65536") ++ next_hop4 ++ next_hop6)
    ∷ speak_with (connect (codes "1179") ++ next_hop4 ++ next_hop6
    ++ codes "--turns" ∷ codes "9223372036854775808" ∷ [])
    ∷ import_with (codes "--port") (codes "65536")
    ∷ import_with (codes "--local-port") (codes "0")
    ∷ import_with (codes "--connection") (codes "0")
    ∷ import_with (codes "--within") (codes "65536")
    ∷ (codes "list" ∷ codes "--port" ∷ codes "0" ∷ codes "a.pcap" ∷ [])
    ∷ (codes "decode" ∷ codes "--as2" ∷ codes "a.bgp" ∷ [])
    ∷ (codes "decode" ∷ codes "--as2" ∷ codes "--mrt" ∷ codes "--peer" ∷ codes "192.0.2.2"
    ∷ codes "--local" ∷ codes "192.0.2.1" ∷ codes "a.mrt" ∷ [])
    ∷ (codes "decode" ∷ codes "--names" ∷ codes "--json" ∷ codes "a.bgp" ∷ [])
    ∷ (codes "decode" ∷ codes "--json" ∷ codes "--names" ∷ codes "--mrt" ∷ codes "--peer"
    ∷ codes "192.0.2.2" ∷ codes "--local" ∷ codes "192.0.2.1" ∷ codes "a.mrt" ∷ [])
    ∷ (codes "check" ∷ codes "--json" ∷ codes "--html" ∷ codes "a.pcap" ∷ []) ∷ []

-- an error of this kind, or memory was refused
abbrev pub IsFault : ErrorKind → Result Command Error → Type 0
IsFault kind result =
    MatchResult result (λ command. ⊥)
    (λ error. (kind_of error ≡ kind) ⊎ (kind_of error ≡ OutOfMemory))
