-- Each row of words in which a value is at fault.
use Rattle.std.proofs.Common.{◌≡◌, ℕ, List, [], ◌∷◌, ◌++◌, Option, Some, None, Result, Ok, Err, All, arith, true, false, refl, sym, subst, inr, codes}
use Rattle.std.specs.Prelude.{IsErrAnd, IsSomeAnd}
use Rattle.std.specs.Option.{option_map_or}
use Rattle.std.proofs.lemmas.List.Elements.{All-cons, All-nil, All-weaker}
use Rattle.std.proofs.lemmas.Option.{none-some}
use Rattle.clap.specs.Words.{Row, Text, fault_of, kind_of, subcommand_of}
use Rattle.clap.specs.declared.error.Error.{Error}
use Rattle.clap.specs.declared.error.kind.ErrorKind.{ErrorKind}
use Rattle.clap.specs.declared.error.kind.ErrorKind.TheVariants.{OutOfMemory}
use Rattle.clap.proofs.OnLiterals.{clap_on_literals}
use Rattle.bgp_words.specs.declared.check.CheckForm.{CheckForm}
use Rattle.bgp_words.specs.declared.check.CheckForm.TheVariants as forms
use Rattle.bgp_json.specs.declared.output_form.OutputForm.{OutputForm}
use Rattle.bgp_json.specs.declared.output_form.OutputForm.TheVariants.{Text as AsText, Json}
use Rattle.bgp_lines.specs.declared.form.LineForm.TheVariants.{Plain, Names as InWords}
use Rattle.bgp_words.specs.Decode.{IsForm}
use Rattle.bgp_words.specs.Import.{IsCheckForm}
use Rattle.bgp_words.specs.Recording.{AreRecordingOptions}
use Rattle.bgp_words.specs.Speak.{AreOptions, IsStart}
use Rattle.bgp_words.specs.Values.{IsPortText, IsPositiveText, IsValue}
use Rattle.bgp_words.specs.Words.{program_words}
use Rattle.bgp_words.specs.Spelled.{IsFault, Names, connect, import_with, listen, next_hop4, next_hop6, speak_with, value_rows}
use Rattle.bgp_import.specs.declared.options.RecordingOptions.{RecordingOptions}
use Rattle.bgp_talk.specs.declared.options.Speaking.{Speaking}
use Rattle.bgp_talk.specs.declared.options.Start.{Start}
use Rattle.bgp_talk.specs.declared.options.Start.TheVariants.{Connect, Listen}
use Rattle.bgp_words.specs.declared.words.Command.{Command}
use Rattle.bgp_words.proofs.NamedCommand.{none_checked, none_decoded, none_imported, none_listed, none_spoken}

-- what is found in a row
abbrev found : Text → List Text → List Row
found name row = option_map_or (λ p. p.1) (subcommand_of program_words (name ∷ row)) []

abbrev LacksOptions : List Row → Type 0
LacksOptions rows = (speaking : Speaking) → AreOptions speaking rows → ⊥

abbrev LacksRecording : List Row → Type 0
LacksRecording rows = (recording : RecordingOptions) → AreRecordingOptions recording rows → ⊥

abbrev LacksPort : List Row → Type 0
LacksPort rows = (port : ℕ) → IsValue IsPortText (codes "port") rows port → ⊥

abbrev NamesNone : Text → List Text → Type 0
NamesNone name row = (command : Command) → Names (subcommand_of program_words (name ∷ row)) command → ⊥

-- nothing is named where `speak` is and its options are none
no_speak : (name : Text) (row : List Text) → subcommand_of program_words (name ∷ row) ≡ Some (codes "speak", found name row)
    → LacksOptions (found name row) → NamesNone name row
no_speak name row names lacks command named =
    none_spoken (found name row) (λ config speaking file is. lacks speaking is.2) command (subst (λ used. Names used command) names named)

-- the same of `import` and of `list`
no_import : (name : Text) (row : List Text) → subcommand_of program_words (name ∷ row) ≡ Some (codes "import", found name row)
    → LacksRecording (found name row) → NamesNone name row
no_import name row names lacks command named =
    none_imported (found name row) (λ session recording file out is. lacks recording is.2) command (subst (λ used. Names used command) names named)

no_list : (name : Text) (row : List Text) → subcommand_of program_words (name ∷ row) ≡ Some (codes "list", found name row)
    → LacksPort (found name row) → NamesNone name row
no_list name row names lacks command named =
    none_listed (found name row) (λ port json file is. lacks port is.0) command (subst (λ used. Names used command) names named)

pub record IsValueRow (name : Text) (row : List Text) : Type 0 where
  pub passes : fault_of program_words (name ∷ row) ≡ []
  pub nothing : NamesNone name row

abbrev hops : List Text
hops = next_hop4 ++ next_hop6

neither : (name : Text) (start : Start) → IsStart start (found name (speak_with hops)) → ⊥
unfolding clap_on_literals
neither name (Connect port) is = is.0
neither name (Listen port) is = is.0

both : (name : Text) (start : Start) → IsStart start (found name (speak_with (connect (codes "1179") ++ listen (codes "1180") ++ next_hop4 ++ next_hop6))) → ⊥
unfolding clap_on_literals
both name (Connect port) is = none-some _ (sym is.1)
both name (Listen port) is = none-some _ (sym is.1)

port_0 : (name : Text) (start : Start) → IsStart start (found name (speak_with (connect (codes "0") ++ next_hop4 ++ next_hop6))) → ⊥
unfolding clap_on_literals
port_0 name (Connect port) is = is.0.2 (sym is.0.0.1)
port_0 name (Listen port) is = is.0

listen_0 : (name : Text) (start : Start) → IsStart start (found name (speak_with (listen (codes "0") ++ next_hop4 ++ next_hop6))) → ⊥
unfolding clap_on_literals
listen_0 name (Connect port) is = is.0
listen_0 name (Listen port) is = is.0.2 (sym is.0.0.1)

port_65536 : (name : Text) (start : Start) → IsStart start (found name (speak_with (connect (codes "65536") ++ next_hop4 ++ next_hop6))) → ⊥
unfolding clap_on_literals
port_65536 name (Connect port) is = omega (arith, is.0.0.1, is.0.1)
port_65536 name (Listen port) is = is.0

many_turns : (name : Text) → LacksOptions (found name (speak_with (connect (codes "1179") ++ next_hop4 ++ next_hop6
    ++ codes "--turns" ∷ codes "9223372036854775808" ∷ [])))
unfolding clap_on_literals
many_turns name speaking are = omega (arith, are.turns.0.1, are.turns.1)

high_port : (name : Text) → LacksRecording (found name (import_with (codes "--port") (codes "65536")))
unfolding clap_on_literals
high_port name recording are = omega (arith, are.port.0.1, are.port.1)

no_port_0 : (port : Option ℕ) → IsSomeAnd port (λ it. IsPortText (codes "0") it) → ⊥
no_port_0 None is = is
no_port_0 (Some port) is = is.2 (sym is.0.1)

local_port_0 : (name : Text) → LacksRecording (found name (import_with (codes "--local-port") (codes "0")))
unfolding clap_on_literals
local_port_0 name recording are = no_port_0 recording.local_port are.local_port

no_number_0 : (number : Option ℕ) → IsSomeAnd number (λ it. IsPositiveText (codes "0") it) → ⊥
no_number_0 None is = is
no_number_0 (Some number) is = is.2 (sym is.0.1)

connection_0 : (name : Text) → LacksRecording (found name (import_with (codes "--connection") (codes "0")))
unfolding clap_on_literals
connection_0 name recording are = no_number_0 recording.connection are.connection

many_seconds : (name : Text) → LacksRecording (found name (import_with (codes "--within") (codes "65536")))
unfolding clap_on_literals
many_seconds name recording are = omega (arith, are.within.0.1, are.within.1)

list_port_0 : (name : Text) → LacksPort (found name (codes "list" ∷ codes "--port" ∷ codes "0" ∷ codes "a.pcap" ∷ []))
unfolding clap_on_literals
list_port_0 name port is = is.2 (sym is.0.1)

-- of `decode` no form is told
abbrev as2_words : List Text
as2_words = codes "decode" ∷ codes "--as2" ∷ codes "a.bgp" ∷ []

abbrev as2_capture_words : List Text
as2_capture_words = codes "decode" ∷ codes "--as2" ∷ codes "--mrt" ∷ codes "--peer" ∷ codes "192.0.2.2"
    ∷ codes "--local" ∷ codes "192.0.2.1" ∷ codes "a.mrt" ∷ []

abbrev both_words : List Text
both_words = codes "decode" ∷ codes "--names" ∷ codes "--json" ∷ codes "a.bgp" ∷ []

abbrev both_capture_words : List Text
both_capture_words = codes "decode" ∷ codes "--json" ∷ codes "--names" ∷ codes "--mrt" ∷ codes "--peer" ∷ codes "192.0.2.2"
    ∷ codes "--local" ∷ codes "192.0.2.1" ∷ codes "a.mrt" ∷ []

abbrev HasNoForm : List Row → Type 0
HasNoForm rows = (form : OutputForm) → IsForm form rows → ⊥

as2_alone : (name : Text) → HasNoForm (found name as2_words)
unfolding clap_on_literals
as2_alone name (AsText Plain) is = let bad : true ≡ false = is.2 in absurd (cc)
as2_alone name (AsText (InWords as2)) is = let bad : false ≡ true = is.0 in absurd (cc)
as2_alone name (Json as2) is = let bad : false ≡ true = is.1 in absurd (cc)

as2_alone_of_capture : (name : Text) → HasNoForm (found name as2_capture_words)
unfolding clap_on_literals
as2_alone_of_capture name (AsText Plain) is = let bad : true ≡ false = is.2 in absurd (cc)
as2_alone_of_capture name (AsText (InWords as2)) is = let bad : false ≡ true = is.0 in absurd (cc)
as2_alone_of_capture name (Json as2) is = let bad : false ≡ true = is.1 in absurd (cc)

both_forms : (name : Text) → HasNoForm (found name both_words)
unfolding clap_on_literals
both_forms name (AsText Plain) is = let bad : true ≡ false = is.0 in absurd (cc)
both_forms name (AsText (InWords as2)) is = let bad : true ≡ false = is.1 in absurd (cc)
both_forms name (Json as2) is = let bad : true ≡ false = is.0 in absurd (cc)

both_forms_of_capture : (name : Text) → HasNoForm (found name both_capture_words)
unfolding clap_on_literals
both_forms_of_capture name (AsText Plain) is = let bad : true ≡ false = is.0 in absurd (cc)
both_forms_of_capture name (AsText (InWords as2)) is = let bad : true ≡ false = is.1 in absurd (cc)
both_forms_of_capture name (Json as2) is = let bad : true ≡ false = is.0 in absurd (cc)

-- nor of `check`
abbrev check_forms_words : List Text
check_forms_words = codes "check" ∷ codes "--json" ∷ codes "--html" ∷ codes "a.pcap" ∷ []

abbrev HasNoCheckForm : List Row → Type 0
HasNoCheckForm rows = (form : CheckForm) → IsCheckForm form rows → ⊥

both_check_forms : (name : Text) → HasNoCheckForm (found name check_forms_words)
unfolding clap_on_literals
both_check_forms name forms.Text is = let bad : true ≡ false = is.0 in absurd (cc)
both_check_forms name forms.Json is = let bad : true ≡ false = is.1 in absurd (cc)
both_check_forms name forms.Html is = let bad : true ≡ false = is.0 in absurd (cc)

no_check : (name : Text) (row : List Text) → subcommand_of program_words (name ∷ row) ≡ Some (codes "check", found name row)
    → HasNoCheckForm (found name row) → NamesNone name row
no_check name row names none command named =
    none_checked (found name row) (λ checking file is. none checking.form (let (_port, _within, _routes, _settings, _quiet, form, _file) = is in form))
    command (subst (λ used. Names used command) names named)

no_decode : (name : Text) (row : List Text) → subcommand_of program_words (name ∷ row) ≡ Some (codes "decode", found name row)
    → HasNoForm (found name row) → NamesNone name row
no_decode name row names none command named =
    none_decoded (found name row)
    (λ form extended file is. none form (let (_file, _mrt, _peer, _local, _all, _plain, form) = is in form))
    (λ form session recording file is. none form (let (_file, _mrt, _peer, _local, _refresh, _long, _recording, form) = is in form))
    command (subst (λ used. Names used command) names named)

-- one row after another
abbrev AreRows : Text → List (List Text) → Type 0
AreRows name [] = Unit {0}
AreRows name (row ∷ rows) = IsValueRow name row × AreRows name rows

all_rows : (name : Text) (rows : List (List Text)) → AreRows name rows → All (IsValueRow name) rows
all_rows name [] are = All-nil (IsValueRow name)
all_rows name (row ∷ rows) are = All-cons (IsValueRow name) row rows are.0 (all_rows name rows are.1)

speak_row : (name : Text) (options : List Text) → fault_of program_words (name ∷ speak_with options) ≡ []
    → subcommand_of program_words (name ∷ speak_with options) ≡ Some (codes "speak", found name (speak_with options))
    → LacksOptions (found name (speak_with options)) → IsValueRow name (speak_with options)
speak_row name options passes names lacks =
    record { passes = passes; nothing = no_speak name (speak_with options) names lacks }

import_row : (name option value : Text) → fault_of program_words (name ∷ import_with option value) ≡ []
    → subcommand_of program_words (name ∷ import_with option value) ≡ Some (codes "import", found name (import_with option value))
    → LacksRecording (found name (import_with option value)) → IsValueRow name (import_with option value)
import_row name option value passes names lacks =
    record { passes = passes; nothing = no_import name (import_with option value) names lacks }

rows_of_recordings : (name : Text) → AreRows name (
    import_with (codes "--port") (codes "65536") ∷ import_with (codes "--local-port") (codes "0")
    ∷ import_with (codes "--connection") (codes "0") ∷ import_with (codes "--within") (codes "65536")
    ∷ (codes "list" ∷ codes "--port" ∷ codes "0" ∷ codes "a.pcap" ∷ []) ∷ as2_words
    ∷ as2_capture_words ∷ both_words ∷ both_capture_words ∷ check_forms_words ∷ [])
unfolding clap_on_literals
rows_of_recordings name = (
  import_row name (codes "--port") (codes "65536") refl refl (high_port name),
  (
    import_row name (codes "--local-port") (codes "0") refl refl (local_port_0 name),
    (
      import_row name (codes "--connection") (codes "0") refl refl (connection_0 name),
      (
        import_row name (codes "--within") (codes "65536") refl refl (many_seconds name),
        (
          record {
            passes = refl;
            nothing = no_list name (codes "list" ∷ codes "--port" ∷ codes "0" ∷ codes "a.pcap" ∷ []) refl (list_port_0 name);
          },
          (
            record { passes = refl; nothing = no_decode name as2_words refl (as2_alone name) },
            (
              record { passes = refl; nothing = no_decode name as2_capture_words refl (as2_alone_of_capture name) },
              (
                record { passes = refl; nothing = no_decode name both_words refl (both_forms name) },
                (
                  record { passes = refl; nothing = no_decode name both_capture_words refl (both_forms_of_capture name) },
                  (record { passes = refl; nothing = no_check name check_forms_words refl (both_check_forms name) }, tt),
                ),
              ),
            ),
          ),
        ),
      ),
    ),
  ),
)

are_rows : (name : Text) → AreRows name value_rows
unfolding clap_on_literals
are_rows name = (
  speak_row name hops refl refl (λ speaking are. neither name speaking.start are.start),
  (
    speak_row name (connect (codes "1179") ++ listen (codes "1180") ++ hops) refl refl (λ speaking are. both name speaking.start are.start),
    (
      speak_row name (connect (codes "0") ++ hops) refl refl (λ speaking are. port_0 name speaking.start are.start),
      (
        speak_row name (listen (codes "0") ++ hops) refl refl (λ speaking are. listen_0 name speaking.start are.start),
        (
          speak_row name (connect (codes "65536") ++ hops) refl refl (λ speaking are. port_65536 name speaking.start are.start),
          (
            speak_row name (connect (codes "1179") ++ next_hop4 ++ next_hop6 ++ codes "--turns" ∷ codes "9223372036854775808" ∷ []) refl refl (many_turns name),
            rows_of_recordings name,
          ),
        ),
      ),
    ),
  ),
)

-- what is known of words that are such a row
pub record NamesNothing (words : List Text) : Type 0 where
  pub passes : fault_of program_words words ≡ []
  pub nothing : (command : Command) → Names (subcommand_of program_words words) command → ⊥

nothing_named : (name : Text) (row : List Text) → IsValueRow name row → NamesNothing (name ∷ row)
nothing_named name row is = record {
  passes = is.passes;
  nothing = is.nothing;
}

pub each_value : (words : List Text) (r : Result Command Error) (name : Text) (kind : ErrorKind) → (NamesNothing words → IsFault kind r)
    → All (λ row. words ≡ name ∷ row → IsFault kind r) value_rows
each_value words r name kind by =
    All-weaker (IsValueRow name) (λ row. words ≡ name ∷ row → IsFault kind r)
    (λ row is same. by (subst NamesNothing (sym same) (nothing_named name row is))) value_rows (all_rows name value_rows (are_rows name))

pub memory_handed : (r : Result Command Error) (e : Error) (kind : ErrorKind) → IsErrAnd r (λ y. y ≡ e) → kind_of e ≡ OutOfMemory → IsFault kind r
memory_handed (Ok x) e kind is memory = absurd is
memory_handed (Err y) e kind is memory = inr (subst (λ (z : Error). kind_of z ≡ OutOfMemory) (sym is) memory)
