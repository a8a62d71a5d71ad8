-- The words that the program's command line may have: those of its commands. How words are read is
-- told by the crate clap, of a program and its commands.
use Rattle.std.specs.Prelude.{ℕ, true, [], ◌∷◌, Some, codes}
use Rattle.clap.specs.Words.{App, Rule, Text, new_app, new_rule, with_rule, with_subcommand}
use Rattle.clap.specs.declared.builder.action.ArgAction.TheVariants.{SetTrue}

-- a file by its name
abbrev pub file_word : Text → Rule
file_word name = record (new_rule name) { required = true }

-- a flag, one that has a letter, too, and an option with a value
abbrev pub flag_word : Text → Rule
flag_word name = record (new_rule name) { long = Some name; action = Some SetTrue }

abbrev pub letter_word : Text → ℕ → Rule
letter_word name letter = record (flag_word name) { short = Some letter }

abbrev pub option_word : Text → Rule
option_word name = record (new_rule name) { long = Some name }

-- an option that has to be given, and one with a value for where it isn't
abbrev pub required_word : Text → Rule
required_word name = record (option_word name) { required = true }

abbrev pub default_word : Text → Text → Rule
default_word name value = record (option_word name) { defaults = value ∷ [] }

-- a command that names a file alone
abbrev pub with_file : Text → App
with_file name = with_rule (new_app name) (file_word (codes "FILE"))

-- the options of the commands that read one session: four that are for recordings alone, and
-- `--skip-refresh`
abbrev pub port_word : Rule
port_word = default_word (codes "port") (codes "179")

abbrev pub within_word : Rule
within_word = default_word (codes "within") (codes "10")

abbrev pub with_recording : App → App
with_recording command =
    with_rule (with_rule (with_rule (with_rule (with_rule command port_word)
    (option_word (codes "local-port"))) (option_word (codes "connection"))) within_word)
    (flag_word (codes "skip-refresh"))

-- `decode FILE`, `decode --mrt --peer A --local A FILE`, each with `--extended` or without, with
-- `--names`, `--json` and `--as2` or without, and with the options of a session that is read
abbrev pub decode_words : App
decode_words =
    with_recording (with_rule (with_rule (with_rule (with_rule (with_rule (with_rule (with_rule
    (with_file (codes "decode"))
    (flag_word (codes "names"))) (flag_word (codes "json"))) (flag_word (codes "as2")))
    (flag_word (codes "mrt"))) (option_word (codes "peer"))) (option_word (codes "local")))
    (flag_word (codes "extended")))

-- the options that tell of a session and its local system: those that have to be given
abbrev pub with_needs : App → App
with_needs command =
    with_rule (with_rule (with_rule (with_rule (with_rule command
    (required_word (codes "local-as"))) (required_word (codes "peer-as")))
    (required_word (codes "local-id"))) (required_word (codes "local")))
    (required_word (codes "peer"))

-- and those that may be
abbrev pub with_choices : App → App
with_choices command =
    with_rule (with_rule (with_rule (with_rule (with_rule (with_rule (with_rule command
    (default_word (codes "hold") (codes "90"))) (default_word (codes "families") (codes "v4")))
    (flag_word (codes "as2"))) (flag_word (codes "delay-open"))) (flag_word (codes "no-refresh")))
    (flag_word (codes "extended"))) (default_word (codes "large-hold") (codes "240"))

-- all of them
abbrev pub with_settings : App → App
with_settings command = with_choices (with_needs command)

-- `judge FILE` with the options that tell of the session, `--offers`, those of one that is read, and
-- `--explain` and `--json` or without
abbrev pub judge_words : App
judge_words =
    with_rule (with_rule (with_recording (with_rule (with_settings (with_file (codes "judge")))
    (option_word (codes "offers")))) (flag_word (codes "explain"))) (flag_word (codes "json"))

-- `import --local A --peer A FILE OUT`, with `--extended` or without, and with the options of a
-- session that is read
abbrev pub import_words : App
import_words =
    with_recording (with_rule (with_rule (with_rule (with_rule (with_file (codes "import"))
    (file_word (codes "OUT"))) (required_word (codes "local"))) (required_word (codes "peer")))
    (flag_word (codes "extended")))

-- `list FILE`, with the port and the wish for JSON or without
abbrev pub list_words : App
list_words = with_rule (with_rule (with_file (codes "list")) port_word) (flag_word (codes "json"))

-- `check FILE`, with the port, the patience, and the wishes for routes, settings, JSON and HTML and
-- that what is well be left out (by its letter `q`, too), or without
abbrev pub check_words : App
check_words =
    with_rule (with_rule (with_rule (with_rule (with_rule (with_rule (with_rule
    (with_file (codes "check"))
    port_word) within_word) (flag_word (codes "routes"))) (flag_word (codes "settings")))
    (letter_word (codes "quiet") 113)) (flag_word (codes "json"))) (flag_word (codes "html"))

-- the options of `speak` that `judge` hasn't
abbrev pub with_speaking : App → App
with_speaking command =
    with_rule (with_rule (with_rule (with_rule (with_rule (with_rule (with_rule command
    (option_word (codes "connect"))) (option_word (codes "listen")))
    (required_word (codes "next-hop"))) (required_word (codes "next-hop6")))
    (option_word (codes "announce"))) (default_word (codes "turns") (codes "100")))
    (flag_word (codes "quiet"))

-- `speak FILE` with both
abbrev pub speak_words : App
speak_words = with_speaking (with_settings (with_file (codes "speak")))

-- `pair FILE`
abbrev pub pair_words : App
pair_words = with_file (codes "pair")

-- the commands that read a file
abbrev pub with_readers : App → App
with_readers program =
    with_subcommand (with_subcommand (with_subcommand (with_subcommand (with_subcommand program
    decode_words.top) judge_words.top) import_words.top) list_words.top) check_words.top

-- the commands that speak
abbrev pub with_speakers : App → App
with_speakers program = with_subcommand (with_subcommand program speak_words.top) pair_words.top

-- the program: it has a version, and one of its commands is wanted
abbrev pub program_words : App
program_words =
    let name = new_app (codes "bgp") in
    let top = record name.top { has_version = true; subcommand_required = true } in
    with_speakers (with_readers (record name { top = top }))
