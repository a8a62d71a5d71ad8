-- The command that a parse met, by its name and its values.
use Rattle.std.proofs.Common.{◌≡◌, refl, ◌∙◌, ℕ, ◌<◌, ◌^◌, Bool, List, arith, Option, Some, None, option_map, sym, ap, subst, true, false, codes}
use Rattle.std.specs.Prelude.{IsSomeAnd, slice_get, unwrap_or}
use Rattle.std.proofs.lemmas.Option.{none-some, same_Some}
use Rattle.clap.specs.Words.{Row, Text, first_of}
use Rattle.bgp_words.specs.Decode.{IsCapture, IsForm, IsStream, IsDecodeOf}
use Rattle.bgp_words.specs.Judge.{IsJudge}
use Rattle.bgp_words.specs.Values.{IsTurnsText}
use Rattle.bgp_words.specs.Import.{CanImport, IsChecking, IsImport, IsListing}
use Rattle.bgp_words.specs.declared.check.Checking.{Checking}
use Rattle.bgp_words.specs.Speak.{CanSpeak, IsSpeak}
use Rattle.bgp_import.specs.declared.options.RecordingOptions.{RecordingOptions}
use Rattle.bgp_talk.specs.declared.options.Speaking.{Speaking}
use Rattle.bgp_prefix.specs.declared.session.Session.{Session}
use Rattle.bgp_json.specs.declared.output_form.OutputForm.{OutputForm}
use Rattle.bgp_json.specs.declared.output_form.OutputForm.TheVariants.{Text as AsText, Json}
use Rattle.bgp_lines.specs.declared.form.LineForm.TheVariants.{Plain, Names as InWords}
use Rattle.bgp_open.specs.declared.config.Config.{Config}
use Rattle.bgp_words.specs.Spelled.{Names, NamesBy, NamesDecode}
use Rattle.bgp_words.specs.declared.judge.Reporting.{Reporting}
use Rattle.bgp_words.specs.declared.words.Command.{Command}
use Rattle.bgp_words.specs.declared.words.Command.TheVariants.{Decode, Capture, Judge, Import, List as Listing, Check, Speak, Pair}

-- names that begin differently are two
abbrev first : Text → ℕ
first name = unwrap_or (slice_get name 0) 0

pub two_names : (a b : Text) → (first a ≡ first b → ⊥) → a ≡ b → ⊥
two_names a b other same = other (ap first same)

-- one form
same_form : (rows : List Row) (form : OutputForm) → IsForm (AsText Plain) rows → IsForm form rows → form ≡ AsText Plain
same_form rows (AsText Plain) is also = refl
same_form rows (AsText (InWords as2)) is also = let bad : false ≡ true = sym is.0 ∙ also.0 in absurd (cc)
same_form rows (Json as2) is also = let bad : false ≡ true = sym is.1 ∙ also.1 in absurd (cc)

-- one file is read
of_decode : (rows : List Row) (file : Text) (command : Command) → IsStream (AsText Plain) false file rows → NamesBy (codes "decode") rows command
    → IsDecodeOf file command
of_decode rows file (Decode form extended name) is also =
    let (here, _mrt, _peer, _local, _all, plain, numbers) = is in
    let (there, _mrt, _peer, _local, _all, long, written) = also.1 in
    (same_form rows form numbers written, long ∙ sym plain, same_Some _ _ (sym there ∙ here))
of_decode rows file (Capture form session recording name) is also =
    let (_file, not_mrt, _peer, _local, _all, _plain, _form) = is in
    let (_file, mrt, _peer, _local, _refresh, _long, _recording, _form) = also.1 in
    let bad : false ≡ true = sym not_mrt ∙ mrt in absurd (cc)
of_decode rows file (Judge config recording reporting name) is also = absurd (two_names (codes "decode") (codes "judge") (λ e. omega (arith, e)) also.0)
of_decode rows file (Import session recording name out) is also = absurd (two_names (codes "decode") (codes "import") (λ e. omega (arith, e)) also.0)
of_decode rows file (Listing port json name) is also = absurd (two_names (codes "decode") (codes "list") (λ e. omega (arith, e)) also.0)
of_decode rows file (Check checking name) is also = absurd (two_names (codes "decode") (codes "check") (λ e. omega (arith, e)) also.0)
of_decode rows file (Speak config speaking name) is also = absurd (two_names (codes "decode") (codes "speak") (λ e. omega (arith, e)) also.0)
of_decode rows file (Pair name) is also = absurd (two_names (codes "decode") (codes "pair") (λ e. omega (arith, e)) also.0)

pub one_file : (used : Option (Text × List Row)) (file : Text) (command : Command)
    → NamesDecode (AsText Plain) false file used → Names used command → IsDecodeOf file command
one_file None file command first second = absurd first
one_file (Some p) file command first second =
    of_decode p.1 file command first.1 (subst (λ (name : Text). NamesBy name p.1 command) first.0 second)

-- where the values of `decode` are none, no command is spelled
pub none_decoded : (rows : List Row) → ((form : OutputForm) (extended : Bool) (file : Text) → IsStream form extended file rows → ⊥)
    → ((form : OutputForm) (session : Session) (recording : RecordingOptions) (file : Text) → IsCapture form session recording file rows → ⊥)
    → (command : Command) → NamesBy (codes "decode") rows command → ⊥
none_decoded rows stream capture (Decode form extended file) is = stream form extended file.now is.1
none_decoded rows stream capture (Capture form session recording file) is = capture form session recording file.now is.1
none_decoded rows stream capture (Judge config recording reporting file) is = two_names (codes "decode") (codes "judge") (λ e. omega (arith, e)) is.0
none_decoded rows stream capture (Import session recording file out) is = two_names (codes "decode") (codes "import") (λ e. omega (arith, e)) is.0
none_decoded rows stream capture (Listing port json file) is = two_names (codes "decode") (codes "list") (λ e. omega (arith, e)) is.0
none_decoded rows stream capture (Check checking file) is = two_names (codes "decode") (codes "check") (λ e. omega (arith, e)) is.0
none_decoded rows stream capture (Speak config speaking file) is = two_names (codes "decode") (codes "speak") (λ e. omega (arith, e)) is.0
none_decoded rows stream capture (Pair file) is = two_names (codes "decode") (codes "pair") (λ e. omega (arith, e)) is.0

-- the same of `judge`
pub none_judged : (rows : List Row) → ((config : Config) (recording : RecordingOptions) (reporting : Reporting) (file : Text) → IsJudge config recording reporting file rows → ⊥)
    → (command : Command) → NamesBy (codes "judge") rows command → ⊥
none_judged rows none (Decode form extended file) is = two_names (codes "judge") (codes "decode") (λ e. omega (arith, e)) is.0
none_judged rows none (Capture form session recording file) is = two_names (codes "judge") (codes "decode") (λ e. omega (arith, e)) is.0
none_judged rows none (Judge config recording reporting file) is = none config recording reporting file.now is.1
none_judged rows none (Import session recording file out) is = two_names (codes "judge") (codes "import") (λ e. omega (arith, e)) is.0
none_judged rows none (Listing port json file) is = two_names (codes "judge") (codes "list") (λ e. omega (arith, e)) is.0
none_judged rows none (Check checking file) is = two_names (codes "judge") (codes "check") (λ e. omega (arith, e)) is.0
none_judged rows none (Speak config speaking file) is = two_names (codes "judge") (codes "speak") (λ e. omega (arith, e)) is.0
none_judged rows none (Pair file) is = two_names (codes "judge") (codes "pair") (λ e. omega (arith, e)) is.0

-- of `speak`
pub none_spoken : (rows : List Row) → ((config : Config) (speaking : Speaking) (file : Text) → IsSpeak config speaking file rows → ⊥)
    → (command : Command) → NamesBy (codes "speak") rows command → ⊥
none_spoken rows none (Decode form extended file) is = two_names (codes "speak") (codes "decode") (λ e. omega (arith, e)) is.0
none_spoken rows none (Capture form session recording file) is = two_names (codes "speak") (codes "decode") (λ e. omega (arith, e)) is.0
none_spoken rows none (Judge config recording reporting file) is = two_names (codes "speak") (codes "judge") (λ e. omega (arith, e)) is.0
none_spoken rows none (Import session recording file out) is = two_names (codes "speak") (codes "import") (λ e. omega (arith, e)) is.0
none_spoken rows none (Listing port json file) is = two_names (codes "speak") (codes "list") (λ e. omega (arith, e)) is.0
none_spoken rows none (Check checking file) is = two_names (codes "speak") (codes "check") (λ e. omega (arith, e)) is.0
none_spoken rows none (Speak config speaking file) is = none config speaking file.now is.1
none_spoken rows none (Pair file) is = two_names (codes "speak") (codes "pair") (λ e. omega (arith, e)) is.0

-- of `import`
pub none_imported : (rows : List Row) → ((session : Session) (recording : RecordingOptions) (file out : Text) → IsImport session recording file out rows → ⊥)
    → (command : Command) → NamesBy (codes "import") rows command → ⊥
none_imported rows none (Decode form extended file) is = two_names (codes "import") (codes "decode") (λ e. omega (arith, e)) is.0
none_imported rows none (Capture form session recording file) is = two_names (codes "import") (codes "decode") (λ e. omega (arith, e)) is.0
none_imported rows none (Judge config recording reporting file) is = two_names (codes "import") (codes "judge") (λ e. omega (arith, e)) is.0
none_imported rows none (Import session recording file out) is = none session recording file.now out.now is.1
none_imported rows none (Listing port json file) is = two_names (codes "import") (codes "list") (λ e. omega (arith, e)) is.0
none_imported rows none (Check checking file) is = two_names (codes "import") (codes "check") (λ e. omega (arith, e)) is.0
none_imported rows none (Speak config speaking file) is = two_names (codes "import") (codes "speak") (λ e. omega (arith, e)) is.0
none_imported rows none (Pair file) is = two_names (codes "import") (codes "pair") (λ e. omega (arith, e)) is.0

-- and of `list`
pub none_listed : (rows : List Row) → ((port : ℕ) (json : Bool) (file : Text) → IsListing port json file rows → ⊥)
    → (command : Command) → NamesBy (codes "list") rows command → ⊥
none_listed rows none (Decode form extended file) is = two_names (codes "list") (codes "decode") (λ e. omega (arith, e)) is.0
none_listed rows none (Capture form session recording file) is = two_names (codes "list") (codes "decode") (λ e. omega (arith, e)) is.0
none_listed rows none (Judge config recording reporting file) is = two_names (codes "list") (codes "judge") (λ e. omega (arith, e)) is.0
none_listed rows none (Import session recording file out) is = two_names (codes "list") (codes "import") (λ e. omega (arith, e)) is.0
none_listed rows none (Listing port json file) is = none port json file.now is.1
none_listed rows none (Check checking file) is = two_names (codes "list") (codes "check") (λ e. omega (arith, e)) is.0
none_listed rows none (Speak config speaking file) is = two_names (codes "list") (codes "speak") (λ e. omega (arith, e)) is.0
none_listed rows none (Pair file) is = two_names (codes "list") (codes "pair") (λ e. omega (arith, e)) is.0

-- and of `check`
pub none_checked : (rows : List Row) → ((checking : Checking) (file : Text) → IsChecking checking file rows → ⊥)
    → (command : Command) → NamesBy (codes "check") rows command → ⊥
none_checked rows none (Decode form extended file) is = two_names (codes "check") (codes "decode") (λ e. omega (arith, e)) is.0
none_checked rows none (Capture form session recording file) is = two_names (codes "check") (codes "decode") (λ e. omega (arith, e)) is.0
none_checked rows none (Judge config recording reporting file) is = two_names (codes "check") (codes "judge") (λ e. omega (arith, e)) is.0
none_checked rows none (Import session recording file out) is = two_names (codes "check") (codes "import") (λ e. omega (arith, e)) is.0
none_checked rows none (Listing port json file) is = two_names (codes "check") (codes "list") (λ e. omega (arith, e)) is.0
none_checked rows none (Check checking file) is = none checking file.now is.1
none_checked rows none (Speak config speaking file) is = two_names (codes "check") (codes "speak") (λ e. omega (arith, e)) is.0
none_checked rows none (Pair file) is = two_names (codes "check") (codes "pair") (λ e. omega (arith, e)) is.0

-- the command that was met, by its name and its rows
pub met_command : {X : Type 0} (name_in : X → Text) (rows_in : X → List Row) (o : Option X) (name : Text) (rows : List Row)
    → option_map {T = X} {U = Text} name_in o ≡ Some name
    → option_map {T = Text × List Row} {U = List Row} (λ p. p.1) (option_map {T = X} {U = Text × List Row} (λ x. (name_in x, rows_in x)) o) ≡ Some rows
    → option_map {T = X} {U = Text × List Row} (λ x. (name_in x, rows_in x)) o ≡ Some (name, rows)
met_command name_in rows_in None name rows named values = absurd (none-some _ named)
met_command name_in rows_in (Some x) name rows named values = λ i. Some (same_Some _ _ named i, same_Some _ _ values i)

-- what speaks can do so
few_turns : (o : Option Text) (turns : ℕ) → IsSomeAnd o (λ text. IsTurnsText text turns) → turns < 2 ^ 63
few_turns None turns is = absurd is
few_turns (Some word) turns is = is.1

can_by : (p : Text × List Row) (command : Command) → Names (Some p) command → CanSpeak command
can_by p (Decode form extended file) is = tt
can_by p (Capture form session recording file) is = tt
can_by p (Judge config recording reporting file) is = tt
can_by p (Import session recording file out) is = tt
can_by p (Listing port json file) is = tt
can_by p (Check checking file) is = tt
can_by p (Speak config speaking file) is = (is.1.1, few_turns (first_of (codes "turns") p.1) speaking.turns is.1.2.turns)
can_by p (Pair file) is = tt

pub can_speak : (used : Option (Text × List Row)) (command : Command) → Names used command → CanSpeak command
can_speak None command is = absurd is
can_speak (Some p) command is = can_by p command is

-- what imports can do so
can_import_by : (p : Text × List Row) (command : Command) → Names (Some p) command → CanImport command
can_import_by p (Decode form extended file) is = tt
can_import_by p (Capture form session recording file) is = tt
can_import_by p (Judge config recording reporting file) is = tt
can_import_by p (Import session recording file out) is = (is.1.1, is.1.3)
can_import_by p (Listing port json file) is = tt
can_import_by p (Check checking file) is = tt
can_import_by p (Speak config speaking file) is = tt
can_import_by p (Pair file) is = tt

pub can_import : (used : Option (Text × List Row)) (command : Command) → Names used command → CanImport command
can_import None command is = absurd is
can_import (Some p) command is = can_import_by p command is
