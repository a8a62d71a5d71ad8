use Rattle.std.proofs.Common.{◌≡◌, ◌∙◌, [], ◌∷◌, Ok, Err, map, refl, sym, ap, subst, inl, false}
use Rattle.clap.specs.Words.{App, Kinds, IsAmong, HasKind, fault_of, is_simple, is_simple_and_free, kind_of, subcommand_of, subcommand_rows_of}
use Rattle.clap.specs.Kinds.{or_else}
use Rattle.clap.specs.declared.error.kind.ErrorKind.TheVariants.{ValueValidation}
use Rattle.bgp_json.specs.declared.output_form.OutputForm.TheVariants.{Text as AsText}
use Rattle.bgp_lines.specs.declared.form.LineForm.TheVariants.{Plain}
use Rattle.bgp_words.specs.Words.{program_words}
use Rattle.bgp_words.specs.Recording.{usual_recording}
use Rattle.bgp_words.specs.Spelled.{Names, NamesDecode, NamesJudge}
use Rattle.bgp_words.proofs.HandedOn.{handed_on, memory_handed_on, known_kind, only_memory, unspelled_handed_on, memory_is_unspelled, judge_memory_handed_on}
use Rattle.bgp_words.proofs.JudgeLine.{judge_of_line, names_judge, spelled_right, told}
use Rattle.bgp_words.proofs.NamedCommand.{can_import, can_speak, one_file}
use Rattle.bgp_words.proofs.SpelledDecode.{spelled_decode}
use Rattle.bgp_words.proofs.ValueRows.{each_value, memory_handed}
use Rattle.bgp_words.proofs.FaultRows.{each_row, fault_handed_on, memory_is_fault, no_row}
use Rattle.bgp_words.proofs.words.command_line.Goals as goal

pub returns-in_err-matches-clause-err : goal.returns-in_err-matches-clause-err
returns-in_err-matches-clause-err g c =
    let words = map g.S.AsStr.text c.args.words.now in
    let error = c.in_err-matches.field-0.0 in
    let has = c.in_err-matches.ensures.kinds in
    handed_on c.from_residual.result error _ c.from_residual.ensures.1
    (known_kind (fault_of program_words words) (ValueValidation ∷ []) error has)

pub returns-in_err-matches-clause-decode : goal.returns-in_err-matches-clause-decode
returns-in_err-matches-clause-decode g c file is =
    let words = map g.S.AsStr.text c.args.words.now in
    let error = c.in_err-matches.field-0.0 in
    let has = c.in_err-matches.ensures.kinds in
    memory_handed_on c.from_residual.result error file c.from_residual.ensures.1
    (only_memory (fault_of program_words words) error has (spelled_decode words file is).0)

pub returns-in-Ok-clause-ok : goal.returns-in-Ok-clause-ok
returns-in-Ok-clause-ok g c =
    let words = map g.S.AsStr.text c.args.words.now in
    let subs = (c.in_ok-matches.ensures.matches refl).1 in (
      c.in_ok-matches.ensures.kinds,
      subst (λ used. Names used c.in-Ok.command) subs c.in-Ok.ensures.ok,
    )

pub returns-in-Ok-clause-decode : goal.returns-in-Ok-clause-decode
returns-in-Ok-clause-decode g c file is =
    let words = map g.S.AsStr.text c.args.words.now in
    let subs = (c.in_ok-matches.ensures.matches refl).1 in
    one_file (subcommand_of program_words words) file c.in-Ok.command (spelled_decode words file is).1
    (subst (λ used. Names used c.in-Ok.command) subs c.in-Ok.ensures.ok)

pub returns-clause-err : goal.returns-clause-err
returns-clause-err g c other =
    let words = map g.S.AsStr.text c.args.words.now in
    let error = c.in_ok-usage-in-Err.field-0 in
    let none = c.in_ok-matches.ensures.kinds in
    subst (λ (kinds : Kinds). IsAmong (kind_of error) (or_else kinds (ValueValidation ∷ []))) (sym none)
    (inl c.in_ok-usage-in-Err.ensures)

pub returns-clause-decode : goal.returns-clause-decode
returns-clause-decode g c file is =
    let words = map g.S.AsStr.text c.args.words.now in
    let subs = (c.in_ok-matches.ensures.matches refl).1 in
    absurd (c.in-Err.ensures.no_stream refl (AsText Plain) false file (subst (NamesDecode (AsText Plain) false file) (sym subs) (spelled_decode words file is).1))

pub returns-clause-none : goal.returns-clause-none
returns-clause-none g c other command spelled =
    let words = map g.S.AsStr.text c.args.words.now in
    let subs = (c.in_ok-matches.ensures.matches refl).1 in
    c.in-Err.ensures.none refl command (subst (λ used. Names used command) (sym subs) spelled.1)

pub returns-in_err-matches-clause-rows : goal.returns-in_err-matches-clause-rows
returns-in_err-matches-clause-rows g c name =
    let words = map g.S.AsStr.text c.args.words.now in
    let error = c.in_err-matches.field-0.0 in
    let has = c.in_err-matches.ensures.kinds in
    let r = c.from_residual.result in
    each_row words r name (λ kind one.
    fault_handed_on r error (fault_of program_words words) kind c.from_residual.ensures.1 has one)

pub returns-in-Ok-clause-rows : goal.returns-in-Ok-clause-rows
returns-in-Ok-clause-rows g c name =
    let words = map g.S.AsStr.text c.args.words.now in
    let none = c.in_ok-matches.ensures.kinds in
    each_row words (Ok c.in-Ok.command) name (λ kind one. no_row (fault_of program_words words) kind (Ok c.in-Ok.command) none one)

pub returns-clause-rows : goal.returns-clause-rows
returns-clause-rows g c name =
    let words = map g.S.AsStr.text c.args.words.now in
    let none = c.in_ok-matches.ensures.kinds in
    each_row words (Err c.in_ok-usage-in-Err.field-0) name (λ kind one. no_row (fault_of program_words words) kind (Err c.in_ok-usage-in-Err.field-0) none one)

pub returns-in_err-matches-clause-none : goal.returns-in_err-matches-clause-none
returns-in_err-matches-clause-none g c =
    let words = map g.S.AsStr.text c.args.words.now in
    let error = c.in_err-matches.field-0.0 in
    let has = c.in_err-matches.ensures.kinds in
    unspelled_handed_on c.from_residual.result error words c.from_residual.ensures.1
    (only_memory (fault_of program_words words) error has)

pub returns-in_err-usage-in-Err-clause-none : goal.returns-in_err-usage-in-Err-clause-none
returns-in_err-usage-in-Err-clause-none g c =
    memory_is_unspelled c.from_residual-in_err-usage-in-Err.result (map g.S.AsStr.text c.args.words.now) c.from_residual-in_err-usage-in-Err.ensures.1

pub returns-in_err-matches-clause-judge : goal.returns-in_err-matches-clause-judge
returns-in_err-matches-clause-judge g c config file line =
    let words = map g.S.AsStr.text c.args.words.now in
    let error = c.in_err-matches.field-0.0 in
    let has = c.in_err-matches.ensures.kinds in
    judge_memory_handed_on c.from_residual.result error words c.from_residual.ensures.1
    (only_memory (fault_of program_words words) error has (spelled_right words config.parts file line))

pub returns-in-Ok-clause-judge : goal.returns-in-Ok-clause-judge
returns-in-Ok-clause-judge g c config file line =
    let words = map g.S.AsStr.text c.args.words.now in
    let subs = (c.in_ok-matches.ensures.matches refl).1 in
    judge_of_line words config.parts file line c.in-Ok.command (subst (λ used. Names used c.in-Ok.command) subs c.in-Ok.ensures.ok)

pub returns-clause-judge : goal.returns-clause-judge
returns-clause-judge g c config file line =
    let words = map g.S.AsStr.text c.args.words.now in
    let subs = (c.in_ok-matches.ensures.matches refl).1 in
    absurd (c.in-Err.ensures.no_judge refl config usual_recording (told false false) file (subst (NamesJudge config usual_recording (told false false) file) (sym subs) (names_judge words config file line)))

pub returns-in-Ok-clause-speakable : goal.returns-in-Ok-clause-speakable
returns-in-Ok-clause-speakable g c = can_speak (subcommand_rows_of c.in_ok-matches.matches) c.in-Ok.command c.in-Ok.ensures.ok

pub returns-in_err-matches-clause-values : goal.returns-in_err-matches-clause-values
returns-in_err-matches-clause-values g c name =
    let words = map g.S.AsStr.text c.args.words.now in
    let error = c.in_err-matches.field-0.0 in
    let has = c.in_err-matches.ensures.kinds in
    let r = c.from_residual.result in
    each_value words r name ValueValidation (λ none.
    memory_handed r error ValueValidation c.from_residual.ensures.1 (only_memory (fault_of program_words words) error has none.passes))

pub returns-in-Ok-clause-values : goal.returns-in-Ok-clause-values
returns-in-Ok-clause-values g c name =
    let words = map g.S.AsStr.text c.args.words.now in
    let subs = (c.in_ok-matches.ensures.matches refl).1 in
    each_value words (Ok c.in-Ok.command) name ValueValidation (λ none.
    absurd (none.nothing c.in-Ok.command (subst (λ used. Names used c.in-Ok.command) subs c.in-Ok.ensures.ok)))

pub returns-in_err-usage-in-Err-clause-values : goal.returns-in_err-usage-in-Err-clause-values
returns-in_err-usage-in-Err-clause-values g c name =
    let r = c.from_residual-in_err-usage-in-Err.result in
    each_value (map g.S.AsStr.text c.args.words.now) r name ValueValidation (λ none. memory_is_fault r ValueValidation c.from_residual-in_err-usage-in-Err.ensures.1)

pub returns-clause-values : goal.returns-clause-values
returns-clause-values g c name =
    each_value (map g.S.AsStr.text c.args.words.now) (Err c.in_ok-usage-in-Err.field-0) name ValueValidation (λ none. inl c.in_ok-usage-in-Err.ensures)

pub returns-in-Ok-clause-importable : goal.returns-in-Ok-clause-importable
returns-in-Ok-clause-importable g c = can_import (subcommand_rows_of c.in_ok-matches.matches) c.in-Ok.command c.in-Ok.ensures.ok
