use Rattle.std.proofs.Common.{refl, subst, codes}
use Rattle.clap.specs.Words.{found_of, rows_of}
use Rattle.bgp_words.specs.Spelled.{Names, NamesDecode, NamesJudge}
use Rattle.bgp_words.proofs.NamedCommand.{met_command, none_checked, none_decoded, none_imported, none_judged, none_listed, none_spoken}
use Rattle.bgp_words.proofs.words.named.Goals as goal

pub returns-in-Some-subcommand_matches-4-clause-none : goal.returns-in-Some-subcommand_matches-4-clause-none
returns-in-Some-subcommand_matches-4-clause-none c err command names =
    let met = c.in-Some-subcommand_matches-4 in
    let rows = rows_of (found_of met.check.now) in
    none_checked rows (c.check_of.ensures.err err) command
    (subst (λ used. Names used command) (met_command _ _ _ (codes "check") rows (met.ensures.found.0 refl) met.ensures.rows) names)

pub returns-in-Some-subcommand_matches-5-clause-none : goal.returns-in-Some-subcommand_matches-5-clause-none
returns-in-Some-subcommand_matches-5-clause-none c err command names =
    let met = c.in-Some-subcommand_matches-5 in
    let rows = rows_of (found_of met.speak.now) in
    none_spoken rows (c.speak_of.ensures.err err) command
    (subst (λ used. Names used command) (met_command _ _ _ (codes "speak") rows (met.ensures.found.0 refl) met.ensures.rows) names)

pub returns-in-Some-subcommand_matches-2-clause-none : goal.returns-in-Some-subcommand_matches-2-clause-none
returns-in-Some-subcommand_matches-2-clause-none c err command names =
    let met = c.in-Some-subcommand_matches-2 in
    let rows = rows_of (found_of met.import.now) in
    none_imported rows (c.import_of.ensures.err err) command
    (subst (λ used. Names used command) (met_command _ _ _ (codes "import") rows (met.ensures.found.0 refl) met.ensures.rows) names)

pub returns-in-Some-subcommand_matches-3-clause-none : goal.returns-in-Some-subcommand_matches-3-clause-none
returns-in-Some-subcommand_matches-3-clause-none c err command names =
    let met = c.in-Some-subcommand_matches-3 in
    let rows = rows_of (found_of met.list.now) in
    none_listed rows (c.list_of.ensures.err err) command
    (subst (λ used. Names used command) (met_command _ _ _ (codes "list") rows (met.ensures.found.0 refl) met.ensures.rows) names)

pub returns-in-Some-clause-none : goal.returns-in-Some-clause-none
returns-in-Some-clause-none c err command names =
    let met = c.in-Some in
    let rows = rows_of (found_of met.decode.now) in
    none_decoded rows (c.decode_of.ensures.no_stream err) (c.decode_of.ensures.no_capture err) command
    (subst (λ used. Names used command) (met_command _ _ _ (codes "decode") rows (met.ensures.found.0 refl) met.ensures.rows) names)

pub returns-in-Some-clause-no_stream : goal.returns-in-Some-clause-no_stream
returns-in-Some-clause-no_stream c err form extended file names =
    let met = c.in-Some in
    let rows = rows_of (found_of met.decode.now) in
    c.decode_of.ensures.no_stream err form extended file
    (subst (NamesDecode form extended file) (met_command _ _ _ (codes "decode") rows (met.ensures.found.0 refl) met.ensures.rows) names).1

pub returns-in-Some-subcommand_matches-clause-no_judge : goal.returns-in-Some-subcommand_matches-clause-no_judge
returns-in-Some-subcommand_matches-clause-no_judge c err config recording reporting file names =
    let met = c.in-Some-subcommand_matches in
    let rows = rows_of (found_of met.judge.now) in
    c.judge_of.ensures.err err config recording reporting file
    (subst (NamesJudge config recording reporting file) (met_command _ _ _ (codes "judge") rows (met.ensures.found.0 refl) met.ensures.rows) names).1

pub returns-in-Some-subcommand_matches-clause-none : goal.returns-in-Some-subcommand_matches-clause-none
returns-in-Some-subcommand_matches-clause-none c err command names =
    let met = c.in-Some-subcommand_matches in
    let rows = rows_of (found_of met.judge.now) in
    none_judged rows (c.judge_of.ensures.err err) command
    (subst (λ used. Names used command) (met_command _ _ _ (codes "judge") rows (met.ensures.found.0 refl) met.ensures.rows) names)
