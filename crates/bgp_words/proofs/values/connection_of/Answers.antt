use Rattle.clap.specs.Words.{found_of, rows_of}
use Rattle.bgp_words.specs.Values.{IsPositiveText}
use Rattle.bgp_words.proofs.FoundValues.{left_out, met_none, met_some, none_given, one_given}
use Rattle.bgp_words.proofs.values.connection_of.Goals as goal

pub returns-in_default : goal.returns-in_default
returns-in_default c =
    left_out IsPositiveText c.args.name.now (rows_of (found_of c.args.matches.now))
    (met_none (found_of c.args.matches.now) c.args.name.now c.get_str.result c.get_str.ensures c.in_default.is)

pub returns-in-Some-read_positive : goal.returns-in-Some-read_positive
returns-in-Some-read_positive c =
    one_given IsPositiveText c.args.name.now (rows_of (found_of c.args.matches.now)) c.in-Some.word.now
    (met_some (found_of c.args.matches.now) c.args.name.now c.get_str.result c.get_str.ensures c.in-Some.word c.in-Some.is)
    c.read_positive.result c.read_positive.ensures c.in-Some-read_positive.number c.in-Some-read_positive.is

pub returns-in-None : goal.returns-in-None
returns-in-None c =
    none_given IsPositiveText c.args.name.now (rows_of (found_of c.args.matches.now)) c.in-Some.word.now
    (met_some (found_of c.args.matches.now) c.args.name.now c.get_str.result c.get_str.ensures c.in-Some.word c.in-Some.is)
    c.read_positive.result c.read_positive.ensures c.in-None.is
