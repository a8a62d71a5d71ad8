use Rattle.clap.specs.Words.{found_of, rows_of}
use Rattle.bgp_words.specs.Values.{IsPortText}
use Rattle.bgp_words.proofs.FoundValues.{left_out, met_none, met_some, none_given, one_given}
use Rattle.bgp_words.proofs.values.optional_port_of.Goals as goal

pub returns-in_default : goal.returns-in_default
returns-in_default c =
    left_out IsPortText c.args.name.now (rows_of (found_of c.args.matches.now))
    (met_none (found_of c.args.matches.now) c.args.name.now c.get_str.result c.get_str.ensures c.in_default.is)

pub returns-in-Some-read_port : goal.returns-in-Some-read_port
returns-in-Some-read_port c =
    one_given IsPortText c.args.name.now (rows_of (found_of c.args.matches.now)) c.in-Some.word.now
    (met_some (found_of c.args.matches.now) c.args.name.now c.get_str.result c.get_str.ensures c.in-Some.word c.in-Some.is)
    c.read_port.result c.read_port.ensures c.in-Some-read_port.port c.in-Some-read_port.is

pub returns-in-None : goal.returns-in-None
returns-in-None c =
    none_given IsPortText c.args.name.now (rows_of (found_of c.args.matches.now)) c.in-Some.word.now
    (met_some (found_of c.args.matches.now) c.args.name.now c.get_str.result c.get_str.ensures c.in-Some.word c.in-Some.is)
    c.read_port.result c.read_port.ensures c.in-None.is
