use Rattle.clap.specs.Words.{found_of}
use Rattle.bgp_words.proofs.FoundValues.{met_none, met_some}
use Rattle.bgp_words.proofs.values.value_of.Goals as goal

pub returns-in-Some-clause-ok : goal.returns-in-Some-clause-ok
returns-in-Some-clause-ok c =
    met_some (found_of c.args.matches.now) c.args.name.now c.get_str.result c.get_str.ensures c.in-Some.word c.in-Some.is

pub returns-in-None-clause-err : goal.returns-in-None-clause-err
returns-in-None-clause-err c none =
    met_none (found_of c.args.matches.now) c.args.name.now c.get_str.result c.get_str.ensures c.in-None.is
