use Rattle.clap.specs.Words.{found_of, rows_of, first_of}
use Rattle.bgp_words.specs.Values.{HasBitsAfter}
use Rattle.bgp_words.proofs.FoundValues.{met_none, met_some}
use Rattle.bgp_words.proofs.AfterLength.{absent, there}
use Rattle.bgp_words.proofs.values.is_cleared.Goals as goal

pub returns-in-Some : goal.returns-in-Some
returns-in-Some c =
    there HasBitsAfter (first_of c.args.name.now (rows_of (found_of c.args.matches.now))) c.in-Some.word.now
    (met_some (found_of c.args.matches.now) c.args.name.now c.get_str.result c.get_str.ensures c.in-Some.word c.in-Some.is)
    c.has_bits_after.result c.has_bits_after.ensures

pub returns-in-None : goal.returns-in-None
returns-in-None c =
    absent HasBitsAfter (first_of c.args.name.now (rows_of (found_of c.args.matches.now)))
    (met_none (found_of c.args.matches.now) c.args.name.now c.get_str.result c.get_str.ensures c.in-None.is)
