use Rattle.clap.specs.Words.{found_of, rows_of}
use Rattle.bgp_words.specs.Values.{IsPortText}
use Rattle.bgp_words.proofs.FoundValues.{value_read}
use Rattle.bgp_words.proofs.values.port_of.Goals as goal

pub returns : goal.returns
returns c =
    value_read IsPortText c.args.name.now (rows_of (found_of c.args.matches.now)) c.in_ok-word.word.now c.in_ok-word.ensures.ok c.read_port.result
    c.read_port.ensures _ c.ok_or.result c.ok_or.ensures.value
