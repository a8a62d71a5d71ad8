use Rattle.clap.specs.Words.{found_of, rows_of}
use Rattle.bgp_words.specs.Values.{IsSecondsText}
use Rattle.bgp_words.proofs.FoundValues.{value_read}
use Rattle.bgp_words.proofs.values.seconds_of.Goals as goal

pub returns : goal.returns
returns c =
    value_read IsSecondsText c.args.name.now (rows_of (found_of c.args.matches.now)) c.in_ok-word.word.now c.in_ok-word.ensures.ok c.read_seconds.result
    c.read_seconds.ensures _ c.ok_or.result c.ok_or.ensures.value
