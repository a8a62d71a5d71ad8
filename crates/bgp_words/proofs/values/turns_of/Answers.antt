use Rattle.clap.specs.Words.{found_of, rows_of}
use Rattle.bgp_words.specs.Values.{IsTurnsText}
use Rattle.bgp_words.proofs.FoundValues.{value_read}
use Rattle.bgp_words.proofs.values.turns_of.Goals as goal

pub returns : goal.returns
returns c =
    value_read IsTurnsText c.args.name.now (rows_of (found_of c.args.matches.now)) c.in_ok-word.word.now c.in_ok-word.ensures.ok c.read_turns.result
    c.read_turns.ensures _ c.ok_or.result c.ok_or.ensures.value
