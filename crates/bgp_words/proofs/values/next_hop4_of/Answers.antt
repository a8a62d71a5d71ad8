use Rattle.clap.specs.Words.{found_of, rows_of}
use Rattle.bgp_words.specs.Values.{IsNextHop4Text}
use Rattle.bgp_words.proofs.FoundValues.{value_read}
use Rattle.bgp_words.proofs.values.next_hop4_of.Goals as goal

pub returns : goal.returns
returns c =
    value_read IsNextHop4Text c.args.name.now (rows_of (found_of c.args.matches.now)) c.in_ok-word.word.now c.in_ok-word.ensures.ok c.read_next_hop4.result
    c.read_next_hop4.ensures _ c.ok_or.result c.ok_or.ensures.value
