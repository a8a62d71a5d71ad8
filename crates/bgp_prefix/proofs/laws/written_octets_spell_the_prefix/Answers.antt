use Rattle.bgp_prefix.proofs.OneSpelling.{written_spelling, written_zeros}
use Rattle.bgp_prefix.proofs.OneWriting.{one_writing}
use Rattle.bgp_prefix.proofs.laws.written_octets_spell_the_prefix.Goals as goal

pub returns : goal.returns
returns c = record { spelling = written_spelling; zeros = written_zeros; unique = one_writing }
