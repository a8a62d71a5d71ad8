use Rattle.bgp_open.proofs.WrittenOpen as lemmas
use Rattle.bgp_open.proofs.laws.written_open_reads_back.Goals as goal

pub returns : goal.returns
returns c fields fits = (lemmas.written_open fields fits, lemmas.reads_as fields fits, lemmas.one_parameter fields)
