use Rattle.bgp_open.proofs.OneReading as lemmas
use Rattle.bgp_open.proofs.laws.one_reading.Goals as goal

pub returns : goal.returns
returns c = record { reads = lemmas.reads; once = lemmas.one_split; reads_back = lemmas.reads_back; whole = lemmas.is_whole-triplet_octets }
