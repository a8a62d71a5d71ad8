use Rattle.bgp_talk.proofs.MemCalls.{took_what_is_told}
use Rattle.bgp_talk.proofs.laws.a_wire_in_memory_took_what_it_tells.Goals as goal

pub returns : goal.returns
returns c = took_what_is_told
