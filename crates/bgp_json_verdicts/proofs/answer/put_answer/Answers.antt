use Rattle.bgp_json_values.proofs.Chains.{then}
use Rattle.bgp_json_verdicts.proofs.answer.put_answer.Goals as goal

pub returns-in_ok-put_text-in-NoAt : goal.returns-in_ok-put_text-in-NoAt
returns-in_ok-put_text-in-NoAt g c = rw c.in-NoAt.is (then c.in_ok-put_text-in-NoAt.ensures c.put_number.ensures)

pub returns-in_ok-put_text-in-NoAtPacket : goal.returns-in_ok-put_text-in-NoAtPacket
returns-in_ok-put_text-in-NoAtPacket g c = rw c.in-NoAtPacket.is (then c.in_ok-put_text-in-NoAtPacket.ensures c.put_number-in-NoAtPacket.ensures)

pub returns-in-Unfinished : goal.returns-in-Unfinished
returns-in-Unfinished g c = rw c.in-Unfinished.is c.put_text-in-Unfinished.ensures
