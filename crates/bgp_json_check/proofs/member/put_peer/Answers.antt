use Rattle.bgp_json_check.proofs.member.put_peer.Goals as goal

pub returns-in-OtherThan : goal.returns-in-OtherThan
returns-in-OtherThan g c = rw c.in-OtherThan.is (rw c.from-in-OtherThan.ensures at c.put_number-in-OtherThan.ensures)
