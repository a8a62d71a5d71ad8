use Rattle.bgp_json_check.proofs.member.put_member.Goals as goal

pub returns-in-Direction : goal.returns-in-Direction
returns-in-Direction g c = rw c.in-Direction.is (rw c.direction_word.ensures at c.put_text-in-Direction.ensures)
