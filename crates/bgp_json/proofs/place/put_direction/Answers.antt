use Rattle.bgp_json.proofs.place.put_direction.Goals as goal

pub returns : goal.returns
returns g c = rw c.direction_text.ensures at c.put_text.ensures
