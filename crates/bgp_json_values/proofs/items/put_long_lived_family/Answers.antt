use Rattle.bgp_json_values.proofs.Chains.{one, then}
use Rattle.bgp_json_values.proofs.items.put_long_lived_family.Goals as goal

pub returns : goal.returns
returns g c =
    let time = rw c.behind.ensures at (rw c.read_u24-time.ensures at (rw c.from.ensures at c.in_ok-put_number.ensures)) in
    then (one c.in_ok-begin_object.ensures) (then c.in_ok-put_family_at.ensures
    (then (rw c.has_bits.ensures at c.in_ok-put_truth.ensures) (then time (one c.end_object.ensures))))
