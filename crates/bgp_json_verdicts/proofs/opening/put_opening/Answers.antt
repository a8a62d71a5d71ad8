use Rattle.std.proofs.Common.{codes, ◌++◌}
use Rattle.bgp_import.specs.ListText.{end_of, other_side}
use Rattle.bgp_json_values.specs.Times.{time_members}
use Rattle.bgp_json_values.proofs.Chains.{then}
use Rattle.bgp_json_values.proofs.Members.{then_members}
use Rattle.bgp_json_verdicts.specs.Objects.{end_at}
use Rattle.bgp_json_verdicts.proofs.opening.put_opening.Goals as goal

pub returns : goal.returns
returns g c =
    let opening = c.args.opening in
    let opener = opening.opened_by in
    let from = end_at (codes "from") (codes "from_port") (end_of opener c.args.session.now opening) in
    let to = end_at (codes "to") (codes "to_port") (end_of (other_side opener) c.args.session.now opening) in
    let put_from = rw c.end_of-from.ensures at c.in_ok-put_end.ensures in
    let put_to = rw (c.end_of-to.ensures, c.other_side.ensures) at c.in_ok-put_end-2.ensures in
    then c.in_ok-put_number.ensures
    (then_members from (to ++ time_members opening.second opening.micro) put_from (then_members to (time_members opening.second opening.micro) put_to c.put_time.ensures))
