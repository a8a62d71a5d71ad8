use Rattle.std.proofs.Common.{codes, ◌++◌, ◌∷◌, []}
use Rattle.bgp_json_values.proofs.Members.{then_members}
use Rattle.bgp_json.proofs.Tokens.{whole}
use Rattle.mrt.specs.Fault.{fault_name, fault_number}
use Rattle.bgp_json_values.specs.Objects.{number_of}
use Rattle.bgp_json.specs.Others.{refusal_members}
use Rattle.bgp_json.proofs.others.write_capture.Goals as goal

pub returns : goal.returns
returns g c =
    let kind = c.args.fault.kind in
    let refusal = refusal_members (codes "capture") (fault_number kind) (fault_name kind) in
    let at = (codes "at", number_of c.args.fault.offset) ∷ [] in
    let put = rw (c.number.ensures, c.name.ensures) at c.in_ok-put_refusal.ensures in
    whole (codes "refused") (refusal ++ at) c.in_ok-begin.ensures (then_members refusal at put c.in_ok-put_number.ensures) c.end_object.ensures
