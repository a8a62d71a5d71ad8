use Rattle.std.proofs.Common.{◌∷◌, codes}
use Rattle.bgp_json_values.proofs.Chains.{then}
use Rattle.bgp_json_values.proofs.Members.{then_members}
use Rattle.bgp_json_verdicts.specs.At.{at_members}
use Rattle.bgp_json_verdicts.specs.Objects.{text_behind, text_json}
use Rattle.bgp_json_verdicts.proofs.reason.put_received.Goals as goal

pub returns : goal.returns
returns g c =
    then_members (at_members c.args.at.now) ((codes "message", text_json c.args.name.now) ∷ text_behind 2 (codes "asked") c.args.asked.now) c.in_ok-put_at.ensures
    (then c.in_ok-put_octets_text.ensures c.put_behind.ensures)
