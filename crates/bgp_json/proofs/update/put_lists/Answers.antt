use Rattle.std.proofs.Common.{◌++◌}
use Rattle.bgp_json_values.proofs.Members.{then_members}
use Rattle.bgp_prefix.specs.declared.family.Family.TheVariants.{V4}
use Rattle.bgp_update.specs.Destinations.{is_identified}
use Rattle.bgp_json.specs.MessageJson.{are_lists_spelled, octets_unless, paths_members, said_members}
use Rattle.bgp_json.specs.Parts.{parts_with}
use Rattle.bgp_json.proofs.update.put_lists.Goals as goal

pub returns : goal.returns
returns g c =
    let withdrawn = c.args.withdrawn.now in
    let nlri = c.args.nlri.now in
    let said = said_members c.args.reading (parts_with withdrawn c.args.attributes.attributes nlri) in
    let paths = paths_members (is_identified c.args.reading.form V4) withdrawn nlri in
    let hidden = octets_unless (are_lists_spelled withdrawn nlri c.args.octets.now) c.args.octets.now in
    let put_hidden = rw c.is_spelled-is_spelled.ensures at c.put_unless.ensures in
    then_members said (paths ++ hidden) c.in_ok-put_said.ensures (then_members paths hidden c.in_ok-put_paths.ensures put_hidden)
