use Rattle.std.proofs.Common.{◌≡◌, ◌∙◌, ap, option_map}
use Rattle.bgp_attr.specs.Field.{attribute_of}
use Rattle.bgp_update.specs.Fields.{sections_of}
use Rattle.bgp_parts.specs.Confederations.{is_path_in_one}
use Rattle.bgp_parts.proofs.ConfederationPaths.{has_by}
use Rattle.bgp_parts.proofs.confederations.has_confederation.Goals as goal

pub returns-in-Some : goal.returns-in-Some
returns-in-Some c =
    let first = rw c.row.ensures.number at c.first_of.ensures.first in
    has_by c.args.octets.now (sections_of c.in-Some.fields) c.is_path_in_one.result c.in-Some.ensures.some
    (c.is_path_in_one.ensures ∙ ap is_path_in_one first)
