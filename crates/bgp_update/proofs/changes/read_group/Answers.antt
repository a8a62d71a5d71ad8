use Rattle.std.proofs.Common.{◌∙◌, sym}
use Rattle.bgp_update.specs.Field.{field_destinations}
use Rattle.bgp_update.specs.Listed.{listed}
use Rattle.bgp_update.proofs.Routes.{one_group}
use Rattle.bgp_update.proofs.changes.read_group.Goals as goal

pub returns-clause-groups : goal.returns-clause-groups
returns-clause-groups g c =
    let out = c.push_to.new.out in
    let some = sym c.is_empty.ensures ∙ c.if-is_empty.false in
    one_group out.items c.in_ok-destinations.destinations.items (listed (field_destinations c.args.field)) out.len out.ok.0 c.in_ok-destinations.ensures.items c.in_ok-push_to.ensures some
