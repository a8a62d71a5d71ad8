use Rattle.std.proofs.Common.{◌∙◌, ap, not, filter}
use Rattle.bgp_update.specs.Families.{contains}
use Rattle.bgp_rib.specs.Keys.{joined}
use Rattle.bgp_rib.proofs.Joined.{joined_outside}
use Rattle.bgp_rib.proofs.table.Table.clear_families.Goals as goal

pub returns : goal.returns
returns g c =
    let t = c.self.inside in
    (λ i. joined (c.clear_if.ensures.entries i) (c.clear_if-2.ensures.entries i) (c.clear_if-3.ensures.entries i) (c.clear_if-4.ensures.entries i))
    ∙ joined_outside t.plain_v4.entries t.identified_v4.entries t.plain_v6.entries t.identified_v6.entries c.args.families
    ∙ ap (filter (λ e. not (contains c.args.families e.0.prefix.family))) c.self.view_is
