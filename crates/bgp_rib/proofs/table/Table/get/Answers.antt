use Rattle.std.proofs.Common.{◌≡◌, ◌∙◌, sym, ap}
use Rattle.std.specs.BTreeMap.{is_at}
use Rattle.std.specs.Map.{lookup}
use Rattle.bgp_rib.specs.DestinationOrder.{destination_cmp}
use Rattle.bgp_rib.specs.Keyed.{destination_of}
use Rattle.bgp_rib.specs.Keys.{v4_plain, v4_identified, v6_plain, v6_identified}
use Rattle.bgp_rib.proofs.Joined.{look_v4_plain, look_v4_identified, look_v6_plain, look_v6_identified}
use Rattle.bgp_rib.proofs.table.Table.get.Goals as goal

pub returns-in-PlainV4 : goal.returns-in-PlainV4
returns-in-PlainV4 g c =
    let t = c.self.inside in
    let here : v4_plain c.in-PlainV4.key ≡ c.args.destination.now = ap destination_of (sym c.in-PlainV4.is) ∙ c.of.ensures in
    c.get.ensures.value ∙ look_v4_plain t.plain_v4.entries t.identified_v4.entries t.plain_v6.entries t.identified_v6.entries c.in-PlainV4.key ∙ (λ i. lookup (is_at (destination_cmp (here i))) (c.self.view_is i))

pub returns-in-IdentifiedV4 : goal.returns-in-IdentifiedV4
returns-in-IdentifiedV4 g c =
    let t = c.self.inside in
    let here : v4_identified c.in-IdentifiedV4.key ≡ c.args.destination.now = ap destination_of (sym c.in-IdentifiedV4.is) ∙ c.of.ensures in
    c.get-in-IdentifiedV4.ensures.value ∙ look_v4_identified t.plain_v4.entries t.identified_v4.entries t.plain_v6.entries t.identified_v6.entries c.in-IdentifiedV4.key ∙ (λ i. lookup (is_at (destination_cmp (here i))) (c.self.view_is i))

pub returns-in-PlainV6 : goal.returns-in-PlainV6
returns-in-PlainV6 g c =
    let t = c.self.inside in
    let here : v6_plain c.in-PlainV6.key ≡ c.args.destination.now = ap destination_of (sym c.in-PlainV6.is) ∙ c.of.ensures in
    c.get-in-PlainV6.ensures.value ∙ look_v6_plain t.plain_v4.entries t.identified_v4.entries t.plain_v6.entries t.identified_v6.entries c.in-PlainV6.key ∙ (λ i. lookup (is_at (destination_cmp (here i))) (c.self.view_is i))

pub returns-in-IdentifiedV6 : goal.returns-in-IdentifiedV6
returns-in-IdentifiedV6 g c =
    let t = c.self.inside in
    let here : v6_identified c.in-IdentifiedV6.key ≡ c.args.destination.now = ap destination_of (sym c.in-IdentifiedV6.is) ∙ c.of.ensures in
    c.get-in-IdentifiedV6.ensures.value ∙ look_v6_identified t.plain_v4.entries t.identified_v4.entries t.plain_v6.entries t.identified_v6.entries c.in-IdentifiedV6.key ∙ (λ i. lookup (is_at (destination_cmp (here i))) (c.self.view_is i))
