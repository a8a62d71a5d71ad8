use Rattle.std.proofs.Common.{◌∙◌, ◌+◌, sym, ap, length, subst}
use Rattle.std.specs.List.Sorted.{IsStrictlySortedBy}
use Rattle.std.specs.Map.{keys_of}
use Rattle.bgp_rib.specs.DestinationOrder.{destination_cmp}
use Rattle.bgp_rib.proofs.Joined.{joined_ordered, joined_length}
use Rattle.bgp_rib.proofs.table.Table.len.Goals as goal

pub returns : goal.returns
returns g c =
    let t = c.self.inside in
    record {
      len = (λ i. c.len.ensures.len i + c.len-2.ensures.len i + c.len-3.ensures.len i + c.len-4.ensures.len i)
          ∙ sym (joined_length t.plain_v4.entries t.identified_v4.entries t.plain_v6.entries t.identified_v6.entries) ∙ ap length c.self.view_is;
      ordered = subst (λ l. IsStrictlySortedBy destination_cmp (keys_of l)) c.self.view_is
          (joined_ordered t.plain_v4.entries t.identified_v4.entries t.plain_v6.entries t.identified_v6.entries c.len.ensures.ordered c.len-2.ensures.ordered c.len-3.ensures.ordered c.len-4.ensures.ordered);
    }
