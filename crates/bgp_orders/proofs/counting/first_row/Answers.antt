use Rattle.std.proofs.Common.{◌∙◌}
use Rattle.bgp_orders.proofs.Many.{first_or_more, match_option}
use Rattle.bgp_orders.proofs.Rows.{first_is_row, if_some}
use Rattle.bgp_orders.proofs.Steps.{if_ok}
use Rattle.bgp_orders.proofs.Tidy.{none_tidy}
use Rattle.bgp_orders.proofs.counting.first_row.Goals as goal

pub returns-clause-row : goal.returns-clause-row
returns-clause-row g c =
    let s = c.args.search.now in
    if_ok c.next_row.result _ _
    (λ row h. if_some row _ _
    (λ nodes k. first_is_row s.config s.within s.exchange c.as_slice.result.now c.in_ok-first.first.items nodes.items (c.as_slice.ensures.value ∙ c.new-none.ensures.items) c.in_ok-first.ensures.nodes k) h)
    c.next_row.ensures.row

pub returns-clause-many : goal.returns-clause-many
returns-clause-many g c =
    let s = c.args.search.now in
    let none = c.as_slice.ensures.value ∙ c.new-none.ensures.items in
    let tidy = c.in_ok-first.ensures.tidy in
    if_ok c.next_row.result _ _
    (λ row h. match_option row _ _ _ _
    (λ has. first_or_more s.config s.within s.exchange c.as_slice.result.now c.in_ok-first.first.items c.args.most none (λ n. (c.in_ok-first.ensures.nodes n).0) has) (λ nodes is. is) h)
    (c.next_row.ensures.many (none_tidy s.exchange c.as_slice.result.now none) tidy.0 tidy.1)
