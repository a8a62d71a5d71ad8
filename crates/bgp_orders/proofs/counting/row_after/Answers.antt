use Rattle.std.proofs.Common.{ℕ, subst}
use Rattle.bgp_orders.specs.Rows.{IsRow}
use Rattle.bgp_orders.specs.Tidy.{HasMoreIn}
use Rattle.bgp_orders.proofs.Many.{match_option, next_or_more, one_more}
use Rattle.bgp_orders.proofs.Rows.{if_some, next_is_row}
use Rattle.bgp_orders.proofs.Steps.{if_ok}
use Rattle.bgp_orders.proofs.Tidy.{none_tidy, none_up_to}
use Rattle.bgp_orders.proofs.counting.row_after.Goals as goal

pub returns-clause-row : goal.returns-clause-row
returns-clause-row g c = λ count before.
    let s = c.args.search.now in
    if_ok c.next_row.result _ _
    (λ row h. if_some row _ _
    (λ nodes k. subst (λ (v : ℕ). IsRow s.config s.within s.exchange v nodes.items) (one_more count)
    (next_is_row s.config s.within s.exchange count c.args.row.now c.new.result.items nodes.items c.new.ensures.items before k)) h)
    c.next_row.ensures.row

pub returns-clause-many : goal.returns-clause-many
returns-clause-many g c = λ count before tidy.
    let s = c.args.search.now in
    let none = c.new.ensures.items in
    if_ok c.next_row.result _ _
    (λ row h. match_option row _ _ _ _
    (λ has. subst (λ (v : ℕ). HasMoreIn g.row.A.Denot s.config s.within s.exchange v c.args.most) (one_more count)
    (next_or_more s.config s.within s.exchange count c.args.row.now c.new.result.items c.args.most none before has)) (λ nodes is. is) h)
    (c.next_row.ensures.many tidy (none_tidy s.exchange c.new.result.items none) (none_up_to 0 c.new.result.items none))
