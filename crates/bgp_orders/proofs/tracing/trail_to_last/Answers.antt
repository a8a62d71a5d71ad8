use Rattle.std.proofs.Common.{◌↔◌, ◌⊎◌, ◌+◌, ◌-◌, ◌<◌, ◌≡◌, ◌∙◌, ap, arith, inl, inr, length, map, refl, subst, sym}
use Rattle.bgp_orders.specs.Nodes.{Node}
use Rattle.bgp_orders.specs.Rows.{HasLast, InNextRow, IsIn, count_of}
use Rattle.bgp_orders.specs.Tidy.{HasMoreNext, IsTidy}
use Rattle.bgp_orders.specs.Tracks.{AreTracked, IsTrailTo, start_of}
use Rattle.bgp_orders.proofs.Counts.{some_is}
use Rattle.bgp_orders.proofs.Many.{matched_none, matched_some}
use Rattle.bgp_orders.proofs.Tidy.{none_tidy, none_up_to}
use Rattle.bgp_orders.proofs.Tracks.{IsLastAt, below_row, first_too_many, first_traced, first_tracing, last_traced, next_too_many, next_tracing, none_traced, none_whole}
use Rattle.bgp_orders.proofs.tracing.trail_to_last.Goals as goal

pub traced_row-requires-clause-first : goal.traced_row-requires-clause-first
traced_row-requires-clause-first g c =
    let s = c.args.search.now in
    first_traced s.config s.within s.exchange c.in_ok-origins.origins.items c.in_ok-first.first.items (c.in_ok-origins.ensures ∙ ap (map start_of) c.as_slice.ensures.value) (λ n. (c.in_ok-first.ensures.nodes n).0)

pub returns-in_default-clause-none : goal.returns-in_default-clause-none
returns-in_default-clause-none g c =
    let s = c.args.search.now in
    let slice = c.as_slice-2.result.now in
    let first = c.in_ok-first.first.items in
    let none = c.as_slice-2.ensures.value ∙ c.new-none.ensures.items in
    let tidy = c.in_ok-first.ensures.tidy in
    inr (first_too_many s.config s.within s.exchange slice first none c.in_ok-first.ensures.nodes
    (matched_none c.in_ok-row.field-0 (HasMoreNext s.config s.within s.exchange slice first (1048576 - 0) ⊎ (1048576 < 0)) (λ nodes. IsTidy s.exchange nodes.items) c.in_default.is
    (c.in_ok-row.ensures.many (none_tidy s.exchange slice none) tidy.0 tidy.1)))

pub loop-count-init : goal.loop-count-init
loop-count-init g c =
    let s = c.args.search.now in
    let slice = c.as_slice-2.result.now in
    let first = c.in_ok-first.first.items in
    let none = c.as_slice-2.ensures.value ∙ c.new-none.ensures.items in
    let tidy = c.in_ok-first.ensures.tidy in
    first_tracing s.config s.within s.exchange c.traced_row.new.origins.items slice first c.in-Some.row.items 0 none refl c.in_ok-first.ensures.nodes
    (some_is c.in_ok-row.field-0 c.in-Some.row (λ nodes. (n : Node) → IsIn s.exchange nodes.items n ↔ InNextRow s.config s.within s.exchange slice first n) c.in-Some.is c.in_ok-row.ensures.row)
    (matched_some c.in_ok-row.field-0 c.in-Some.row _ (λ nodes. IsTidy s.exchange nodes.items) c.in-Some.is (c.in_ok-row.ensures.many (none_tidy s.exchange slice none) tidy.0 tidy.1))
    (some_is c.in_ok-row.field-0 c.in-Some.row (λ nodes. IsTrailTo s.config s.within s.exchange c.traced_row.new.origins.items 0 nodes.items) c.in-Some.is c.in_ok-row.ensures.trail)

pub traced_row-requires-in-loop-count-clause-row : goal.traced_row-requires-in-loop-count-clause-row
traced_row-requires-in-loop-count-clause-row g c =
    let s = c.args.search.now in
    subst (λ v. AreTracked s.config s.within s.exchange c.loop-count.origins.items c.loop-count.before v) (sym c.as_slice-nodes.ensures.value) c.loop-count.invariant.to.tracked

pub traced_row-requires-in-loop-count-clause-first : goal.traced_row-requires-in-loop-count-clause-first
traced_row-requires-in-loop-count-clause-first g c =
    let s = c.args.search.now in
    none_traced s.config s.within s.exchange c.loop-count.origins.items c.len-base.result c.new-none-in-loop-count.result.items c.new-none-in-loop-count.ensures.items
    (omega (arith, c.len-base.ensures, c.loop-count.origins.ok.0))

pub returns-in_default-2-clause-none : goal.returns-in_default-2-clause-none
returns-in_default-2-clause-none g c =
    let s = c.args.search.now in
    let base = c.len-base.result in
    let slice = c.as_slice-nodes.result.now in
    let none = c.new-none-in-loop-count.result.items in
    let empty = c.new-none-in-loop-count.ensures.items in
    let so_far = c.loop-count.invariant in
    let tidy = subst (λ v. IsTidy s.exchange v) (sym c.as_slice-nodes.ensures.value) so_far.rows.tidy in
    inr (next_too_many s.config s.within s.exchange c.loop-count._count c.loop-count.before base c.loop-count.origins.items slice c.loop-count.row.items none so_far c.as_slice-nodes.ensures.value empty
    (omega (arith, c.len-base.ensures, c.loop-count.origins.ok.0))
    (matched_none c.in_ok-next.field-0 (HasMoreNext s.config s.within s.exchange slice none (1048576 - base) ⊎ (1048576 < base)) (λ nodes. IsTidy s.exchange nodes.items) c.in_default-2.is
    (c.in_ok-next.ensures.many tidy (none_tidy s.exchange none empty) (none_up_to 0 none empty))))

pub loop-count-preserved : goal.loop-count-preserved
loop-count-preserved g c =
    let s = c.args.search.now in
    let base = c.len-base.result in
    let slice = c.as_slice-nodes.result.now in
    let none = c.new-none-in-loop-count.result.items in
    let empty = c.new-none-in-loop-count.ensures.items in
    let so_far = c.loop-count.invariant in
    let trail = c.traced_row-in-loop-count.new.origins.items in
    let tidy = subst (λ v. IsTidy s.exchange v) (sym c.as_slice-nodes.ensures.value) so_far.rows.tidy in
    next_tracing s.config s.within s.exchange c.loop-count._count c.loop-count.before base c.loop-count.origins.items trail slice c.loop-count.row.items none c.in-Some-2.next.items so_far
    c.as_slice-nodes.ensures.value empty (omega (arith, c.len-base.ensures, c.loop-count.origins.ok.0))
    (some_is c.in_ok-next.field-0 c.in-Some-2.next (λ nodes. (n : Node) → IsIn s.exchange nodes.items n ↔ InNextRow s.config s.within s.exchange slice none n) c.in-Some-2.is c.in_ok-next.ensures.row)
    (matched_some c.in_ok-next.field-0 c.in-Some-2.next _ (λ nodes. IsTidy s.exchange nodes.items) c.in-Some-2.is
    (c.in_ok-next.ensures.many tidy (none_tidy s.exchange none empty) (none_up_to 0 none empty)))
    (some_is c.in_ok-next.field-0 c.in-Some-2.next (λ nodes. IsTrailTo s.config s.within s.exchange trail base nodes.items) c.in-Some-2.is c.in_ok-next.ensures.trail)

pub overflow_add-result : goal.overflow_add-result
overflow_add-result g c =
    let ends = c.loop-count.invariant.to.ends in
    let lt : c.in-Some-last_index.index < length c.as_slice-3.result.now = below_row c.as_slice-3.result.now c.in-Some-last_index.index _ c.in-Some-last_index.ensures.some in
    let same : length c.as_slice-3.result.now ≡ length c.loop-count.row.items = ap length c.as_slice-3.ensures.value in
    omega (arith, ends, lt, same, c.loop-count.origins.ok.0, c.loop-count.origins.ok.1, c.loop-count.origins.small)

pub returns-in-Some-last_index-clause-some : goal.returns-in-Some-last_index-clause-some
returns-in-Some-last_index-clause-some g c =
    let s = c.args.search.now in
    last_traced s.config s.within s.exchange c.loop-count._count c.loop-count.before c.loop-count.origins.items c.loop-count.row.items c.in-Some-last_index.index c.loop-count.invariant
    (omega (arith, c.loop-count-test.false, c.loop-count.auto._count-end, c.row_count-count-end.ensures))
    (subst (λ v. IsLastAt s.exchange v c.in-Some-last_index.index) c.as_slice-3.ensures.value c.in-Some-last_index.ensures.some)

pub returns-in-None-clause-none : goal.returns-in-None-clause-none
returns-in-None-clause-none g c =
    let s = c.args.search.now in
    inl (none_whole s.config s.within s.exchange c.each_owed_want_can_be_met.ensures.met c.loop-count._count c.loop-count.before c.loop-count.origins.items c.loop-count.row.items c.loop-count.invariant
    (omega (arith, c.loop-count-test.false, c.loop-count.auto._count-end, c.row_count-count-end.ensures))
    (λ h. c.in-None.ensures.none (subst (λ v. HasLast s.exchange v) (sym c.as_slice-3.ensures.value) h)))
