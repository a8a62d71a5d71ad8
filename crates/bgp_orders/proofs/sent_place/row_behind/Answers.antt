use Rattle.std.proofs.Common.{◌≡◌, ◌+◌, ℕ, sym, subst, arith}
use Rattle.bgp_orders.specs.Rows.{IsRow}
use Rattle.bgp_orders.specs.Tidy.{HasMoreIn, IsTidy}
use Rattle.bgp_orders.proofs.Counts.{some_is}
use Rattle.bgp_orders.proofs.Many.{first_to, matched_none, matched_some, more_to, too_many_first, too_many_to}
use Rattle.bgp_orders.proofs.sent_place.row_behind.Goals as goal

pub returns-in_default-clause-many : goal.returns-in_default-clause-many
returns-in_default-clause-many g c =
    let s = c.args.search.now in
    too_many_first s.config s.within s.exchange 1048576
    (matched_none c.in_ok-row.field-0 (HasMoreIn g.row.A.Denot s.config s.within s.exchange 0 1048576) (λ nodes. IsTidy s.exchange nodes.items) c.in_default.is c.in_ok-row.ensures.many)

pub loop-count-init : goal.loop-count-init
loop-count-init g c =
    let s = c.args.search.now in
    first_to s.config s.within s.exchange c.len-nodes.result c.in-Some.row.items
    (some_is c.in_ok-row.field-0 c.in-Some.row (λ nodes. IsRow s.config s.within s.exchange 0 nodes.items) c.in-Some.is c.in_ok-row.ensures.row)
    (matched_some c.in_ok-row.field-0 c.in-Some.row _ (λ nodes. IsTidy s.exchange nodes.items) c.in-Some.is c.in_ok-row.ensures.many)
    (omega (arith, c.len-nodes.ensures))

pub returns-in_default-2-clause-many : goal.returns-in_default-2-clause-many
returns-in_default-2-clause-many g c =
    let s = c.args.search.now in
    let count = c.loop-count._count in
    let so_far = c.loop-count.invariant in
    let row = subst (λ v. IsRow s.config s.within s.exchange count v) (sym c.as_slice.ensures.value) so_far.row in
    let tidy = subst (λ v. IsTidy s.exchange v) (sym c.as_slice.ensures.value) so_far.tidy in
    too_many_to s.config s.within s.exchange count c.loop-count.nodes 1048576 c.saturating_sub-most.result c.loop-count.row.items so_far c.saturating_sub-most.ensures
    (matched_none c.in_ok-next.field-0 (HasMoreIn g.row.A.Denot s.config s.within s.exchange (count + 1) c.saturating_sub-most.result) (λ nodes. IsTidy s.exchange nodes.items) c.in_default-2.is
    (c.in_ok-next.ensures.many count row tidy))

pub loop-count-preserved : goal.loop-count-preserved
loop-count-preserved g c =
    let s = c.args.search.now in
    let count = c.loop-count._count in
    let so_far = c.loop-count.invariant in
    let before = subst (λ v. IsRow s.config s.within s.exchange count v) (sym c.as_slice.ensures.value) so_far.row in
    let tidy = subst (λ v. IsTidy s.exchange v) (sym c.as_slice.ensures.value) so_far.tidy in
    let row = some_is c.in_ok-next.field-0 c.in-Some-2.next (λ nodes. IsRow s.config s.within s.exchange (count + 1) nodes.items) c.in-Some-2.is (c.in_ok-next.ensures.row count before) in
    let next_tidy = matched_some c.in_ok-next.field-0 c.in-Some-2.next _ (λ nodes. IsTidy s.exchange nodes.items) c.in-Some-2.is (c.in_ok-next.ensures.many count before tidy) in
    more_to s.config s.within s.exchange count c.loop-count.nodes c.saturating_add-nodes.result c.loop-count.row.items c.in-Some-2.next.items so_far row next_tidy
    (omega (arith, c.saturating_add-nodes.ensures, c.len.ensures))

pub returns-clause-row : goal.returns-clause-row
returns-clause-row g c =
    let s = c.args.search.now in
    let all : c.loop-count._count ≡ c.args.before = omega (arith, c.loop-count-test.false, c.loop-count.auto._count-end) in
    subst (λ (v : ℕ). IsRow s.config s.within s.exchange v c.loop-count.row.items) all c.loop-count.invariant.row

pub returns-clause-many : goal.returns-clause-many
returns-clause-many g c = c.loop-count.invariant.tidy
