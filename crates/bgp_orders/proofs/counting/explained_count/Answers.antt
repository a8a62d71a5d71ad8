use Rattle.std.proofs.Common.{◌↔◌, ◌+◌, IsTrue, refl, sym, subst, arith}
use Rattle.bgp_orders.specs.Rows.{HasLast, HasSome, IsRow}
use Rattle.bgp_orders.specs.Tidy.{HasMoreIn, IsTidy}
use Rattle.bgp_orders.proofs.Counts.{all_explained, only_so_many, some_is}
use Rattle.bgp_orders.proofs.Many.{first_so, matched_none, matched_some, more_so, too_many_first, too_many_next}
use Rattle.bgp_orders.proofs.counting.explained_count.Goals as goal

pub returns-in_default : goal.returns-in_default
returns-in_default g c = λ told.
    let config = c.args.config.now in
    let exchange = c.args.exchange.now in
    too_many_first config c.args.within exchange 1048576
    (matched_none c.in_ok-row.field-0 (HasMoreIn g.row.A.Denot config c.args.within exchange 0 1048576) (λ nodes. IsTidy exchange nodes.items) c.in_default.is c.in_ok-row.ensures.many)

pub loop-count-init : goal.loop-count-init
loop-count-init g c =
    let config = c.args.config.now in
    let exchange = c.args.exchange.now in
    first_so config c.args.within exchange 0 c.len-nodes.result c.in-Some.row.items refl
    (some_is c.in_ok-row.field-0 c.in-Some.row (λ nodes. IsRow config c.args.within exchange 0 nodes.items) c.in-Some.is c.in_ok-row.ensures.row)
    (matched_some c.in_ok-row.field-0 c.in-Some.row _ (λ nodes. IsTidy exchange nodes.items) c.in-Some.is c.in_ok-row.ensures.many)
    (omega (arith, c.len-nodes.ensures))

pub returns-in_default-2 : goal.returns-in_default-2
returns-in_default-2 g c = λ told.
    let config = c.args.config.now in
    let exchange = c.args.exchange.now in
    let count = c.loop-count.count in
    let so_far = c.loop-count.invariant in
    let row = subst (λ v. IsRow config c.args.within exchange count v) (sym c.as_slice.ensures.value) so_far.rows.row in
    let tidy = subst (λ v. IsTidy exchange v) (sym c.as_slice.ensures.value) so_far.tidy in
    too_many_next config c.args.within exchange count c.loop-count.nodes 1048576 c.saturating_sub-most.result c.loop-count.row.items so_far c.saturating_sub-most.ensures
    (matched_none c.in_ok-next.field-0 (HasMoreIn g.row.A.Denot config c.args.within exchange (count + 1) c.saturating_sub-most.result) (λ nodes. IsTidy exchange nodes.items) c.in_default-2.is
    (c.in_ok-next.ensures.many count row tidy))

pub returns-then-is_empty_row : goal.returns-then-is_empty_row
returns-then-is_empty_row g c =
    let config = c.args.config.now in
    let exchange = c.args.exchange.now in
    let count = c.loop-count.count in
    let row = some_is c.in_ok-next.field-0 c.in-Some-2.next (λ nodes. IsRow config c.args.within exchange (count + 1) nodes.items) c.in-Some-2.is
    (c.in_ok-next.ensures.row count (subst (λ v. IsRow config c.args.within exchange count v) (sym c.as_slice.ensures.value) c.loop-count.invariant.rows.row)) in
    let stops = c.is_empty_row.ensures.stops c.if-is_empty_row.true in
    only_so_many c.each_owed_want_can_be_met.ensures.met config c.args.within exchange count c.loop-count.row.items c.in-Some-2.next.items c.loop-count.invariant.rows row stops.0
    (λ h. stops.1 (subst (λ v. HasSome v) (sym c.as_slice-in-loop-count.ensures.value) h))

pub loop-count-preserved : goal.loop-count-preserved
loop-count-preserved g c =
    let config = c.args.config.now in
    let exchange = c.args.exchange.now in
    let count = c.loop-count.count in
    let so_far = c.loop-count.invariant in
    let before = subst (λ v. IsRow config c.args.within exchange count v) (sym c.as_slice.ensures.value) so_far.rows.row in
    let tidy = subst (λ v. IsTidy exchange v) (sym c.as_slice.ensures.value) so_far.tidy in
    let row = some_is c.in_ok-next.field-0 c.in-Some-2.next (λ nodes. IsRow config c.args.within exchange (count + 1) nodes.items) c.in-Some-2.is (c.in_ok-next.ensures.row count before) in
    let next_tidy = matched_some c.in_ok-next.field-0 c.in-Some-2.next _ (λ nodes. IsTidy exchange nodes.items) c.in-Some-2.is (c.in_ok-next.ensures.many count before tidy) in
    more_so config c.args.within exchange c.each_owed_want_can_be_met.ensures.met count c.loop-count.nodes c.saturating_add-nodes.result c.loop-count.row.items c.in-Some-2.next.items so_far row next_tidy
    (λ lt. subst (λ v. HasSome v) c.as_slice-in-loop-count.ensures.value (c.is_empty_row.ensures.goes_on c.if-is_empty_row.false lt))
    (omega (arith, c.saturating_add-nodes.ensures, c.len.ensures))

pub returns : goal.returns
returns g c =
    let config = c.args.config.now in
    let exchange = c.args.exchange.now in
    all_explained c.each_owed_want_can_be_met.ensures.met config c.args.within exchange c.loop-count.count c.loop-count.row.items c.has_last.result c.loop-count.invariant.rows
    (omega (arith, c.loop-count-test.false, c.loop-count.auto.count-end, c.row_count-count-end.ensures))
    (subst (λ v. IsTrue c.has_last.result ↔ HasLast exchange v) c.as_slice-2.ensures.value c.has_last.ensures)
