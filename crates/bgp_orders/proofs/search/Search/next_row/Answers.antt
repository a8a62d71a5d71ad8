use Rattle.std.proofs.Common.{arith}
use Rattle.bgp_orders.proofs.Many.{heard_so, nothing_so, passed_so}
use Rattle.bgp_orders.proofs.Rows.{all_grown}
use Rattle.bgp_orders.proofs.search.Search.next_row.Goals as goal

pub loop-passed-init : goal.loop-passed-init
loop-passed-init g c =
    let s = c.args.self.now in
    nothing_so s.config s.within s.exchange c.args.row.now c.args.first.items

pub loop-passed-preserved-then-is_passed_next : goal.loop-passed-preserved-then-is_passed_next
loop-passed-preserved-then-is_passed_next g c =
    let s = c.args.self.now in
    passed_so s.config s.within s.exchange c.args.row.now c.args.first.items c.loop-passed.passed c.loop-passed.heard c.as_slice-nodes.result.now c.loop-passed.next.items c.pass_one.new.next.items
    c.as_slice-nodes.ensures.value c.loop-passed.invariant c.is_passed_next.result (c.is_passed_next.ensures.passed c.if-is_passed_next.true) c.is_passed_next.ensures.fewer c.if-is_passed_next.true
    c.in_ok-pass_one.ensures.gains c.in_ok-pass_one.ensures.tidy

pub loop-passed-preserved : goal.loop-passed-preserved
loop-passed-preserved g c =
    let s = c.args.self.now in
    heard_so s.config s.within s.exchange c.args.row.now c.args.first.items c.loop-passed.passed c.loop-passed.heard c.as_slice-nodes.result.now c.loop-passed.next.items
    c.add_made.new.nodes.items c.in_ok-made.made c.as_slice-nodes.ensures.value c.loop-passed.invariant c.is_passed_next.result (c.is_passed_next.ensures.heard c.if-is_passed_next.false)
    c.is_passed_next.ensures.fewer c.if-is_passed_next.false c.in_ok-made.ensures.made (c.in_ok-add_made.ensures.gains s.exchange) c.in_ok-made.ensures.stands (c.in_ok-add_made.ensures.tidy s.exchange)

pub returns-clause-row : goal.returns-clause-row
returns-clause-row g c =
    let s = c.args.self.now in
    all_grown s.config s.within s.exchange c.args.row.now c.args.first.items c.loop-passed.passed c.loop-passed.heard c.loop-passed.next.items c.loop-passed.invariant.grows
    (omega (arith, c.if-passed-row.false)) (omega (arith, c.if-heard-len.false, c.len.ensures, c.loop-passed.next.ok.0))

pub returns-clause-many : goal.returns-clause-many
returns-clause-many g c = λ row first each. (c.loop-passed.invariant.tidy row first each).tidy
