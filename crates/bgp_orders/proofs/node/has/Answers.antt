use Rattle.std.proofs.Common.{IsTrue, subst, sym}
use Rattle.bgp_judge.specs.Plain.{Among, member_value}
use Rattle.bgp_orders.specs.Rows.{node_at}
use Rattle.bgp_orders.proofs.Steps.{last_of}
use Rattle.bgp_orders.proofs.Tidy.{none_before, one_seen, there_too}
use Rattle.bgp_orders.proofs.node.has.Goals as goal
use Rattle.bgp_orders.proofs.node.has.Goals.{else-is_same-via-then-is_same+else-has_member, else-is_same-via-else-is_same}

pub returns-then-node-spot-clause-none : goal.returns-then-node-spot-clause-none
returns-then-node-spot-clause-none g c = λ not order each.
    none_before c.args.spot (member_value c.args.member.now) c.args.nodes.now c.loop-node.left.now c.in-Some.others.now c.in-Some.node.now c.in-Some.ensures.cases.0 c.if-node-spot.true
    c.loop-node.invariant order each

pub returns-then-has_member-clause-there : goal.returns-then-has_member-clause-there
returns-then-has_member-clause-there g c = λ t exchange.
    let m = member_value c.args.member.now in
    there_too c.args.spot m c.args.nodes.now c.loop-node.left.now exchange (node_at exchange c.args.spot m) c.loop-node.invariant
    (last_of exchange c.loop-node.left.now c.in-Some.others.now c.in-Some.node.now c.args.spot m c.in-Some.ensures.cases.0 (c.is_same.ensures.0 c.if-is_same.true)
    (subst (λ v. Among v m) c.as_slice.ensures.value (c.has_member.ensures.0 c.if-has_member.true)))

pub loop-node-preserved : goal.loop-node-preserved
loop-node-preserved g c =
    let m = member_value c.args.member.now in
    let node = c.in-Some.node.now in
    elim c.else-is_same.branch [
      | else-is_same-via-then-is_same+else-has_member w ↦
          one_seen c.args.spot m c.args.nodes.now c.loop-node.left.now c.in-Some.others.now node c.in-Some.ensures.cases.0
          (λ it. let h : IsTrue w.has_member.result = w.has_member.ensures.1 (subst (λ v. Among v m) (sym w.as_slice.ensures.value) it.1) in cc) c.loop-node.invariant
      | else-is_same-via-else-is_same w ↦
          one_seen c.args.spot m c.args.nodes.now c.loop-node.left.now c.in-Some.others.now node c.in-Some.ensures.cases.0
          (λ it. let h : IsTrue c.is_same.result = c.is_same.ensures.1 it.0 in cc) c.loop-node.invariant
    ]
