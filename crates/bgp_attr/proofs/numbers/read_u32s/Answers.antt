use Rattle.std.proofs.Common.{arith}
use Rattle.bgp_attr.proofs.NumbersRead.{by_four, item_pushed, items_done}
use Rattle.bgp_attr.proofs.numbers.read_u32s.Goals as goal

pub loop-number-preserved : goal.loop-number-preserved
loop-number-preserved g c =
    item_pushed 4 by_four c.loop-number.numbers.items c.push.new.self.items c.loop-number.rest.now c.in-Some.after.now _ c.in-Some.number c.in-Some.ensures.enough c.in-Some.ensures.number c.in-Some.ensures.rest c.in_ok-push.ensures.items c.loop-number.invariant

pub returns : goal.returns
returns g c = items_done 4 c.loop-number.numbers.items c.loop-number.rest.now _ (omega (arith, c.in_default.ensures.none)) c.loop-number.invariant
