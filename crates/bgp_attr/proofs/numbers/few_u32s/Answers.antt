use Rattle.std.proofs.Common.{arith}
use Rattle.bgp_attr.proofs.NumbersRead.{by_four, item_pushed, items_done, room_left}
use Rattle.bgp_attr.proofs.numbers.few_u32s.Goals as goal

pub push-requires : goal.push-requires
push-requires c = omega (arith, c.loop-number.invariant.room, c.in-Some.ensures.enough)

pub loop-number-preserved : goal.loop-number-preserved
loop-number-preserved c = record {
  so_far = item_pushed 4 by_four c.loop-number.numbers.items c.push.new.self.items c.loop-number.rest.now c.in-Some.after.now _ c.in-Some.number c.in-Some.ensures.enough c.in-Some.ensures.number c.in-Some.ensures.rest c.push.ensures.items c.loop-number.invariant.so_far;
  room = room_left 4 by_four 8 c.loop-number.numbers.items c.push.new.self.items c.loop-number.rest.now c.in-Some.after.now c.in-Some.ensures.enough c.in-Some.ensures.rest c.push.ensures.len c.loop-number.invariant.room;
}

pub returns : goal.returns
returns c = items_done 4 c.loop-number.numbers.items c.loop-number.rest.now _ (omega (arith, c.in_default.ensures.none)) c.loop-number.invariant.so_far
