use Rattle.byteorder.specs.Endian.{big_bytes}
use Rattle.bgp_attr.proofs.Filled.{filled_all, filled_more, filled_room}
use Rattle.bgp_attr.proofs.values.put_u64s.Goals as goal

pub put_u64-requires : goal.put_u64-requires
put_u64-requires g c =
    filled_room (big_bytes 8) c.args.numbers.now c.loop-number.number-index 0 _ _ _ _ _ _ c.loop-number-test.true c.requires c.loop-number.invariant

pub returns-clause-items : goal.returns-clause-items
returns-clause-items g c =
    (filled_all (big_bytes 8) c.args.numbers.now c.loop-number.number-index _ _ _ _ _ _ c.loop-number.auto.number-index-end c.loop-number-test.false c.loop-number.invariant).items

pub returns-clause-len : goal.returns-clause-len
returns-clause-len g c =
    (filled_all (big_bytes 8) c.args.numbers.now c.loop-number.number-index _ _ _ _ _ _ c.loop-number.auto.number-index-end c.loop-number-test.false c.loop-number.invariant).len

pub loop-number-preserved : goal.loop-number-preserved
loop-number-preserved g c =
    filled_more (big_bytes 8) c.args.numbers.now c.loop-number.number-index 0 _ _ _ _ _ _ _ _ _ c.loop-number-test.true c.loop-number.invariant
    c.put_u64.ensures.items c.put_u64.ensures.len c.put_u64.ensures.capacity
