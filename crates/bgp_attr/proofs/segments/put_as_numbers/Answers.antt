use Rattle.bgp_attr.specs.Values.{as_octets}
use Rattle.bgp_attr.proofs.Filled.{filled_all, filled_more, filled_room}
use Rattle.bgp_attr.proofs.segments.put_as_numbers.Goals as goal

pub put_as_number-requires : goal.put_as_number-requires
put_as_number-requires g c =
    filled_room (as_octets c.args.as4) c.args.numbers.now c.loop-number.number-index 0 _ _ _ _ _ _ c.loop-number-test.true c.requires c.loop-number.invariant

pub returns-clause-items : goal.returns-clause-items
returns-clause-items g c =
    (filled_all (as_octets c.args.as4) c.args.numbers.now c.loop-number.number-index _ _ _ _ _ _ c.loop-number.auto.number-index-end c.loop-number-test.false c.loop-number.invariant).items

pub returns-clause-len : goal.returns-clause-len
returns-clause-len g c =
    (filled_all (as_octets c.args.as4) c.args.numbers.now c.loop-number.number-index _ _ _ _ _ _ c.loop-number.auto.number-index-end c.loop-number-test.false c.loop-number.invariant).len

pub loop-number-preserved : goal.loop-number-preserved
loop-number-preserved g c =
    filled_more (as_octets c.args.as4) c.args.numbers.now c.loop-number.number-index 0 _ _ _ _ _ _ _ _ _ c.loop-number-test.true c.loop-number.invariant
    c.put_as_number.ensures.items c.put_as_number.ensures.len c.put_as_number.ensures.capacity
