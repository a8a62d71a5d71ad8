use Rattle.bgp_path.specs.Path.{value_of}
use Rattle.bgp_attr.specs.Writing.{type_octets}
use Rattle.bgp_attr.proofs.Filled.{filled_all, filled_more, filled_room}
use Rattle.bgp_attr.proofs.writing.put_attributes.Goals as goal

pub put_attribute-requires-clause-room : goal.put_attribute-requires-clause-room
put_attribute-requires-clause-room g c =
    filled_room (type_octets c.args.side (value_of c.args.path.now)) c.args.types.now c.loop-attr_type.attr_type-index _ _ _ _ _ _ _ c.loop-attr_type-test.true c.requires.room c.loop-attr_type.invariant

pub loop-attr_type-preserved : goal.loop-attr_type-preserved
loop-attr_type-preserved g c =
    filled_more (type_octets c.args.side (value_of c.args.path.now)) c.args.types.now c.loop-attr_type.attr_type-index _ _ _ _ _ _ _ _ _ _ c.loop-attr_type-test.true c.loop-attr_type.invariant
    c.put_attribute.ensures.items c.put_attribute.ensures.len c.put_attribute.ensures.capacity

pub returns-clause-items : goal.returns-clause-items
returns-clause-items g c =
    (filled_all (type_octets c.args.side (value_of c.args.path.now)) c.args.types.now c.loop-attr_type.attr_type-index _ _ _ _ _ _ c.loop-attr_type.auto.attr_type-index-end c.loop-attr_type-test.false c.loop-attr_type.invariant).items

pub returns-clause-len : goal.returns-clause-len
returns-clause-len g c =
    (filled_all (type_octets c.args.side (value_of c.args.path.now)) c.args.types.now c.loop-attr_type.attr_type-index _ _ _ _ _ _ c.loop-attr_type.auto.attr_type-index-end c.loop-attr_type-test.false c.loop-attr_type.invariant).len
