-- What a pass over attributes notes.
use Rattle.std.specs.Prelude.{◌||◌, ◌&&◌, ◌==◌, not}
use Rattle.bgp_attr.specs.declared.classes.AttrVerdict.TheVariants.{Discard, Withdraw, Reset}
use Rattle.bgp_attr.specs.declared.classes.Side.{Side}
use Rattle.bgp_attr.specs.Class.{class_of}
use Rattle.bgp_attr.specs.Field.{Attribute}
use Rattle.bgp_update.specs.declared.pass.Classes.{Classes}
use Rattle.bgp_update.specs.declared.pass.Types.{Types}
use Rattle.bgp_update.specs.Found.{ClassesFound, TypesFound, is_class}

abbrev pub classes_of : Classes → ClassesFound
classes_of c = record {
  reset = c.reset;
  withdraw = c.withdraw;
  plain_withdraw = c.plain_withdraw;
  discard = c.discard;
}

abbrev pub types_of : Types → TypesFound
types_of t = record {
  origin = t.origin;
  as_path = t.as_path;
  next_hop = t.next_hop;
  other = t.other;
  has_repeats = t.has_repeats;
}

-- the classes with that of one attribute more
abbrev pub noted_with : Side → ClassesFound → Attribute → ClassesFound
noted_with side c a = record {
  reset = c.reset || is_class Reset (class_of side a);
  withdraw = c.withdraw || is_class Withdraw (class_of side a);
  plain_withdraw = c.plain_withdraw
      || (is_class Withdraw (class_of side a) && not (a.kind == 6) && not (a.kind == 7));
  discard = c.discard || is_class Discard (class_of side a);
}
