use Rattle.std.proofs.Common.{[], ◌∷◌, refl, false}
use Rattle.json.specs.Token.{begin_array}
use Rattle.json.proofs.Printed.Utf8.{IsUtf8-are_ascii}
use Rattle.json_writer.proofs.Tokens.{value_put, writes}
use Rattle.json_writer.proofs.writer.Writer.begin_array.Goals as goal

pub invariant_of-self-2 : goal.invariant_of-self-2
invariant_of-self-2 g c = (value_put c.self.inside _ c.self.invariant begin_array refl tt refl c.make_room.new.self.items (91 ∷ []) c.in_ok-make_room.ensures.items c.put.ensures refl (IsUtf8-are_ascii (91 ∷ []) refl)).0

pub returns : goal.returns
returns g c =
    writes c.self.inside (record c.self.inside { out = c.put.new.self; after_value = false }) c.args.self.now (begin_array) c.self.view_is (value_put c.self.inside (record c.self.inside { out = c.put.new.self; after_value = false }) c.self.invariant begin_array refl tt refl c.make_room.new.self.items (91 ∷ []) c.in_ok-make_room.ensures.items c.put.ensures refl (IsUtf8-are_ascii (91 ∷ []) refl)).1
