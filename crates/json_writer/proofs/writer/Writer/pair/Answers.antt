use Rattle.std.proofs.Common.{◌++◌, ◌∷◌, arith, decimal, refl, true}
use Rattle.json_writer.proofs.Plain.{pair_plain}
use Rattle.json.specs.Token.{string}
use Rattle.json_writer.proofs.Tokens.{plain_put, writes}
use Rattle.json_writer.proofs.writer.Writer.pair.Goals as goal

pub invariant_of-self-2 : goal.invariant_of-self-2
invariant_of-self-2 g c = (plain_put c.self.inside _ c.self.invariant (decimal c.args.first ++ 58 ∷ decimal c.args.second) (pair_plain c.args.first c.args.second (omega arith) (omega arith)) refl c.make_room.new.self.items c.in_ok-make_room.ensures.items c.put_pair.ensures).0

pub returns : goal.returns
returns g c =
    writes c.self.inside (record c.self.inside { out = c.put_pair.new.self; after_value = true }) c.args.self.now (string (decimal c.args.first ++ 58 ∷ decimal c.args.second)) c.self.view_is (plain_put c.self.inside (record c.self.inside { out = c.put_pair.new.self; after_value = true }) c.self.invariant (decimal c.args.first ++ 58 ∷ decimal c.args.second) (pair_plain c.args.first c.args.second (omega arith) (omega arith)) refl c.make_room.new.self.items c.in_ok-make_room.ensures.items c.put_pair.ensures).1
