use Rattle.std.proofs.Common.{arith, decimal, refl, true}
use Rattle.json.specs.Token.{number}
use Rattle.json_writer.proofs.Tokens.{number_put, writes}
use Rattle.json_writer.proofs.writer.Writer.u8.Goals as goal

pub invariant_of-self-2 : goal.invariant_of-self-2
invariant_of-self-2 g c = (number_put c.self.inside _ c.self.invariant c.args.n (omega arith) refl c.make_room.new.self.items c.in_ok-make_room.ensures.items c.put_octet.ensures).0

pub returns : goal.returns
returns g c =
    writes c.self.inside (record c.self.inside { out = c.put_octet.new.self; after_value = true }) c.args.self.now (number (decimal c.args.n)) c.self.view_is (number_put c.self.inside (record c.self.inside { out = c.put_octet.new.self; after_value = true }) c.self.invariant c.args.n (omega arith) refl c.make_room.new.self.items c.in_ok-make_room.ensures.items c.put_octet.ensures).1
