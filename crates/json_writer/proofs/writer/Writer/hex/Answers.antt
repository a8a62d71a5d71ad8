use Rattle.std.proofs.Common.{refl, true}
use Rattle.hex.specs.Hex.{encode_lower}
use Rattle.json.specs.Token.{string}
use Rattle.json_writer.proofs.Tokens.{plain_put, writes}
use Rattle.json_writer.proofs.writer.Writer.hex.Goals as goal

pub invariant_of-self-2 : goal.invariant_of-self-2
invariant_of-self-2 g c = (plain_put c.self.inside _ c.self.invariant (encode_lower c.args.octets.now) c.put_hex.ensures.plain refl c.make_hex_room.new.self.items c.in_ok-make_hex_room.ensures.items c.put_hex.ensures.items).0

pub returns : goal.returns
returns g c =
    writes c.self.inside (record c.self.inside { out = c.put_hex.new.self; after_value = true }) c.args.self.now (string (encode_lower c.args.octets.now)) c.self.view_is (plain_put c.self.inside (record c.self.inside { out = c.put_hex.new.self; after_value = true }) c.self.invariant (encode_lower c.args.octets.now) c.put_hex.ensures.plain refl c.make_hex_room.new.self.items c.in_ok-make_hex_room.ensures.items c.put_hex.ensures.items).1
