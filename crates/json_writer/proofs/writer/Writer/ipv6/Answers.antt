use Rattle.std.proofs.Common.{refl, true}
use Rattle.bgp_prefix.specs.Text.{address_text}
use Rattle.bgp_prefix.specs.declared.address.Address.TheVariants.{V6}
use Rattle.json_writer.proofs.Groups.{ipv6_plain}
use Rattle.json.specs.Token.{string}
use Rattle.json_writer.proofs.Tokens.{plain_put, writes}
use Rattle.json_writer.proofs.writer.Writer.ipv6.Goals as goal

pub invariant_of-self-2 : goal.invariant_of-self-2
invariant_of-self-2 g c = (plain_put c.self.inside _ c.self.invariant (address_text (V6 c.args.address)) (ipv6_plain c.args.address) refl c.make_room.new.self.items c.in_ok-make_room.ensures.items c.put_ipv6.ensures).0

pub returns : goal.returns
returns g c =
    writes c.self.inside (record c.self.inside { out = c.put_ipv6.new.self; after_value = true }) c.args.self.now (string (address_text (V6 c.args.address))) c.self.view_is (plain_put c.self.inside (record c.self.inside { out = c.put_ipv6.new.self; after_value = true }) c.self.invariant (address_text (V6 c.args.address)) (ipv6_plain c.args.address) refl c.make_room.new.self.items c.in_ok-make_room.ensures.items c.put_ipv6.ensures).1
