use Rattle.std.specs.Prelude.{◌++◌, codes}
use Rattle.std.specs.Fmt.{decimal}
use Rattle.bgp_prefix.specs.Text.{address_text}
use Rattle.bgp_prefix.specs.declared.address.Address.TheVariants.{V4}
use Rattle.bgp_text.proofs.Pieces.{Joins, and_then, more_held}
use Rattle.bgp_text.proofs.lines.Lines.put_ipv4_prefix.Goals as goal

pub returns : goal.returns
returns g c =
    let law : Joins g.W.Sink = record { joined = g.met.W.Sink.joined } in
    let room = c.make_room.new.self in
    let text = (address_text (V4 c.args.address) ++ (codes "/" ++ decimal c.args.bits)) in
    rw (c.push_ipv4_prefix.ensures) (and_then law c.make_room.ensures.writes (more_held g.W.Sink g.met.W.Sink.nothing room.outlet room.held.items text))
