use Rattle.std.proofs.Common.{append-nil}
use Rattle.bgp_text.proofs.Pieces.{nothing_yet}
use Rattle.bgp_why.proofs.other_lines.put_other_item.Goals as goal

pub returns-in_default : goal.returns-in_default
returns-in_default g c =
    rw c.in_default.is (nothing_yet g.W.Sink g.met.W.Sink.nothing c.args.lines.now.outlet c.args.lines.now.held.items)

pub returns : goal.returns
returns g c = rw (c.in-Some.is, append-nil) c.put_item_line.ensures
