use Rattle.std.proofs.Common.{◌++◌, Bool, [], if◌then◌else◌, subst, sym}
use Rattle.bgp_check_lines.specs.Lines.{PutsLines}
use Rattle.bgp_text.proofs.Pieces.{Joins}
use Rattle.bgp_check_lines.proofs.Puts.{no_lines, then_lines}
use Rattle.bgp_list.specs.Connections.{connection_text}
use Rattle.bgp_ended.specs.Values.{outline_value}
use Rattle.bgp_check_tool.specs.Blocks.{neither_text}
use Rattle.bgp_check_tool.proofs.blocks.put_one_block.Goals as goal

pub returns : goal.returns
returns g c =
    let law : Joins g.W.Sink = record { joined = g.met.W.Sink.joined } in
    subst (λ (b : Bool). PutsLines c.args.lines.now c.put_neither.new.lines
    (if b then [] else connection_text c.args.session.now c.args.opening (outline_value c.args.outline.now) c.args.first c.args.second ++ neither_text c.args.session.now c.args.opening)) (sym c.if-printing.false)
    (then_lines law c.put_connection.ensures c.put_neither.ensures)

pub returns-then-printing : goal.returns-then-printing
returns-then-printing g c = rw c.if-printing.true (no_lines g.met.W.Sink.nothing c.args.lines.now)
