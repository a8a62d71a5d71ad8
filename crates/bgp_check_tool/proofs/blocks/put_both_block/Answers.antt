use Rattle.std.proofs.Common.{◌∙◌, ◌++◌, Bool, [], if◌then◌else◌, subst, sym}
use Rattle.bgp_text.proofs.Pieces.{Joins}
use Rattle.bgp_check_lines.specs.Lines.{PutsLines}
use Rattle.bgp_check_lines.proofs.Puts.{no_lines, then_lines}
use Rattle.bgp_list.specs.Connections.{connection_text}
use Rattle.bgp_ended.specs.Values.{outline_value}
use Rattle.bgp_check_tool.specs.Blocks.{both_text}
use Rattle.bgp_check_tool.specs.Told.{told_value}
use Rattle.bgp_check_tool.proofs.blocks.put_both_block.Goals as goal

pub returns-then-are_left_out : goal.returns-then-are_left_out
returns-then-are_left_out g c =
    let left = sym c.are_left_out.ensures ∙ c.if-are_left_out.true in
    subst (λ (b : Bool). PutsLines c.args.lines.now c.args.lines.now
    (if b then [] else connection_text c.args.session.now c.args.opening (outline_value c.args.both.now.outline) c.args.both.now.opener_octets c.args.both.now.other_octets
    ++ both_text c.args.printing (told_value c.args.both.now.opener) (told_value c.args.both.now.other))) (sym left) (no_lines g.met.W.Sink.nothing c.args.lines.now)

pub returns : goal.returns
returns g c =
    let law : Joins g.W.Sink = record { joined = g.met.W.Sink.joined } in
    let kept = sym c.are_left_out.ensures ∙ c.if-are_left_out.false in
    subst (λ (b : Bool). PutsLines c.args.lines.now c.put_both.new.lines
    (if b then [] else connection_text c.args.session.now c.args.opening (outline_value c.args.both.now.outline) c.args.both.now.opener_octets c.args.both.now.other_octets
    ++ both_text c.args.printing (told_value c.args.both.now.opener) (told_value c.args.both.now.other))) (sym kept) (then_lines law c.put_connection.ensures c.put_both.ensures)
