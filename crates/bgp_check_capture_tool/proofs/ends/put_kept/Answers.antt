use Rattle.std.proofs.Common.{◌∙◌, Bool, true, [], if◌then◌else◌, subst, sym}
use Rattle.bgp_text.proofs.Pieces.{Joins}
use Rattle.bgp_check_lines.specs.Lines.{PutsLines}
use Rattle.bgp_check_lines.proofs.Puts.{no_lines}
use Rattle.bgp_check_lines.specs.Sessions.{session_line}
use Rattle.mrt_sessions.specs.declared.addresses.Addresses.{Addresses}
use Rattle.bgp_check_capture_tool.specs.Ends.{Stretch}
use Rattle.bgp_check_capture_tool.specs.Putting.{Adds, heading_of}
use Rattle.bgp_check_capture_tool.specs.StretchEnd.{stretch_value, view_value}
use Rattle.bgp_check_capture_tool.specs.Text.{end_text}
use Rattle.bgp_check_capture_tool.proofs.Adds.{end_is_some, nothing_added, told_added}
use Rattle.bgp_check_capture_tool.proofs.ends.put_kept.Goals as goal

pub returns-then-is_left_out : goal.returns-then-is_left_out
returns-then-is_left_out g c =
    let view = c.args.view.now in
    let left = sym c.is_left_out.ensures ∙ c.if-is_left_out.true in
    subst (λ (b : Bool). Adds (heading_of (view_value view)) c.args.lines.now c.args.lines.now c.args.is_headed c.args.is_headed
    (if b then [] else end_text view.telling.printing.routes view.session.local (Stretch (stretch_value c.args.end.now)))) (sym left)
    (nothing_added (heading_of (view_value view)) c.args.lines.now c.args.lines.now c.args.is_headed (no_lines g.met.W.Sink.nothing c.args.lines.now))

pub returns-else-is_left_out : goal.returns-else-is_left_out
returns-else-is_left_out g c =
    let law : Joins g.W.Sink = record { joined = g.met.W.Sink.joined } in
    let view = c.args.view.now in
    let kept = sym c.is_left_out.ensures ∙ c.if-is_left_out.false in
    let first = subst (λ (a : Addresses). PutsLines c.args.lines.now c.put_heading.new.lines (if c.args.is_headed then [] else session_line a (view_value view).named)) c.addresses_of.ensures c.put_heading.ensures in
    subst (λ (b : Bool). Adds (heading_of (view_value view)) c.args.lines.now c.put_stretch.new.lines c.args.is_headed true
    (if b then [] else end_text view.telling.printing.routes view.session.local (Stretch (stretch_value c.args.end.now)))) (sym kept)
    (told_added law (heading_of (view_value view)) c.args.lines.now c.put_heading.new.lines c.put_stretch.new.lines c.args.is_headed _
    (end_is_some view.telling.printing.routes view.session.local (stretch_value c.args.end.now)) first (c.put_stretch.ensures view.session.local))
