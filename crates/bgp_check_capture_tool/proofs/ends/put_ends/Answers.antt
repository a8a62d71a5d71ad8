use Rattle.std.proofs.Common.{[], List, ap, inl, inr, map, not, refl, subst}
use Rattle.mrt.specs.Reader.{shown_of}
use Rattle.mrt_sessions.specs.File.{Located}
use Rattle.mrt_sessions.specs.Located.{located}
use Rattle.mrt_sessions.specs.Reading.{IsReading}
use Rattle.bgp_check_lines.specs.Sessions.{session_line}
use Rattle.bgp_check_lines.proofs.Puts.{no_lines}
use Rattle.bgp_check_capture_tool.proofs.Adds.{nothing_added}
use Rattle.bgp_check_capture_tool.proofs.Marked.{adds_nothing}
use Rattle.bgp_check_capture_tool.proofs.WholeSession.{all_told, seen_as}
use Rattle.bgp_check_capture_tool.proofs.ends.put_ends.Goals as goal

pub returns-in_default : goal.returns-in_default
returns-in_default g c = record { ends = []; told = inr (refl, refl); adds = nothing_added (session_line c.args.addresses (map located c.args.named.now)) c.args.lines.now _ (not c.args.telling.printing.quiet) (no_lines g.met.W.Sink.nothing c.args.lines.now); tallied = refl; marked = adds_nothing c.args.marks.now }

pub returns-then-is_all : goal.returns-then-is_all
returns-then-is_all g c =
    let reading = subst (λ (ls : List Located). IsReading c.args.addresses c.extended_messages-extended.result ls (map shown_of c.in-Ok.read.records.items) c.in-Ok.read.fault) c.requires.mine c.in-Ok.ensures in
    all_told c.args.telling c.args.addresses (map located c.args.named.now) _ _ (map shown_of c.in-Ok.read.records.items) c.extended_messages-extended.result
    c.in-Ok.read.fault _ c.put_records-is_all.result.1 c.args.lines.now _ c.args.tally _ c.args.marks.now _ (seen_as c.args.telling c.args.addresses (map located c.args.named.now) c.in-Ok.read.fault _ _ c.where_refused.ensures c.session_of.ensures)
    (ap (map shown_of) c.deref.ensures.value)
    c.extended_messages-extended.ensures.received c.extended_messages-extended.ensures.sent reading (inl (c.if-is_all.true, refl)) c.put_records-is_all.ensures

pub returns : goal.returns
returns g c =
    let reading = subst (λ (ls : List Located). IsReading c.args.addresses c.extended_messages-extended.result ls (map shown_of c.in-Ok.read.records.items) c.in-Ok.read.fault) c.requires.mine c.in-Ok.ensures in
    all_told c.args.telling c.args.addresses (map located c.args.named.now) _ _ (map shown_of c.in-Ok.read.records.items) c.extended_messages-extended.result
    c.in-Ok.read.fault _ c.put_records-is_all.result.1 c.args.lines.now _ c.args.tally _ c.args.marks.now _ (seen_as c.args.telling c.args.addresses (map located c.args.named.now) c.in-Ok.read.fault _ _ c.where_refused.ensures c.session_of.ensures)
    (ap (map shown_of) c.deref.ensures.value)
    c.extended_messages-extended.ensures.received c.extended_messages-extended.ensures.sent reading (inr (λ yes. (let f = c.if-is_all.false in cc), refl)) c.put_records-is_all.ensures
