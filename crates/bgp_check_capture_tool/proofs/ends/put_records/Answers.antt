use Rattle.std.proofs.Common.{◌∙◌, Bool, [], map, inl, inr, refl, ap, subst}
use Rattle.mrt.specs.Reader.{shown_of}
use Rattle.bgp_check_lines.specs.DeclaredTally.{Tally}
use Rattle.bgp_check_capture_tool.specs.Counted.{with_ends}
use Rattle.mrt_sessions.specs.Located.{located}
use Rattle.bgp_check_capture_tool.specs.Ends.{addresses_of, silent_ends}
use Rattle.bgp_check_capture_tool.specs.Putting.{Adds, heading_of}
use Rattle.bgp_check_capture_tool.specs.StretchEnd.{view_value}
use Rattle.bgp_check_capture_tool.specs.Text.{ends_text}
use Rattle.bgp_check_capture_tool.proofs.Marked.{adds_silent}
use Rattle.bgp_check_capture_tool.proofs.ends.put_records.Goals as goal

pub returns-then-sends_some : goal.returns-then-sends_some
returns-then-sends_some g c =
    let puts = c.put_stretches.ensures in
    record { ends = puts.ends; told = (puts.told.0, puts.told.1, inr (c.sends_some.ensures.0 c.if-sends_some.true, puts.told.2)); adds = puts.adds; tallied = puts.tallied; marked = puts.marked }

pub returns-else-sends_some : goal.returns-else-sends_some
returns-else-sends_some g c = record {
  ends = silent_ends (map shown_of c.args.records.now);
  told = ([], (λ yes. refl, λ none. refl), inl (λ sends. (let k = c.sends_some.ensures.1 sends in let f = c.if-sends_some.false in cc), refl, refl));
  adds = subst (λ (h : Bool). Adds (heading_of (view_value c.args.view.now)) c.args.lines.now c.put_all_silent-put.new.lines h c.put_all_silent-put.result.is_headed
      (ends_text c.args.view.now.telling.printing c.args.view.now.session.local (silent_ends (map shown_of c.args.records.now)))) c.new.ensures.is_headed
      (c.put_all_silent-put.ensures.adds (heading_of (view_value c.args.view.now)));
  tallied = c.put_all_silent-put.ensures.tallied ∙ ap (λ (t : Tally). with_ends t (silent_ends (map shown_of c.args.records.now))) c.new.ensures.tally;
  marked = adds_silent c.args.view.now.telling.printing.quiet (addresses_of c.args.view.now.session) (map located c.args.view.now.named.now) (map shown_of c.args.records.now) c.args.marks.now;
}
