use Rattle.std.proofs.Common.{◌∙◌, ◌++◌, ◌+◌, ℕ, [], None, ap, refl, subst, inl, inr}
use Rattle.bgp_text.proofs.Pieces.{Joins, nothing_yet, and_nothing, and_then}
use Rattle.bgp_lines.specs.Form.{nothing_before}
use Rattle.bgp_json.specs.Output.{IsJson, form_of}
use Rattle.bgp_import.proofs.Entries.{here_and_behind, all_behind}
use Rattle.bgp_recording_tool.specs.Decoding.{HasLine}
use Rattle.bgp_recording_tool.proofs.EntryLines.{line_in, lines_before_one, no_line_left, one_line_more}
use Rattle.bgp_recording_tool.proofs.decoding.put_entries.Goals as goal

pub loop-entry-init : goal.loop-entry-init
loop-entry-init g c = record {
  so_far = (
    [],
    nothing_before,
    nothing_yet g.W.Sink g.met.W.Sink.nothing c.args.lines.now.outlet c.args.lines.now.held.items,
    c.new-teller.ensures.knows,
    λ left rest are. are,
  );
  same_form = c.new-teller.ensures.form;
  counted = refl;
  left = c.requires;
}

pub put_record-requires : goal.put_record-requires
put_record-requires g c =
    (None, (here_and_behind c.args.entries.now c.loop-entry.entry-index _ c.loop-entry-test.true (HasLine c.args.session.now) c.loop-entry.invariant.left).0)

pub loop-entry-preserved : goal.loop-entry-preserved
loop-entry-preserved g c =
    let law : Joins g.W.Sink = record { joined = g.met.W.Sink.joined } in
    let form = c.args.form in
    let session = c.args.session.now in
    let (text, before, wrote, knows, followed) = c.loop-entry.invariant.so_far in
    let (line, told, put) = c.in-Ok.ensures.line before knows in
    let is_line = line_in form (form_of c.loop-entry.teller) session before c.loop-entry.entry-index c.loop-entry.number _ line
    c.loop-entry.invariant.same_form c.loop-entry.invariant.counted told in
    record {
      so_far = (
        text ++ line,
        _,
        and_then law wrote put.0,
        c.in-Ok.ensures.knows before knows,
        one_line_more form session c.args.entries.now before c.loop-entry.entry-index _ c.loop-entry-test.true text line
            is_line followed,
      );
      same_form = c.in-Ok.ensures.form ∙ c.loop-entry.invariant.same_form;
      counted = ap (λ (n : ℕ). n + 1) c.loop-entry.invariant.counted;
      left = all_behind c.args.entries.now c.loop-entry.entry-index c.loop-entry-test.true (HasLine c.args.session.now) c.loop-entry.invariant.left;
    }

pub returns-in-Err : goal.returns-in-Err
returns-in-Err g c =
    let law : Joins g.W.Sink = record { joined = g.met.W.Sink.joined } in
    let (text, before, wrote, knows, followed) = c.loop-entry.invariant.so_far in
    let (line, told, put) = c.in-Err.ensures.line before knows in (
      text,
      inr (
        subst IsJson c.loop-entry.invariant.same_form put.1,
        lines_before_one c.args.form c.args.session.now c.args.entries.now before c.loop-entry.entry-index c.loop-entry-test.true text followed,
        refl,
      ),
      and_nothing law wrote put.0,
    )

pub returns : goal.returns
returns g c =
    let (text, before, wrote, knows, followed) = c.loop-entry.invariant.so_far in (
      text,
      inl (no_line_left c.args.form c.args.session.now c.args.entries.now before c.loop-entry.entry-index c.loop-entry-test.false text followed, refl),
      wrote,
    )
