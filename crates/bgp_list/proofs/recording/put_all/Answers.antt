use Rattle.std.proofs.Common.{◌∙◌, refl}
use Rattle.bgp_text.proofs.Pieces.{nothing_yet}
use Rattle.bgp_list.proofs.PutSoFar.{all_put, none_put}
use Rattle.bgp_list.proofs.recording.put_all.Goals as goal

pub returns-in_default-clause-puts : goal.returns-in_default-clause-puts
returns-in_default-clause-puts g c = λ packets right.
    none_put c.args.port c.args.form packets c.args.talks.now c.args.last_packet c.args.lines.now c.args.lines.now c.args.refusals.now.items _
    (nothing_yet g.W.Sink g.met.W.Sink.nothing c.args.lines.now.outlet c.args.lines.now.held.items) refl

pub returns-in_default-put_lines-clause-puts : goal.returns-in_default-put_lines-clause-puts
returns-in_default-put_lines-clause-puts g c = λ packets right.
    none_put c.args.port c.args.form packets c.args.talks.now c.args.last_packet c.args.lines.now c.put_lines.new.lines c.args.refusals.now.items _ c.in_default-put_lines.ensures refl

pub returns-clause-puts : goal.returns-clause-puts
returns-clause-puts g c = λ packets right.
    all_put c.args.port c.args.form packets c.args.talks.now c.args.last_packet c.in-Ok.list.items c.args.lines.now c.put_lines.new.lines c.args.refusals.now.items c.add_refusals.new.refusals.items _
    (c.in-Ok.ensures packets right) (rw c.deref.ensures.value at c.in-Ok-put_lines.ensures) (rw c.deref-2.ensures.value at c.add_refusals.ensures.added) (c.len.ensures ∙ c.in-Ok.list.ok.0)
