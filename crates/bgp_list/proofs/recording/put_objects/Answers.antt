use Rattle.std.proofs.Common.{◌∙◌, List, ℕ, subst}
use Rattle.bgp_text.proofs.Pieces.{nothing_yet}
use Rattle.bgp_text.specs.Lines.{Writes}
use Rattle.bgp_list.proofs.Objects.{lines_are, values_are}
use Rattle.bgp_list.proofs.recording.put_objects.Goals as goal

pub returns-in-Ok : goal.returns-in-Ok
returns-in-Ok g c =
    let objects = c.in-Ok.ensures in (
      subst (λ (t : List ℕ). Writes c.args.lines.now c.put.new.self t) (c.as_slice.ensures.value ∙ objects.are_lines ∙ lines_are c.args.list.now) c.put.ensures,
      values_are c.args.list.now objects.are_values,
    )

pub returns-in-Err : goal.returns-in-Err
returns-in-Err g c = nothing_yet g.W.Sink g.met.W.Sink.nothing c.args.lines.now.outlet c.args.lines.now.held.items
