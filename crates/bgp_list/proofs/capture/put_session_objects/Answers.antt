use Rattle.std.proofs.Common.{◌∙◌, List, ℕ, subst}
use Rattle.bgp_text.proofs.Pieces.{nothing_yet}
use Rattle.bgp_text.specs.Lines.{Writes}
use Rattle.bgp_list.proofs.Objects.{session_values_are, sessions_are}
use Rattle.bgp_list.proofs.capture.put_session_objects.Goals as goal

pub returns-in-Ok : goal.returns-in-Ok
returns-in-Ok g c = λ named holds.
    let objects = c.in-Ok.ensures in (
      subst (λ (t : List ℕ). Writes c.args.lines.now c.put.new.self t) (c.as_slice.ensures.value ∙ objects.are_lines ∙ sessions_are named c.args.sessions.now holds) c.put.ensures,
      session_values_are named c.args.sessions.now holds objects.are_values,
    )

pub returns-in-Err : goal.returns-in-Err
returns-in-Err g c = λ named holds. nothing_yet g.W.Sink g.met.W.Sink.nothing c.args.lines.now.outlet c.args.lines.now.held.items
