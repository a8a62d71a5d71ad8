use Rattle.std.proofs.Common.{◌≡◌, ◌∙◌, ◌++◌, List, [], sym, ap, append-nil, append_assoc, codes}
use Rattle.std.specs.List.{flat_map}
use Rattle.bgp_text.proofs.Pieces.{Joins, and_then, nothing_yet}
use Rattle.bgp_open.specs.Capability.{capability_of}
use Rattle.bgp_open.specs.Triplet.{Triplet}
use Rattle.bgp_lines.specs.OpenLine.{named_capability}
use Rattle.bgp_lines.proofs.open_line.put_capabilities.Goals as goal

pub loop-capability-init : goal.loop-capability-init
loop-capability-init g c =
    ([], nothing_yet g.W.Sink g.met.W.Sink.nothing c.args.lines.now.outlet c.args.lines.now.held.items, ap (λ (left : List Triplet). flat_map (λ (t : Triplet). codes " | " ++ named_capability t) left) c.into_iter-capability-iterator.ensures.into_iter_gives)

pub loop-capability-preserved : goal.loop-capability-preserved
loop-capability-preserved g c =
    let law : Joins g.W.Sink = record { joined = g.met.W.Sink.joined } in
    let so_far = c.loop-capability.invariant in
    let one = (λ (t : Triplet). codes " | " ++ named_capability t) (capability_of c.in-Some.capability) in
    let behind = flat_map (λ (t : Triplet). codes " | " ++ named_capability t) c.next.new.self in (
      so_far.0 ++ one,
      and_then law so_far.1 (and_then law c.put.ensures c.put_capability.ensures),
      append_assoc so_far.0 one behind
          ∙ sym (ap (λ (left : List Triplet). so_far.0 ++ flat_map (λ (t : Triplet). codes " | " ++ named_capability t) left) c.in-Some.ensures.steps)
          ∙ so_far.2,
    )

pub returns : goal.returns
returns g c =
    let so_far = c.loop-capability.invariant in
    let all : so_far.0 ≡ flat_map (λ (t : Triplet). codes " | " ++ named_capability t) c.args.capabilities =
    sym (append-nil so_far.0)
    ∙ sym (ap (λ (left : List Triplet). so_far.0 ++ flat_map (λ (t : Triplet). codes " | " ++ named_capability t) left) c.in-None.ensures.steps.0)
    ∙ so_far.2
    in
    rw all at so_far.1
