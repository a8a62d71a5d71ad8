use Rattle.std.proofs.Common.{◌≡◌, ◌∙◌, ◌++◌, List, [], ◌∷◌, ap, sym, append-nil, append_assoc, map}
use Rattle.bgp_update.specs.declared.destination.Destination.{Destination}
use Rattle.bgp_path.specs.Path.{PathValue}
use Rattle.bgp_text.proofs.Pieces.{Joins}
use Rattle.bgp_json_verdicts.specs.Lines.{HasRoute, route_value}
use Rattle.bgp_json_verdicts.proofs.Told.{and_tell, nothing_told}
use Rattle.bgp_json_verdicts.proofs.telling.Telling.put_routes.Goals as goal

pub loop-destination-init : goal.loop-destination-init
loop-destination-init g c = (
  [],
  nothing_told g.met.W.Sink.nothing c.args.lines.now c.args.self.now,
  ap (λ (left : List (Destination × PathValue)). map route_value left) (c.into_iter-destination-iterator.ensures.into_iter_gives ∙ c.routes-destination-items.ensures.rest),
)

pub loop-destination-preserved : goal.loop-destination-preserved
loop-destination-preserved g c =
    let law : Joins g.W.Sink = record { joined = g.met.W.Sink.joined } in
    let so_far = c.loop-destination.invariant in
    let one = HasRoute c.in-Some.destination c.in-Some.path.now ∷ [] in
    let behind = map route_value c.next.new.self in (
      so_far.0 ++ one,
      and_tell law so_far.1 c.put_route.ensures,
      append_assoc so_far.0 one behind
          ∙ sym (ap (λ (left : List (Destination × PathValue)). so_far.0 ++ map route_value left) c.in-Some.ensures.steps)
          ∙ so_far.2,
    )

pub returns : goal.returns
returns g c =
    let so_far = c.loop-destination.invariant in
    let all : so_far.0 ≡ map route_value c.args.rib.now.entries =
    sym (append-nil so_far.0)
    ∙ sym (ap (λ (left : List (Destination × PathValue)). so_far.0 ++ map route_value left) c.in-None.ensures.steps.0)
    ∙ so_far.2
    in
    rw all at so_far.1
