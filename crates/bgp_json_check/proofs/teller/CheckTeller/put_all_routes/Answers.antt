use Rattle.std.proofs.Common.{◌≡◌, ◌∙◌, ◌++◌, ℕ, List, [], ◌∷◌, ap, sym, append-nil, append_assoc, map}
use Rattle.bgp_update.specs.declared.destination.Destination.{Destination}
use Rattle.bgp_path.specs.Path.{PathValue}
use Rattle.bgp_text.proofs.Pieces.{Joins}
use Rattle.bgp_json_check.specs.Objects.{route_json}
use Rattle.bgp_json_check.proofs.Told.{and_tell, nothing_told}
use Rattle.bgp_json_check.proofs.teller.CheckTeller.put_all_routes.Goals as goal

pub loop-destination-init : goal.loop-destination-init
loop-destination-init g c = (
  [],
  nothing_told g.met.W.Sink.nothing c.args.lines.now c.args.self.now,
  ap (λ (left : List (Destination × PathValue)). map (route_json c.args.kind.now c.args.self.now.judged c.args.end) left) (c.into_iter-destination-iterator.ensures.into_iter_gives ∙ c.routes-destination-items.ensures.rest),
)

pub loop-destination-preserved : goal.loop-destination-preserved
loop-destination-preserved g c =
    let law : Joins g.W.Sink = record { joined = g.met.W.Sink.joined } in
    let so_far = c.loop-destination.invariant in
    let route : Destination × PathValue = (c.in-Some.destination, c.in-Some.path.now) in
    let value = route_json c.args.kind.now c.args.self.now.judged c.args.end in
    let behind = map value c.next.new.self in (
      so_far.0 ++ value route ∷ [],
      and_tell law (λ (n : ℕ). route_json c.args.kind.now n c.args.end route ∷ []) so_far.1 c.put_route.ensures,
      append_assoc so_far.0 (value route ∷ []) behind
          ∙ sym (ap (λ (left : List (Destination × PathValue)). so_far.0 ++ map value left) c.in-Some.ensures.steps)
          ∙ so_far.2,
    )

pub returns : goal.returns
returns g c =
    let so_far = c.loop-destination.invariant in
    let value = route_json c.args.kind.now c.args.self.now.judged c.args.end in
    let all : so_far.0 ≡ map value c.args.rib.now.entries =
    sym (append-nil so_far.0)
    ∙ sym (ap (λ (left : List (Destination × PathValue)). so_far.0 ++ map value left) c.in-None.ensures.steps.0)
    ∙ so_far.2
    in
    rw all at so_far.1
