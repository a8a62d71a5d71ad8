use Rattle.std.proofs.Common.{◌≡◌, ◌∙◌, ◌++◌, ◌∷◌, List, sym, ap, append-nil, append_assoc}
use Rattle.std.specs.List.{flat_map}
use Rattle.bgp_text.specs.Destination.{Destination}
use Rattle.bgp_text.specs.Text.{destination_text, destinations_text}
use Rattle.bgp_text.proofs.Joined.{joined}
use Rattle.bgp_text.proofs.Pieces.{Joins, and_then}
use Rattle.bgp_lines.proofs.routes_line.put_listed.Goals as goal

-- the destinations behind the first
text_of_some : (first : Destination) (others : List Destination)
    → destination_text first ++ flat_map (λ d. 32 ∷ destination_text d) others ≡ destinations_text (first ∷ others)
unfolding destinations_text
text_of_some first others = sym (joined 32 destination_text first others)

pub loop-destination-init : goal.loop-destination-init
loop-destination-init g c = (
  destination_text c.args.first,
  c.put_destination.ensures,
  ap (λ (left : List Destination). destination_text c.args.first ++ flat_map (λ d. 32 ∷ destination_text d) left) c.into_iter-destination-iterator.ensures.into_iter_gives
      ∙ text_of_some c.args.first c.args.others,
)

pub loop-destination-preserved : goal.loop-destination-preserved
loop-destination-preserved g c =
    let law : Joins g.W.Sink = record { joined = g.met.W.Sink.joined } in
    let so_far = c.loop-destination.invariant in
    let one = 32 ∷ destination_text c.in-Some.destination in
    let behind = flat_map (λ d. 32 ∷ destination_text d) c.next.new.self in (
      so_far.0 ++ one,
      and_then law so_far.1 (and_then law c.put.ensures c.put_destination-in-loop-destination.ensures),
      append_assoc so_far.0 one behind
          ∙ sym (ap (λ (left : List Destination). so_far.0 ++ flat_map (λ d. 32 ∷ destination_text d) left) c.in-Some.ensures.steps)
          ∙ so_far.2,
    )

pub returns : goal.returns
returns g c =
    let so_far = c.loop-destination.invariant in
    let all : so_far.0 ≡ destinations_text (c.args.first ∷ c.args.others) =
    sym (append-nil so_far.0)
    ∙ sym (ap (λ (left : List Destination). so_far.0 ++ flat_map (λ d. 32 ∷ destination_text d) left) c.in-None.ensures.steps.0)
    ∙ so_far.2
    in
    rw all at so_far.1
