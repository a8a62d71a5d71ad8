use Rattle.std.proofs.Common.{◌≡◌, ◌∙◌, ◌++◌, ◌∷◌, List, sym, ap, append-nil, append_assoc}
use Rattle.std.specs.List.{flat_map}
use Rattle.bgp_update.specs.declared.destination.Destination.{Destination}
use Rattle.bgp_text.specs.Text.{destination_text, destinations_text}
use Rattle.bgp_text.proofs.Joined.{joined}
use Rattle.bgp_text.proofs.Pieces.{Joins, and_then}
use Rattle.bgp_text.proofs.updates.put_destinations.Goals as goal

-- the destinations behind the first
text_of_some : (destinations others : List Destination) (first : Destination) → destinations ≡ first ∷ others
    → destination_text first ++ flat_map (λ d. 32 ∷ destination_text d) others ≡ destinations_text destinations
unfolding destinations_text
text_of_some destinations others first is = rw is (sym (joined 32 destination_text first others))

pub returns-in_default : goal.returns-in_default
unfolding destinations_text
returns-in_default g c = rw c.in_default.ensures.steps.0 c.put.ensures

pub loop-destination-init : goal.loop-destination-init
loop-destination-init g c =
    let all = c.in-Some.ensures.steps ∙ ap (λ (left : List Destination). c.in-Some.first ∷ left) (sym c.into_iter-destination-iterator.ensures.into_iter_gives) in
    (destination_text c.in-Some.first, c.put_destination.ensures, text_of_some c.args.destinations _ c.in-Some.first all)

pub loop-destination-preserved : goal.loop-destination-preserved
loop-destination-preserved g c =
    let law : Joins g.W.Sink = record { joined = g.met.W.Sink.joined } in
    let so_far = c.loop-destination.invariant in
    let one = 32 ∷ destination_text c.in-Some-destination.destination in
    let behind = flat_map (λ d. 32 ∷ destination_text d) c.next-in-loop-destination.new.self in (
      so_far.0 ++ one,
      and_then law so_far.1 (and_then law c.put-in-loop-destination.ensures c.put_destination-in-loop-destination.ensures),
      append_assoc so_far.0 one behind
          ∙ sym (ap (λ (left : List Destination). so_far.0 ++ flat_map (λ d. 32 ∷ destination_text d) left) c.in-Some-destination.ensures.steps)
          ∙ so_far.2,
    )

pub returns : goal.returns
returns g c =
    let so_far = c.loop-destination.invariant in
    let all : so_far.0 ≡ destinations_text c.args.destinations =
    sym (append-nil so_far.0)
    ∙ sym (ap (λ (left : List Destination). so_far.0 ++ flat_map (λ d. 32 ∷ destination_text d) left) c.in-None.ensures.steps.0)
    ∙ so_far.2
    in
    rw all at so_far.1
