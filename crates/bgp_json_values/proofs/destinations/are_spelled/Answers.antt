use Rattle.std.proofs.Common.{◌≡◌, ◌∙◌, ◌+◌, ◌<◌, ◌∷◌, ℕ, suc, List, ap, ap₂, arith, bytes_eq, drop, drop-cons, get_or, length, sym}
use Rattle.bgp_values.specs.Destination.{Destination}
use Rattle.bgp_json_values.specs.RoutesJson.{spelled_destination, spelled_destinations}
use Rattle.bgp_json_values.proofs.FrontsCompared.{by_rest, differ}
use Rattle.bgp_json_values.proofs.destinations.are_spelled.Goals as goal

first_left : (destinations : List Destination) (i : ℕ) (d : Destination) → i < length destinations → d ≡ get_or destinations i d → drop i destinations ≡ d ∷ drop (i + 1) destinations
first_left destinations i d within is =
    let next : suc i ≡ i + 1 = omega arith in
    drop-cons destinations i d within ∙ ap₂ ◌∷◌ (sym is) (ap (λ (k : ℕ). drop k destinations) next)

-- what is left to compare, if octets begin with the first of the destinations that are left
same_left : (destinations : List Destination) (i : ℕ) (d : Destination) (rest : List ℕ) → i < length destinations → d ≡ get_or destinations i d
    → bytes_eq (spelled_destinations (d ∷ drop (i + 1) destinations)) rest ≡ bytes_eq (spelled_destinations (drop i destinations)) rest
same_left destinations i d rest within is =
    ap (λ (left : List Destination). bytes_eq (spelled_destinations left) rest) (sym (first_left destinations i d within is))

pub returns-in-None : goal.returns-in-None
returns-in-None c =
    let destinations = c.args.destinations.now in
    let i = c.loop-destination.destination-index in
    let d = c.destination-item.result in
    let rest = c.loop-destination.rest.now in
    differ (spelled_destination d) (spelled_destinations (drop (i + 1) destinations)) rest c.in-None.ensures
    ∙ same_left destinations i d rest (omega arith) c.destination-item.is ∙ c.loop-destination.invariant

pub loop-destination-preserved : goal.loop-destination-preserved
loop-destination-preserved c =
    let destinations = c.args.destinations.now in
    let i = c.loop-destination.destination-index in
    let d = c.destination-item.result in
    let rest = c.loop-destination.rest.now in
    sym (by_rest (spelled_destination d) (spelled_destinations (drop (i + 1) destinations)) rest c.in-Some.others.now c.in-Some.ensures)
    ∙ same_left destinations i d rest (omega arith) c.destination-item.is ∙ c.loop-destination.invariant
