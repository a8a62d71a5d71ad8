-- What a step shows: a record for its message, if it has one; then one for each message that it
-- sends, in order, and among these, at any place, one for its change of state, if there is one.
use Rattle.std.specs.Prelude.{◌≡◌, ℕ, List, [], ◌∷◌, Option, None, Some}
use Rattle.bgp_open.specs.Shown.{ShownRecord, Received, Sent, Changed, second_of}
use Rattle.bgp_open.specs.declared.config.Config.{Config}
use Rattle.bgp_open.specs.declared.link.Link.{Link}
use Rattle.bgp_machine.specs.declared.fsm.Fsm.{Fsm}
use Rattle.bgp_machine.specs.declared.want.Want.{Want}
use Rattle.bgp_machine.specs.State.{number_of}
use Rattle.bgp_machine.specs.Step.{Event, Hidden, Received as OnMessage}
use Rattle.bgp_machine.specs.Want.{Meets}

-- One record pays a part of what a step owes: these wants and this change are owed before it, and
-- those are left. A sent message meets the first want, on the link that stood before the step.
abbrev pub Pays : Config → Option Link → ShownRecord
    → List Want → Option (Fsm × Fsm) → List Want → Option (Fsm × Fsm) → Type 0
Pays config link (Received t octets) wants change left still = ⊥
Pays config link (Sent t octets) [] change left still = ⊥
Pays config link (Sent t octets) (want ∷ wants) change left still =
    Meets config link want octets × (left ≡ wants) × (still ≡ change)
Pays config link (Changed t old new) wants None left still = ⊥
Pays config link (Changed t old new) wants (Some change) left still =
    (old ≡ number_of change.0) × (new ≡ number_of change.1) × (left ≡ wants) × (still ≡ None)

-- the records, one after another, pay all that is owed
abbrev pub PaysAll : Config → Option Link → List Want → Option (Fsm × Fsm) → List ShownRecord
    → Type 0
PaysAll config link wants change [] = (wants ≡ []) × (change ≡ None)
PaysAll config link wants change (first ∷ others) =
    (left : List Want) × (still : Option (Fsm × Fsm))
    × Pays config link first wants change left still × PaysAll config link left still others

-- A step at a second shows these records. Its second is that of its first record; one that shows
-- nothing has none.
abbrev pub Shows : Config → Option Link → Event → ℕ → List Want → Option (Fsm × Fsm)
    → List ShownRecord → Type 0
Shows config link (OnMessage octets) t wants change [] = ⊥
Shows config link (OnMessage octets) t wants change (first ∷ others) =
    (first ≡ Received t octets) × PaysAll config link wants change others
Shows config link (Hidden row) t wants change [] = PaysAll config link wants change []
Shows config link (Hidden row) t wants change (first ∷ others) =
    (second_of first ≡ t) × PaysAll config link wants change (first ∷ others)
