-- Messages that are received: each state makes something of each; and where one is impossible,
-- something before it is still owed.
use Rattle.std.specs.Prelude.{◌≡◌, ◌⊎◌, ◌++◌, ℕ, List, [], ◌∷◌, Option}
use Rattle.bgp_prefix.specs.Shown.{ShownRecord, Received}
use Rattle.bgp_open.specs.declared.config.Config.{Config}
use Rattle.bgp_open.specs.declared.families.Families.{Families}
use Rattle.bgp_open.specs.declared.link.Link.{Link}
use Rattle.bgp_machine.specs.DeclaredSubcodes.{Subcodes}
use Rattle.bgp_machine.specs.Changes.{RouteChanges}
use Rattle.bgp_machine.specs.Outcome.{IsOutcome, Applied}
use Rattle.bgp_machine.specs.declared.fsm.Fsm.{Fsm}
use Rattle.bgp_machine.specs.declared.state.Head.{Head}
use Rattle.bgp_machine.specs.declared.want.Want.{Want}
use Rattle.bgp_machine.specs.Listed.{IsShown}
use Rattle.bgp_machine.specs.Run.{Begins, End, IsComplete}
use Rattle.bgp_machine.specs.State.{Turn}
use Rattle.bgp_machine.specs.Step.{AreRefusals, Received as OnMessage}
use Rattle.bgp_judge.specs.Told.{link_told, told}

-- the octets of an UPDATE are refused or applied on the link
abbrev pub IsSettled : Link → List ℕ → Type 0
IsSettled link octets =
    ((subcodes : Subcodes) × AreRefusals link octets subcodes)
    ⊎ ((changes : RouteChanges) × (families : Families)
    × IsOutcome link octets (Applied changes families))

-- the state has a step about these octets
abbrev pub HasAStep : Config → Head → ℕ → List ℕ → Type 0
HasAStep config head t octets =
    (wants : List Want) × (change : Option (Fsm × Fsm)) × (turn : Turn)
    × IsShown head config t (OnMessage octets) wants change turn

-- Where the octets are impossible after records that settle this link, no run shows just the
-- records: a message or a change of state is owed before.
abbrev pub IsImpossibleWhereOwed : Config → Link → List ℕ → Type 0
IsImpossibleWhereOwed config link octets =
    (records : List ShownRecord) (t : ℕ) → link ≡ link_told config (told records)
    → ¬ Begins config (records ++ Received t octets ∷ [])
    → (e : End) → ¬ IsComplete config records e
