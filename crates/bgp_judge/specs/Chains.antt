-- Chains of members: where a session's records lead, one after another, by what each makes of a
-- member. And that routes decide nothing in them.
use Rattle.std.specs.Prelude.{◌≡◌, ◌↔◌, List, [], ◌∷◌}
use Rattle.bgp_prefix.specs.Shown.{ShownRecord}
use Rattle.bgp_open.specs.declared.config.Config.{Config}
use Rattle.bgp_machine.specs.Routes.{Routes, no_routes}
use Rattle.bgp_machine.specs.Run.{Begins, End, IsComplete, end_of}
use Rattle.bgp_judge.specs.Member.{Member, IsFree, fresh_member}
use Rattle.bgp_judge.specs.Next.{Next}

-- the records lead from the one member to the other
abbrev pub Reaches : Config → Member → List ShownRecord → Member → Type 0
Reaches config m [] last = m ≡ last
Reaches config m (shown ∷ records) last =
    (next : Member) × Next config shown m next × Reaches config next records last

abbrev pub with_routes : Routes → Member → Member
with_routes routes m = record m { state = record m.state { routes = routes } }

-- the member with its routes forgotten: it has none, and no family is disabled
abbrev pub bare : Member → Member
bare m = with_routes no_routes m

-- the record makes this of the member, once the routes of what it makes are forgotten
abbrev pub BareNext : Config → ShownRecord → Member → Member → Type 0
BareNext config shown m next = (x : Member) × Next config shown m x × (bare x ≡ next)

-- the records lead from the one member to the other, where routes are forgotten at each record
abbrev pub BareReaches : Config → Member → List ShownRecord → Member → Type 0
BareReaches config m [] last = m ≡ last
BareReaches config m (shown ∷ records) last =
    (next : Member) × BareNext config shown m next × BareReaches config next records last

-- ---- the laws

-- records begin a run exactly where they lead from the fresh member to some member
abbrev pub BeginsByChains : Type 0
BeginsByChains =
    (config : Config) (records : List ShownRecord)
    → Begins config records ↔ ((m : Member) × Reaches config fresh_member records m)

-- some run shows just the records and ends so, exactly where they lead to a member that ends so and
-- has nothing left to show
abbrev pub EndsByChains : Type 0
EndsByChains =
    (config : Config) (records : List ShownRecord) (e : End)
    → IsComplete config records e
    ↔ ((m : Member) × Reaches config fresh_member records m × IsFree m × (end_of m.state ≡ e))

-- with routes forgotten, a record makes the same of a member and of it without routes
abbrev pub BareStep : Type 0
BareStep =
    (config : Config) (shown : ShownRecord) (m next : Member)
    → BareNext config shown m next ↔ BareNext config shown (bare m) next

-- chains that forget routes at each record lead to just what chains lead to, with routes forgotten
abbrev pub BareChains : Type 0
BareChains =
    (config : Config) (records : List ShownRecord) (m last : Member)
    → BareReaches config (bare m) records last
    ↔ ((x : Member) × Reaches config m records x × (bare x ≡ last))
