-- The outcomes that a value of `Outcomes` stands for.
use Rattle.std.specs.Prelude.{◌≡◌, ◌++◌, List, [], Option, None, Some, IsTrue, IsFalse}
use Rattle.std.specs.Prelude.{MatchOption}
use Rattle.bgp_open.specs.Family.{Family}
use Rattle.bgp_open.specs.declared.families.Families.{Families}
use Rattle.bgp_open.specs.Families.{contains}
use Rattle.bgp_update.specs.declared.outcomes.Changes.{Changes}
use Rattle.bgp_update.specs.declared.outcomes.Outcomes.{Outcomes}
use Rattle.bgp_update.specs.declared.outcomes.Put.{Put}
use Rattle.bgp_update.specs.Changes.{Route, RouteChanges, routes_with}
use Rattle.bgp_update.specs.Disabled.{IsDisabled}
use Rattle.bgp_update.specs.Outcome.{Outcome, Applied, Reset}
use Rattle.bgp_update.specs.Subcodes.{HasSubcode}

-- the routes of a group, each of its destinations with its path
abbrev pub put_routes : {X : Type 0} → Put X → List Route
put_routes p = routes_with p.path p.destinations.items

-- those of a group that may not be there
abbrev pub group_routes : {X : Type 0} → Option (Put X) → List Route
group_routes None = []
group_routes (Some p) = put_routes p

-- the changes: the routes of the NLRI field, and then those of MP_REACH_NLRI
abbrev pub changes_value : {X : Type 0} → Changes X → RouteChanges
changes_value c = record {
  remove = c.remove.items;
  put = group_routes c.nlri ++ group_routes c.mp_reach_nlri;
}

-- a reset with each of the subcodes; and, where there are changes, an Apply of them for each set of
-- families with the certain ones and any part of the optional ones
abbrev pub Allows : {X : Type 0} → Outcomes X → Outcome → Type 0
Allows o (Reset n) = HasSubcode o.reset n
Allows o (Applied changes disabled) =
    MatchOption o.changes ⊥ (λ c. (changes ≡ changes_value c)
    × IsDisabled (λ f. IsTrue (contains o.certain f))
    (λ f. IsTrue (contains o.optional f)) disabled)

-- no family is both certain and optional
abbrev pub AreApart : Families → Families → Type 0
AreApart certain optional =
    (family : Family) → IsTrue (contains optional family) → IsFalse (contains certain family)
