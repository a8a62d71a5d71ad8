-- The possible ends of a session's records, in a list: where the runs end that show just them.
use Rattle.std.specs.Prelude.{◌≡◌, ◌≤◌, ◌+◌, ℕ, List, [], ◌∷◌, if◌then◌else◌}
use Rattle.bgp_prefix.specs.Shown.{ShownRecord}
use Rattle.bgp_open.specs.declared.config.Config.{Config}
use Rattle.bgp_open.specs.declared.families.Families.{Families}
use Rattle.bgp_machine.specs.Lists.{Has, Each, NoneTwice}
use Rattle.bgp_machine.specs.Run.{End, IsComplete}
use Rattle.bgp_judge.specs.declared.end.End.{End as TheEnd}

-- the place of the disabled families in a list of ends: none, IPv4, IPv6, both
abbrev pub place_of : Families → ℕ
place_of families = (if families.v4 then 1 else 0) + (if families.v6 then 2 else 0)

abbrev pub AreInOrder : List End → Type 0
AreInOrder [] = Unit {0}
AreInOrder (x ∷ xs) =
    Each (λ y. place_of x.routes.disabled ≤ place_of y.routes.disabled) xs × AreInOrder xs

-- The ends are just those of the runs that show the records, and all of them; none stands twice;
-- and they stand in the order of their disabled families.
pub record ListsEnds (config : Config) (records : List ShownRecord) (ends : List End)
    : Type 0 where
  pub each : Each (IsComplete config records) ends
  pub every : (e : End) → IsComplete config records e → Has (λ x. x ≡ e) ends
  pub none_twice : NoneTwice ends
  pub in_order : AreInOrder ends

-- an end that is answered
abbrev pub end_value : {X : Type 0} → TheEnd X → End
end_value e = record { fsm = e.fsm; routes = e.rib }
