-- The longest front of records that has an end in Established, as far as it is known.
use Rattle.std.specs.Prelude.{◌≡◌, ◌≢◌, ◌<◌, ◌≤◌, ℕ, List, [], ◌∷◌, Option, None, Some}
use Rattle.std.specs.Prelude.{length, map, take}
use Rattle.bgp_prefix.specs.Shown.{ShownRecord}
use Rattle.bgp_open.specs.declared.config.Config.{Config}
use Rattle.bgp_machine.specs.Lists.{Each}
use Rattle.bgp_machine.specs.Run.{End, IsComplete}
use Rattle.bgp_machine.specs.declared.fsm.Fsm.TheVariants as fsms
use Rattle.bgp_judge.specs.Ends.{ListsEnds, end_value}
use Rattle.bgp_watch.specs.declared.front.Front.{Front}

-- some run under this configuration shows just the records, and ends in Established
abbrev pub EndsEstablished : Config → List ShownRecord → Type 0
EndsEstablished config records =
    (e : End) × IsComplete config records e × (e.fsm ≡ fsms.Established)

-- a front: how many records it has, and ends
pub record FrontValue : Type 0 where
  pub count : ℕ
  pub ends : List End

abbrev pub front_value : {X : Type 0} → Front X → FrontValue
front_value front = record { count = front.count; ends = map end_value front.ends.items }

-- Of all fronts of the records with such a run this is the longest, with all ends of the runs that
-- show just that one.
pub record IsLongestFront (config : Config) (records : List ShownRecord) (front : FrontValue)
    : Type 0 where
  pub is_front : front.count ≤ length records
  pub has_some : front.ends ≢ []
  pub lists : ListsEnds config (take front.count records) front.ends
  pub are_established : Each (λ e. e.fsm ≡ fsms.Established) front.ends
  pub is_longest : (n : ℕ) → front.count < n → n ≤ length records
      → ¬ EndsEstablished config (take n records)

-- this front is known for the longest; or nothing is known
abbrev pub IsWatched : Config → List ShownRecord → Option FrontValue → Type 0
IsWatched config records None = Unit {0}
IsWatched config records (Some front) = IsLongestFront config records front

-- there are ends, and the first is in Established
abbrev pub StartsEstablished : List End → Type 0
StartsEstablished [] = ⊥
StartsEstablished (e ∷ ends) = e.fsm ≡ fsms.Established
