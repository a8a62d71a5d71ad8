-- What a record pays of what a step has still to show.
use Rattle.std.specs.Prelude.{◌≡◌, List, Option}
use Rattle.bgp_prefix.specs.Shown.{ShownRecord}
use Rattle.bgp_open.specs.declared.config.Config.{Config}
use Rattle.bgp_open.specs.declared.link.Link.{Link}
use Rattle.bgp_machine.specs.declared.fsm.Fsm.{Fsm}
use Rattle.bgp_machine.specs.declared.want.Want.{Want}
use Rattle.bgp_machine.specs.Shows.{Pays}
use Rattle.bgp_machine.specs.Want.{wants_of}
use Rattle.bgp_judge.specs.declared.unshown.Unshown.{Unshown}

-- the record pays a part of it, and those are left
abbrev pub PaysOf : Config → Option Link → ShownRecord → Unshown → List Want → Option (Fsm × Fsm)
    → Type 0
PaysOf config link shown x left still =
    Pays config link shown (wants_of x.wants) x.change left still

-- it pays nothing of it
abbrev pub PaysNothing : Config → Option Link → ShownRecord → Unshown → Type 0
PaysNothing config link shown x =
    (left : List Want) (still : Option (Fsm × Fsm)) → ¬ PaysOf config link shown x left still

-- it pays a part of it, and that is left
pub record Leaves (config : Config) (link : Option Link) (shown : ShownRecord) (x y : Unshown)
    : Type 0 where
  pub pays : PaysOf config link shown x (wants_of y.wants) y.change
  pub only : (left : List Want) (still : Option (Fsm × Fsm)) → PaysOf config link shown x left still
      → (wants_of y.wants ≡ left) × (y.change ≡ still)
