-- A record that is no received message opens no step that makes changes.
use Rattle.std.proofs.Common.{◌≡◌, ◌⊎◌, inl, inr, List, [], ◌∷◌, Option, ap, subst}
use Rattle.bgp_prefix.specs.Shown.{ShownRecord}
use Rattle.bgp_open.specs.declared.config.Config.{Config}
use Rattle.bgp_open.specs.declared.families.Families.{Families}
use Rattle.bgp_machine.specs.declared.fsm.Fsm.{Fsm}
use Rattle.bgp_machine.specs.declared.state.Head.{Head}
use Rattle.bgp_machine.specs.declared.step.Routes.{Routes}
use Rattle.bgp_machine.specs.declared.step.Routes.TheVariants as routes
use Rattle.bgp_machine.specs.declared.step.Step.{Step}
use Rattle.bgp_machine.specs.declared.want.Want.{Want}
use Rattle.bgp_machine.specs.Going.{Falling}
use Rattle.bgp_machine.specs.Listed.{MakesChanges, no_changes, routes_turn, turn_of}
use Rattle.bgp_machine.specs.Lists.{Has, Each}
use Rattle.bgp_machine.specs.Shows.{Pays}
use Rattle.bgp_machine.specs.State.{Turn, Kept, Cleared, Given, link_at}
use Rattle.bgp_machine.specs.Want.{wants_of}
use Rattle.bgp_machine.proofs.Shapes.{shape_hidden}
use Rattle.bgp_judge.specs.Next.{Opens}
use Rattle.bgp_judge.specs.Openings.{IsOwn, ListsOpenings}
use Rattle.bgp_judge.proofs.KeptSteps.{own_opens}

-- routes that are given are neither kept nor cleared
otherwise : (r : Routes) (f : Families) → r ≡ routes.Given f → (routes_turn no_changes r ≡ Kept) ⊎ (routes_turn no_changes r ≡ Cleared) → ⊥
otherwise r f is (inl kept) = let given : routes_turn no_changes r ≡ Given no_changes f = ap (routes_turn no_changes) is in cc
otherwise r f is (inr cleared) = let given : routes_turn no_changes r ≡ Given no_changes f = ap (routes_turn no_changes) is in cc

-- such a record's step falls or goes on, and the routes are cleared or kept
module _ (config : Config) (head : Head) (shown : ShownRecord) (own : IsOwn shown) where
  falls_so : (left : List Want) (turn : Turn) → Falling head left turn → (turn.routes ≡ Kept) ⊎ (turn.routes ≡ Cleared)
  falls_so left turn f = elim f.ends [ inl e ↦ inr (ap (λ (v : Turn). v.routes) e) | inr p ↦ inl (ap (λ (v : Turn). v.routes) p.1) ]

  routes_so : (left : List Want) (still : Option (Fsm × Fsm)) (turn : Turn) → Opens config head shown left still turn
      → (turn.routes ≡ Kept) ⊎ (turn.routes ≡ Cleared)
  routes_so left still turn opens =
      let k = own_opens config head shown left still turn own opens in
      let shape =
      shape_hidden config head shown k.0 k.1 left still turn k.3.0
      (subst (λ (c : Option (Fsm × Fsm)). Pays config (link_at head) shown k.1 c left still) k.3.1 k.4)
      in
      elim shape.way [ inl f ↦ falls_so left turn f | inr g ↦ inl g.routes ]

  none_among : (steps : List Step) → Each (λ x. Opens config head shown (wants_of x.wants) x.change (turn_of no_changes x.after)) steps
      → Has MakesChanges steps → ⊥
  none_among [] each makes = makes
  none_among (x ∷ xs) each (inl makes) = otherwise x.after.routes makes.0 makes.1 (routes_so (wants_of x.wants) x.change (turn_of no_changes x.after) each.0)
  none_among (x ∷ xs) each (inr makes) = none_among xs each.1 makes

  pub none_makes : (steps : List Step) → ListsOpenings config head shown no_changes steps → Has MakesChanges steps → ⊥
  none_makes steps lists makes = none_among steps lists.each makes
