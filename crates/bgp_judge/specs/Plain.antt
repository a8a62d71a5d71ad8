-- Members that are kept whole, in a list.
use Rattle.std.specs.Prelude.{◌≡◌, ◌⊎◌, ◌<◌, ◌++◌, ℕ, List, [], ◌∷◌, map}
use Rattle.bgp_prefix.specs.Shown.{ShownRecord}
use Rattle.bgp_open.specs.declared.config.Config.{Config}
use Rattle.bgp_open.specs.declared.families.Families.{Families}
use Rattle.bgp_machine.specs.Changes.{RouteChanges}
use Rattle.bgp_machine.specs.declared.state.Head.{Head}
use Rattle.bgp_machine.specs.declared.step.Step.{Step}
use Rattle.bgp_machine.specs.Listed.{turn_of}
use Rattle.bgp_machine.specs.Lists.{Has, NoneTwice}
use Rattle.bgp_machine.specs.Run.{End, Silent, end_of}
use Rattle.bgp_machine.specs.State.{SessionState, Turn, link_at, moved, state_value}
use Rattle.bgp_machine.specs.Want.{wants_of}
use Rattle.bgp_judge.specs.declared.member.PlainMember.{PlainMember}
use Rattle.bgp_judge.specs.Ends.{AreInOrder, place_of}
use Rattle.bgp_judge.specs.Member.{Member, IsFree, link_for}
use Rattle.bgp_judge.specs.Next.{Opens}

abbrev pub member_value : {X : Type 0} → PlainMember X → Member
member_value m = record {
  state = state_value m.state;
  link = m.link;
  wants = wants_of m.unshown.wants;
  change = m.unshown.change;
}

-- the member is in the list
abbrev pub Among : {X : Type 0} → List (PlainMember X) → Member → Type 0
Among members m = Has (λ x. member_value x ≡ m) members

-- no two members are equal
abbrev pub AreApart : {X : Type 0} → List (PlainMember X) → Type 0
AreApart members = NoneTwice (map member_value members)

-- The new list has the members of the old one, and those besides, and no other. It has no two equal
-- ones where the old one has none.
pub record Gains {X : Type 0} (old new : List (PlainMember X)) (Also : Member → Type 0)
    : Type 0 where
  pub only : (m : Member) → Among new m → Among old m ⊎ Also m
  pub keeps : (m : Member) → Among old m → Among new m
  pub adds : (m : Member) → Also m → Among new m
  pub apart : AreApart old → AreApart new

-- what a step makes of a state, which has then this left to show
abbrev pub opened_member : SessionState → Head → RouteChanges → Step → Member
opened_member s head changes step = record {
  state = moved s (turn_of changes step.after);
  link = link_for (wants_of step.wants) (link_at head);
  wants = wants_of step.wants;
  change = step.change;
}

-- what the steps make of a state that a record opens from this head
abbrev pub StartsAt : Config → ShownRecord → SessionState → Head → Member → Type 0
StartsAt config shown s head m =
    (turn : Turn) × Opens config head shown m.wants m.change turn × (m.state ≡ moved s turn)
    × (m.link ≡ link_for m.wants (link_at head))

-- what they make of it from the heads that silence leads to
abbrev pub StartsFrom : Config → ShownRecord → SessionState → Member → Type 0
StartsFrom config shown s m =
    (head : Head) × Silent config s (record s { head = head }) × StartsAt config shown s head m

-- the end of a member that has nothing left to show, with these families disabled
abbrev pub IsEndWith : Families → Member → End → Type 0
IsEndWith families m e = IsFree m × (end_of m.state ≡ e) × (e.routes.disabled ≡ families)

-- the new list has the member's end besides, if it is one with these families disabled
abbrev pub AddsEnd : Families → Member → List End → List End → Type 0
AddsEnd families m old new =
    ((new ≡ old) × ((e : End) → IsEndWith families m e → Has (λ x. x ≡ e) old))
    ⊎ ((e : End) × IsEndWith families m e × (¬ Has (λ x. x ≡ e) old) × (new ≡ old ++ e ∷ []))

-- where the member's state ends
abbrev pub end_of_member : {X : Type 0} → PlainMember X → End
end_of_member m = end_of (state_value m.state)

-- the end of a member that has nothing left to show
abbrev pub IsEndOf : {X : Type 0} → List (PlainMember X) → End → Type 0
IsEndOf members e = (m : Member) × Among members m × IsFree m × (end_of m.state ≡ e)

-- The ends of the members that have nothing left to show and whose disabled families stand before
-- this place: none twice, and in order.
pub record ListsEndsBelow {X : Type 0} (place : ℕ) (members : List (PlainMember X))
    (ends : List End) : Type 0 where
  pub only : (e : End) → Has (λ x. x ≡ e) ends
      → IsEndOf members e × (place_of e.routes.disabled < place)
  pub every : (e : End) → IsEndOf members e → place_of e.routes.disabled < place
      → Has (λ x. x ≡ e) ends
  pub none_twice : NoneTwice ends
  pub in_order : AreInOrder ends
