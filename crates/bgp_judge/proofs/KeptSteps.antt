-- From a state's own steps to those of them that a record opens.
use Rattle.std.proofs.Common.{◌≡◌, ℕ, ◌<◌, ◌≤◌, ◌+◌, inl, inr, List, [], ◌∷◌, ◌++◌, Option, None, Some, zero, suc, length, take, get_or, sym, ap, subst, ◌∙◌, arith}
use Rattle.std.proofs.lemmas.List.{take_more, take_all}
use Rattle.bgp_prefix.specs.Shown.{ShownRecord, Received, Sent, Changed, second_of}
use Rattle.bgp_open.specs.declared.config.Config.{Config}
use Rattle.bgp_open.specs.declared.link.Link.{Link}
use Rattle.bgp_machine.specs.declared.fsm.Fsm.{Fsm}
use Rattle.bgp_machine.specs.declared.rows.HiddenRow.{HiddenRow}
use Rattle.bgp_machine.specs.declared.state.Head.{Head}
use Rattle.bgp_machine.specs.declared.step.After.{After}
use Rattle.bgp_machine.specs.declared.step.Step.{Step}
use Rattle.bgp_machine.specs.declared.want.Want.{Want}
use Rattle.bgp_machine.specs.Listed.{IsStep, IsShown, ListsHidden, ListsReceived, ShowsSome, no_changes, turn_of}
use Rattle.bgp_machine.specs.Lists.{Has, Each}
use Rattle.bgp_machine.specs.Shows.{Pays}
use Rattle.bgp_machine.specs.State.{Turn, link_at}
use Rattle.bgp_machine.specs.Step.{Hidden}
use Rattle.bgp_machine.specs.Want.{wants_of}
use Rattle.bgp_machine.specs.Changes.{RouteChanges}
use Rattle.bgp_machine.proofs.RowByRow.{has_left, has_right, has_either, each_more, each_weaker}
use Rattle.bgp_judge.specs.Next.{Opens}
use Rattle.bgp_judge.specs.Openings.{ListsOpenings, IsOpened, IsOwn, Keeps, unshown_of}
use Rattle.bgp_judge.specs.Unshown.{PaysOf}

pub each_at : {X : Type 0} (P : X → Type 0) (xs : List X) (i : ℕ) (d : X) → Each P xs → i < length xs → P (get_or xs i d)
each_at P [] i d e h = absurd (omega arith)
each_at P (x ∷ xs) zero d e h = e.0
each_at P (x ∷ xs) (suc i) d e h = each_at P xs i d e.1 (omega arith)

-- the steps so far, and those of them that the record opens
pub record OpensSoFar (config : Config) (head : Head) (shown : ShownRecord) (steps out : List Step) : Type 0 where
  pub each : Each (λ y. Opens config head shown (wants_of y.wants) y.change (turn_of no_changes y.after)) out
  pub every : (wants : List Want) (change : Option (Fsm × Fsm)) (turn : Turn) (left : List Want) (still : Option (Fsm × Fsm))
      → Has (λ x. IsStep no_changes x wants change turn) steps → Pays config (link_at head) shown wants change left still
      → Has (λ y. IsStep no_changes y left still turn) out

opens_own : (config : Config) (head : Head) (shown : ShownRecord) (left : List Want) (still : Option (Fsm × Fsm)) (turn : Turn) → IsOwn shown
    → ((row : HiddenRow) × (wants : List Want) × (change : Option (Fsm × Fsm)) × IsShown head config (second_of shown) (Hidden row) wants change turn
    × Pays config (link_at head) shown wants change left still)
    → Opens config head shown left still turn
opens_own config head (Received t octets) left still turn own o = absurd own
opens_own config head (Sent t octets) left still turn own o = o
opens_own config head (Changed t x y) left still turn own o = o

pub own_opens : (config : Config) (head : Head) (shown : ShownRecord) (left : List Want) (still : Option (Fsm × Fsm)) (turn : Turn) → IsOwn shown
    → Opens config head shown left still turn
    → (row : HiddenRow) × (wants : List Want) × (change : Option (Fsm × Fsm)) × IsShown head config (second_of shown) (Hidden row) wants change turn
    × Pays config (link_at head) shown wants change left still
own_opens config head (Received t octets) left still turn own o = absurd own
own_opens config head (Sent t octets) left still turn own o = o
own_opens config head (Changed t x y) left still turn own o = o

-- a step is what it is said to be
pub at_step : (P : List Want → Option (Fsm × Fsm) → Turn → Type 0) (changes : RouteChanges) (x : Step) (wants : List Want) (change : Option (Fsm × Fsm)) (turn : Turn)
    → IsStep changes x wants change turn → P wants change turn → P (wants_of x.wants) x.change (turn_of changes x.after)
at_step P changes x wants change turn is p =
    subst (λ (v : Turn). P (wants_of x.wants) x.change v) (sym is.ends)
    (subst (λ (v : Option (Fsm × Fsm)). P (wants_of x.wants) v turn) (sym is.shows)
    (subst (λ (v : List Want). P v change turn) (sym is.sends) p))

pub at_pays : (config : Config) (head : Head) (shown : ShownRecord) (x : Step) (wants : List Want) (change : Option (Fsm × Fsm)) (turn : Turn)
    (left : List Want) (still : Option (Fsm × Fsm)) → IsStep no_changes x wants change turn → Pays config (link_at head) shown wants change left still
    → PaysOf config (link_at head) shown (unshown_of x) left still
at_pays config head shown x wants change turn left still is p =
    at_step (λ ws c t. Pays config (link_at head) shown ws c left still) no_changes x wants change turn is p

opened_here : (config : Config) (head : Head) (t : ℕ) (shown : ShownRecord) (steps : List Step) (i : ℕ) (d y : Step) → i < length steps → IsOwn shown
    → second_of shown ≡ t → ListsHidden config head t steps → IsOpened config head shown (get_or steps i d) y
    → Opens config head shown (wants_of y.wants) y.change (turn_of no_changes y.after)
opened_here config head t shown steps i d y lt own second hidden opened =
    let x = get_or steps i d in
    let h = each_at (λ x. (wants : List Want) × (change : Option (Fsm × Fsm)) × (turn : Turn)
    × ((row : HiddenRow) × IsShown head config t (Hidden row) wants change turn × ShowsSome wants change)
    × IsStep no_changes x wants change turn) steps i d hidden.each lt in
    let row = h.3.0 in
    let is : IsShown head config t (Hidden row) (wants_of x.wants) x.change (turn_of no_changes x.after) =
    at_step (λ ws c v. IsShown head config t (Hidden row) ws c v) no_changes x h.0 h.1 h.2 h.4 h.3.1 in
    let here : IsShown head config (second_of shown) (Hidden row) (wants_of x.wants) x.change (turn_of no_changes x.after) =
    subst (λ (v : ℕ). IsShown head config v (Hidden row) (wants_of x.wants) x.change (turn_of no_changes x.after)) (sym second) is in
    opens_own config head shown (wants_of y.wants) y.change (turn_of no_changes y.after) own (
      row,
      wants_of x.wants,
      x.change,
      subst (λ (v : After). IsShown head config (second_of shown) (Hidden row) (wants_of x.wants) x.change (turn_of no_changes v)) (sym opened.ends) here,
      opened.leaves.pays,
    )

pub none_so_far : (config : Config) (head : Head) (shown : ShownRecord) (out : List Step) → out ≡ [] → OpensSoFar config head shown [] out
none_so_far config head shown out e =
    subst (λ (v : List Step). OpensSoFar config head shown [] v) (sym e) (record { each = tt; every = λ wants change turn left still h p. absurd h })

pub one_more : (config : Config) (head : Head) (t : ℕ) (shown : ShownRecord) (steps : List Step) (i : ℕ) (d : Step) (old new : List Step) → i < length steps
    → IsOwn shown → second_of shown ≡ t → ListsHidden config head t steps → OpensSoFar config head shown (take i steps) old
    → Keeps config head shown (get_or steps i d) old new → OpensSoFar config head shown (take (i + 1) steps) new
one_more config head t shown steps i d old new lt own second hidden before keeps =
    let x = get_or steps i d in
    subst (λ (v : List Step). OpensSoFar config head shown v new) (sym (take_more steps i d lt)) (elim keeps [
      | inl k ↦ subst (λ (v : List Step). OpensSoFar config head shown (take i steps ++ x ∷ []) v) (sym k.1) (record {
        each = before.each;
        every = λ wants change turn left still h p. elim (has_either (λ v. IsStep no_changes v wants change turn) (take i steps) (x ∷ []) h) [
          | inl a ↦ before.every wants change turn left still a p
          | inr b ↦ elim b [
            | inl is ↦ absurd (k.0 left still (at_pays config head shown x wants change turn left still is p))
            | inr z ↦ absurd z
          ]
        ];
      })
      | inr k ↦ let y = k.0 in let opened : IsOpened config head shown x y = k.1 in
          subst (λ (v : List Step). OpensSoFar config head shown (take i steps ++ x ∷ []) v) (sym k.2) (record {
            each = each_more (λ v. Opens config head shown (wants_of v.wants) v.change (turn_of no_changes v.after)) old y before.each
                (opened_here config head t shown steps i d y lt own second hidden opened);
            every = λ wants change turn left still h p. elim (has_either (λ v. IsStep no_changes v wants change turn) (take i steps) (x ∷ []) h) [
              | inl a ↦ has_left (λ v. IsStep no_changes v left still turn) old (y ∷ []) (before.every wants change turn left still a p)
              | inr b ↦ elim b [
                | inl is ↦
                    let o = opened.leaves.only left still (at_pays config head shown x wants change turn left still is p) in
                    has_right (λ v. IsStep no_changes v left still turn) old (y ∷ [])
                    (inl (record { sends = o.0; shows = o.1; ends = ap (λ (v : After). turn_of no_changes v) opened.ends ∙ is.ends }))
                | inr z ↦ absurd z
              ]
            ];
          })
    ])

pub shows_some : (config : Config) (link : Option Link) (r : ShownRecord) (wants : List Want) (change : Option (Fsm × Fsm)) (left : List Want)
    (still : Option (Fsm × Fsm)) → Pays config link r wants change left still → ShowsSome wants change
shows_some config link (Received t octets) wants change left still p = absurd p
shows_some config link (Sent t octets) [] change left still p = absurd p
shows_some config link (Sent t octets) (want ∷ wants) change left still p = tt
shows_some config link (Changed t x y) [] None left still p = absurd p
shows_some config link (Changed t x y) [] (Some c) left still p = tt
shows_some config link (Changed t x y) (want ∷ wants) change left still p = tt

pub all_so_far : (config : Config) (head : Head) (t : ℕ) (shown : ShownRecord) (steps : List Step) (i : ℕ) (out : List Step) → length steps ≤ i
    → IsOwn shown → second_of shown ≡ t → ListsHidden config head t steps → OpensSoFar config head shown (take i steps) out
    → ListsOpenings config head shown no_changes out
all_so_far config head t shown steps i out le own second hidden so =
    let all : OpensSoFar config head shown steps out = subst (λ (v : List Step). OpensSoFar config head shown v out) (take_all i steps le) so in
    record {
      each = all.each;
      every = λ left still turn o.
          let k = own_opens config head shown left still turn own o in
          let is : IsShown head config t (Hidden k.0) k.1 k.2 turn = subst (λ (v : ℕ). IsShown head config v (Hidden k.0) k.1 k.2 turn) second k.3 in
          all.every k.1 k.2 turn left still
          (hidden.every k.1 k.2 turn (k.0, is, shows_some config (link_at head) shown k.1 k.2 left still k.4)) k.4;
    }

-- a message's steps are those that its record opens
pub received_open : (config : Config) (head : Head) (shown : ShownRecord) (t : ℕ) (octets : List ℕ) (changes : RouteChanges) (steps : List Step)
    → shown ≡ Received t octets → ListsReceived config head t octets changes steps → ListsOpenings config head shown changes steps
received_open config head shown t octets changes steps e lists =
    subst (λ (v : ShownRecord). ListsOpenings config head v changes steps) (sym e) (record {
      each = each_weaker _ (λ x. Opens config head (Received t octets) (wants_of x.wants) x.change (turn_of changes x.after))
          (λ x h. at_step (λ ws c v. Opens config head (Received t octets) ws c v) changes x h.0 h.1 h.2 h.4 h.3) steps lists.each;
      every = lists.every;
    })
