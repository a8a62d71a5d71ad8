-- The steps that lead to a node, as the search keeps them.
use Rattle.std.proofs.Common.{◌≡◌, ◌+◌, ◌-◌, ◌<◌, ◌≤◌, ◌++◌, ◌⊎◌, ◌↔◌, inl, inr, ℕ, zero, suc, Bool, true, false, List, [], ◌∷◌, Option, None, Some, IfSome, IsSomeAnd, length, map, reverse, slice_get, refl, sym, ap, subst, ◌∙◌, append_assoc, append-nil, arith}
use Rattle.std.proofs.lemmas.List.{length-append, reverse-append, reverse-reverse, drop_all}
use Rattle.bgp_open.specs.declared.config.Config.{Config}
use Rattle.bgp_machine.specs.Lists.{Each}
use Rattle.bgp_machine.specs.Owed.{EachOwedCanBeMet}
use Rattle.bgp_recording.specs.declared.message.Message.{Message}
use Rattle.bgp_recording.specs.declared.ordering.Exchange.{Exchange}
use Rattle.bgp_recording.specs.declared.state.State.{State}
use Rattle.bgp_judge.specs.Member.{IsFree, Member}
use Rattle.bgp_orders.specs.declared.course.Step.{Step}
use Rattle.bgp_orders.specs.declared.course.Step.TheVariants as steps
use Rattle.bgp_orders.specs.declared.node.Node.{Node as CodeNode}
use Rattle.bgp_orders.specs.declared.tracing.Origin.{Origin}
use Rattle.bgp_orders.specs.declared.tracing.Origin.TheVariants as origins
use Rattle.bgp_orders.specs.Explained.{NoneIsWhole}
use Rattle.bgp_orders.specs.Many.{AreTooMany}
use Rattle.bgp_orders.specs.Nodes.{Hears, IsFirstNode, IsLast, Node}
use Rattle.bgp_orders.specs.Rows.{GainsNodes, HasLast, InNextRow, InRow, IsIn, IsMade, IsOf, IsOfPlace, IsRow, Passes, StartsIn, count_of, node_at}
use Rattle.bgp_orders.specs.Tidy.{AreUpTo, HasMoreIn, HasMoreNext, IsTidy, IsWithin, StandsAt, StaysTidy}
use Rattle.bgp_orders.specs.Tracks.{AreNoted, AreTracked, GoesAlong, IsLastOf, IsTrackOf, IsTracked, IsTrailTo, IsTrailToLast, LeadsAlong, LeadsBack, LeadsToLast, StepsTo, TracksBack, start_of}
use Rattle.bgp_orders.proofs.Many.{AreRowsTo, Compares, IsGrowingSo, first_or_more, first_to, heard_so, many_to, more_to, next_or_more, nothing_so, one_more, passed_so, too_many_first, too_many_to}
use Rattle.bgp_orders.proofs.Rows.{first_is_row, last_in, next_is_row, of_place, row_of_whole}

-- ---- lists by place

at_front : {X : Type 0} (xs more : List X) (i : ℕ) (x : X) → slice_get xs i ≡ Some x → slice_get (xs ++ more) i ≡ Some x
at_front [] more i x e = absurd (let k : ⊥ = cc in k)
at_front (y ∷ xs) more zero x e = e
at_front (y ∷ xs) more (suc i) x e = at_front xs more i x e

at_added : {X : Type 0} (xs more : List X) (o : X) (i : ℕ) → Each (λ x. x ≡ o) more → length xs ≤ i → i < length (xs ++ more) → slice_get (xs ++ more) i ≡ Some o
at_added [] [] o i each le lt = absurd (omega (arith, lt))
at_added [] (y ∷ more) o zero each le lt = ap Some each.0
at_added [] (y ∷ more) o (suc i) each le lt = at_added [] more o i each.1 (omega arith) (omega (arith, lt))
at_added (x ∷ xs) more o zero each le lt = absurd (omega (arith, le))
at_added (x ∷ xs) more o (suc i) each le lt = at_added xs more o i each (omega (arith, le)) (omega (arith, lt))

within_list : {X : Type 0} (xs : List X) (i : ℕ) (x : X) → slice_get xs i ≡ Some x → i < length xs
within_list [] i x e = absurd (let k : ⊥ = cc in k)
within_list (y ∷ xs) zero x e = omega arith
within_list (y ∷ xs) (suc i) x e = omega (arith, within_list xs i x e)

same_some : (a b : Origin) → Some a ≡ Some b → a ≡ b
same_some a b e = cc

same_start : (a b : State) → origins.Start a ≡ origins.Start b → a ≡ b
same_start a b e = cc

same_step : (a b : Step) (k l : ℕ) → origins.Behind a k ≡ origins.Behind b l → a ≡ b
same_step a b k l e = cc

same_before : (a b : Step) (k l : ℕ) → origins.Behind a k ≡ origins.Behind b l → k ≡ l
same_before a b k l e = cc

not_both : (a : State) (b : Step) (l : ℕ) → Some (origins.Start a) ≡ Some (origins.Behind b l) → ⊥
not_both a b l e = cc

-- ---- the steps back from a place

tracks_longer : (trail more : List Origin) (place : ℕ) (start : State) (back : List Step) → TracksBack trail place start back → TracksBack (trail ++ more) place start back
tracks_longer trail more place start [] h = at_front trail more place (origins.Start start) h
tracks_longer trail more place start (step ∷ back) h =
    (h.0, at_front trail more place (origins.Behind step h.0) h.1, h.2, tracks_longer trail more h.0 start back h.3)

one_track : (trail : List Origin) (place : ℕ) (start start2 : State) (back back2 : List Step) → TracksBack trail place start back → TracksBack trail place start2 back2 → (start ≡ start2) × (back ≡ back2)
one_track trail place start start2 [] [] h k = (same_start start start2 (same_some (origins.Start start) (origins.Start start2) (sym h ∙ k)), refl)
one_track trail place start start2 [] (s ∷ back2) h k = absurd (not_both start s k.0 (sym h ∙ k.1))
one_track trail place start start2 (s ∷ back) [] h k = absurd (not_both start2 s h.0 (sym k ∙ h.1))
one_track trail place start start2 (s ∷ back) (t ∷ back2) h k =
    let same = same_some (origins.Behind s h.0) (origins.Behind t k.0) (sym h.1 ∙ k.1) in
    let rest = one_track trail k.0 start start2 back back2 (subst (λ (v : ℕ). TracksBack trail v start back) (same_before s t h.0 k.0 same) h.3) k.3 in
    (rest.0, ap (λ (v : List Step). s ∷ v) rest.1 ∙ ap (λ (v : Step). v ∷ back2) (same_step s t h.0 k.0 same))

-- the steps that are walked so far, and those that are left
pub record IsWalkingBack (trail : List Origin) (last place : ℕ) (walked : List Step) : Type 0 where
  pub start : State
  pub rest : List Step
  pub here : TracksBack trail place start rest
  pub all : TracksBack trail last start (walked ++ rest)

pub walks_first : (trail : List Origin) (last place : ℕ) (walked : List Step) → place ≡ last → walked ≡ [] → IsTracked trail last → IsWalkingBack trail last place walked
walks_first trail last place walked e none h =
    subst (λ (v : ℕ). IsWalkingBack trail last v walked) (sym e)
    (subst (λ (v : List Step). IsWalkingBack trail last last v) (sym none) (record { start = h.0; rest = h.1; here = h.2; all = h.2 }))

place_in : (trail : List Origin) (place : ℕ) (start : State) (rest : List Step) → TracksBack trail place start rest → place < length trail
place_in trail place start [] h = within_list trail place (origins.Start start) h
place_in trail place start (s ∷ rest) h = within_list trail place (origins.Behind s h.0) h.1

pub walks_within : (trail : List Origin) (last place : ℕ) (walked : List Step) → IsWalkingBack trail last place walked → place < length trail
walks_within trail last place walked k = place_in trail place k.start k.rest k.here

walks_on : (trail : List Origin) (last place : ℕ) (walked : List Step) (start : State) (rest : List Step) (step : Step) (before : ℕ) → slice_get trail place ≡ Some (origins.Behind step before)
    → TracksBack trail place start rest → TracksBack trail last start (walked ++ rest) → IsWalkingBack trail last before (walked ++ step ∷ []) × (before < place)
walks_on trail last place walked start [] step before e h all = absurd (not_both start step before (sym h ∙ e))
walks_on trail last place walked start (s ∷ rest) step before e h all =
    let same = same_some (origins.Behind s h.0) (origins.Behind step before) (sym h.1 ∙ e) in
    let at : h.0 ≡ before = same_before s step h.0 before same in
    let lt : h.0 < place = h.2 in (
      record {
        start = start;
        rest = rest;
        here = subst (λ (v : ℕ). TracksBack trail v start rest) at h.3;
        all = subst (λ (v : List Step). TracksBack trail last start v) (sym (append_assoc walked (step ∷ []) rest))
            (subst (λ (v : Step). TracksBack trail last start (walked ++ v ∷ rest)) (same_step s step h.0 before same) all);
      },
      omega (arith, at, lt),
    )

pub walks_more : (trail : List Origin) (last place : ℕ) (walked more : List Step) (step : Step) (before : ℕ) → slice_get trail place ≡ Some (origins.Behind step before)
    → IsWalkingBack trail last place walked → more ≡ walked ++ step ∷ [] → IsWalkingBack trail last before more × (before < place)
walks_more trail last place walked more step before e k is =
    let next = walks_on trail last place walked k.start k.rest step before e k.here k.all in
    (subst (λ (v : List Step). IsWalkingBack trail last before v) (sym is) next.0, next.1)

walks_to : (trail : List Origin) (last place : ℕ) (walked : List Step) (start : State) (rest : List Step) (first : State) → slice_get trail place ≡ Some (origins.Start first)
    → TracksBack trail place start rest → TracksBack trail last start (walked ++ rest) → TracksBack trail last first walked
walks_to trail last place walked start [] first e h all =
    subst (λ (v : State). TracksBack trail last v walked) (same_start start first (same_some (origins.Start start) (origins.Start first) (sym h ∙ e)))
    (subst (λ (v : List Step). TracksBack trail last start v) (append-nil walked) all)
walks_to trail last place walked start (s ∷ rest) first e h all = absurd (not_both first s h.0 (sym e ∙ h.1))

pub walks_all : (trail : List Origin) (last place : ℕ) (walked turned : List Step) (first : State) → slice_get trail place ≡ Some (origins.Start first) → IsWalkingBack trail last place walked
    → turned ≡ reverse walked → TracksBack trail last first (reverse turned)
walks_all trail last place walked turned first e k is =
    subst (λ (v : List Step). TracksBack trail last first v) (sym (ap reverse is ∙ reverse-reverse walked))
    (walks_to trail last place walked k.start k.rest first e k.here k.all)

-- ---- an origin more for each node more

-- those that are noted so far
pub record AreNotedSo (old new : List Origin) (base count : ℕ) (origin : Origin) : Type 0 where
  pub more : List Origin
  pub joined : new ≡ old ++ more
  pub each : Each (λ o. o ≡ origin) more
  pub longer : base ≤ length new
  pub ends : length old ≤ base + count → length new ≤ base + count

pub none_noted : (old : List Origin) (base count : ℕ) (origin : Origin) → base ≤ length old → AreNotedSo old old base count origin
none_noted old base count origin le = record { more = []; joined = sym (append-nil old); each = tt; longer = le; ends = λ h. h }

each_last : (origin : Origin) (xs : List Origin) → Each (λ o. o ≡ origin) xs → Each (λ o. o ≡ origin) (xs ++ origin ∷ [])
each_last origin [] h = (refl, tt)
each_last origin (x ∷ xs) h = (h.0, each_last origin xs h.1)

pub one_noted : (old mid new : List Origin) (base count : ℕ) (origin : Origin) → AreNotedSo old mid base count origin → length mid - base < count → new ≡ mid ++ origin ∷ [] → AreNotedSo old new base count origin
one_noted old mid new base count origin k lt is =
    let longer = k.longer in
    let one : length new ≡ length mid + 1 = ap length is ∙ length-append mid (origin ∷ []) in
    record {
      more = k.more ++ origin ∷ [];
      joined = is ∙ ap (λ (v : List Origin). v ++ origin ∷ []) k.joined ∙ append_assoc old k.more (origin ∷ []);
      each = each_last origin k.more k.each;
      longer = omega (arith, longer, one);
      ends = λ h. omega (arith, longer, one, lt);
    }

pub all_noted : (old new : List Origin) (base count : ℕ) (origin : Origin) → AreNotedSo old new base count origin → count ≤ length new - base → AreNoted old new base count origin
all_noted old new base count origin k ge = record {
  more = k.more;
  joined = k.joined;
  each = k.each;
  ends = λ h. let le = k.ends h in let longer = k.longer in omega (arith, le, longer, ge);
}

-- ---- the nodes of a row

module _ {X : Type 0} (exchange : Exchange) where
  of_within : (nodes : List (CodeNode X)) (i : ℕ) (n : Node) → IsOfPlace exchange nodes i n → i < length nodes
  of_within [] i n h = absurd h
  of_within (c ∷ nodes) zero n h = omega arith
  of_within (c ∷ nodes) (suc i) n h = omega (arith, of_within nodes i n h)

  of_either : (old more : List (CodeNode X)) (i : ℕ) (n : Node) → IsOfPlace exchange (old ++ more) i n → IsOfPlace exchange old i n ⊎ ((length old ≤ i) × IsIn exchange more n)
  of_either [] more i n h = inr (omega arith, of_place exchange more i n h)
  of_either (c ∷ old) more zero n h = inl h
  of_either (c ∷ old) more (suc i) n h = elim (of_either old more i n h) [
    | inl a ↦ inl a
    | inr b ↦ let le : length old ≤ i = b.0 in inr (omega (arith, le), b.1)
  ]

  started : (nodes : List (CodeNode X)) (i : ℕ) (n : Node) → IsOfPlace exchange nodes i n → (c : CodeNode X) × (slice_get (map start_of nodes) i ≡ Some (start_of c)) × IsOf exchange c n
  started [] i n h = absurd h
  started (c ∷ nodes) zero n h = (c, refl, h)
  started (c ∷ nodes) (suc i) n h = started nodes i n h

  map_length : (nodes : List (CodeNode X)) → length (map start_of nodes) ≡ length nodes
  map_length [] = refl
  map_length (c ∷ nodes) = ap suc (map_length nodes)

module _ (config : Config) (within : ℕ) (exchange : Exchange) where
  longer_track : (trail more : List Origin) (place : ℕ) (n : Node) → IsTrackOf config within exchange trail place n → IsTrackOf config within exchange (trail ++ more) place n
  longer_track trail more place n h = (h.0, h.1, tracks_longer trail more place h.0 h.1 h.2, h.3)

  -- ---- steps from the first one on

  goes_more : (walked : List Step) (first mid n : Node) (step : Step) → GoesAlong config within first walked mid → StepsTo config within step mid n → GoesAlong config within first (walked ++ step ∷ []) n
  goes_more [] first mid n step e h = (n, subst (λ (v : Node). StepsTo config within step v n) (sym e) h, refl)
  goes_more (s ∷ walked) first mid n step k h = (k.0, k.1, goes_more walked k.0 mid n step k.2 h)

  leads_forward : (start : State) (back : List Step) (n : Node) → LeadsBack config within exchange start back n → LeadsAlong config within exchange start (reverse back) n
  leads_forward start [] n h = (n, h, refl)
  leads_forward start (step ∷ back) n h =
      let k = leads_forward start back h.0 h.1 in
      (k.0, k.1, subst (λ (v : List Step). GoesAlong config within k.0 v n) (sym (reverse-append (step ∷ []) back)) (goes_more (reverse back) k.0 h.0 n step k.2 h.2))

  pub leads_to_last : (trail : List Origin) (last : ℕ) (start : State) (walked : List Step) → IsTrailToLast config within exchange trail last → TracksBack trail last start (reverse walked)
      → LeadsToLast config within exchange start walked
  leads_to_last trail last start walked to back =
      let track = to.1 in
      let same = one_track trail last track.0 start track.1 (reverse walked) track.2 back in
      let is : reverse track.1 ≡ walked = ap reverse same.1 ∙ reverse-reverse walked in
      let along = leads_forward track.0 track.1 to.0 track.3 in (
        to.0,
        subst (λ (v : State). LeadsAlong config within exchange v walked to.0) same.0
            (subst (λ (v : List Step). LeadsAlong config within exchange track.0 v to.0) is along),
        to.2,
      )

  pub tracked_last : (trail : List Origin) (last : ℕ) → IsTrailToLast config within exchange trail last → IsTracked trail last
  tracked_last trail last to = let track = to.1 in (track.0, track.1, track.2)

module _ {X : Type 0} (config : Config) (within : ℕ) (exchange : Exchange) where
  pub none_tracked : (trail : List Origin) (base : ℕ) (nodes : List (CodeNode X)) → nodes ≡ [] → AreTracked config within exchange trail base nodes
  none_tracked trail base nodes e = λ i n h. absurd (subst (λ (v : List (CodeNode X)). IsOfPlace exchange v i n) e h)

  pub none_traced : (trail : List Origin) (base : ℕ) (nodes : List (CodeNode X)) → nodes ≡ [] → base ≡ length trail → IsTrailTo config within exchange trail base nodes
  none_traced trail base nodes e is =
      let none : length nodes ≡ 0 = ap length e in
      record { tracked = none_tracked trail base nodes e; ends = omega (arith, is, none) }

  starts_there : (c : CodeNode X) (n : Node) → IsOf exchange c n → IsFirstNode config exchange n → StartsIn config exchange c.spot.state n
  starts_there c n is first =
      let same : first.0 ≡ c.spot.state = sym (ap (λ (v : Node). v.state) first.4) ∙ ap (λ (v : Node). v.state) is.2 in
      let its : StartsIn config exchange first.0 n = (first.1, first.2, first.3, first.4) in
      subst (λ (v : State). StartsIn config exchange v n) same its

  pub first_traced : (trail : List Origin) (nodes : List (CodeNode X)) → trail ≡ map start_of nodes → ((n : Node) → IsIn exchange nodes n → IsFirstNode config exchange n)
      → IsTrailTo config within exchange trail 0 nodes
  first_traced trail nodes e begins = record {
    tracked = λ i n h.
        let its = started exchange nodes i n h in
        let at : slice_get trail i ≡ Some (start_of its.0) = ap (λ (v : List Origin). slice_get v i) e ∙ its.1 in
        let here : IsTrackOf config within exchange trail i n = (its.0.spot.state, [], at, starts_there its.0 n its.2 (begins n (of_place exchange nodes i n h))) in
        subst (λ (v : ℕ). IsTrackOf config within exchange trail v n) (let same : i ≡ 0 + i = omega arith in same) here;
    ends = let k : length trail ≡ length nodes = ap length e ∙ map_length exchange nodes in omega (arith, k);
  }

  pub one_traced : (trail trail2 : List Origin) (base from_base k : ℕ) (from old new : List (CodeNode X)) (step : Step) (Also : Node → Type 0) → IsTrailTo config within exchange trail base old
      → AreTracked config within exchange trail from_base from → from_base + k < base + length old → GainsNodes exchange old new Also
      → ((n2 : Node) → Also n2 → (n : Node) × IsOfPlace exchange from k n × StepsTo config within step n n2)
      → AreNoted trail trail2 base (length new) (origins.Behind step (from_base + k)) → IsTrailTo config within exchange trail2 base new
  one_traced trail trail2 base from_base k from old new step Also so_far from_it lt gains by noted =
      let o : Origin = origins.Behind step (from_base + k) in
      let ends = so_far.ends in
      let more : length new ≡ length old + length gains.more = ap length gains.joined ∙ length-append old gains.more in
      let ends2 : length trail2 ≡ base + length new = noted.ends (omega (arith, ends, more)) in
      let joined : length trail2 ≡ length (trail ++ noted.more) = ap length noted.joined in
      record {
        tracked = λ i n h. subst (λ (v : List Origin). IsTrackOf config within exchange v (base + i) n) (sym noted.joined)
            (elim (of_either exchange old gains.more i n (subst (λ (v : List (CodeNode X)). IsOfPlace exchange v i n) gains.joined h)) [
              | inl a ↦ longer_track config within exchange trail noted.more (base + i) n (so_far.tracked i n a)
              | inr b ↦
                  let le : length old ≤ i = b.0 in
                  let short : i < length new = of_within exchange new i n h in
                  let its = by n (gains.only n b.1) in
                  let track = from_it k its.0 its.1 in
                  let at = at_added trail noted.more o (base + i) noted.each (omega (arith, le, ends)) (omega (arith, short, ends2, joined)) in (
                    track.0,
                    step ∷ track.1,
                    (from_base + k, at, omega (arith, lt, le), tracks_longer trail noted.more (from_base + k) track.0 track.1 track.2),
                    (its.0, track.3, its.2),
                  )
            ]);
        ends = ends2;
      }

-- ---- rows with their trail

pub record IsTracing {X : Type 0} (config : Config) (within : ℕ) (exchange : Exchange) (count base : ℕ) (trail : List Origin) (nodes : List (CodeNode X)) : Type 0 where
  pub rows : AreRowsTo config within exchange count (length trail) nodes
  pub to : IsTrailTo config within exchange trail base nodes

module _ {X : Type 0} (config : Config) (within : ℕ) (exchange : Exchange) where
  last_at : (row : List (CodeNode X)) (index : ℕ) → IsSomeAnd (slice_get row index) (λ c. IsLastOf exchange c)
      → (n : Node) × IsOfPlace exchange row index n × (n.received ≡ []) × IsFree n.member
  last_at [] index h = absurd h
  last_at (c ∷ row) zero h =
      let m = h.1 in
      (node_at exchange c.spot m.0, (m.0, m.1, refl), drop_all c.spot.place.received exchange.received.now h.0, m.2)
  last_at (c ∷ row) (suc index) h = last_at row index h

  pub last_traced : (count base : ℕ) (trail : List Origin) (nodes : List (CodeNode X)) (index : ℕ) → IsTracing config within exchange count base trail nodes
      → count ≡ length exchange.sent.now + count_of exchange.end → IsSomeAnd (slice_get nodes index) (λ c. IsLastOf exchange c) → IsTrailToLast config within exchange trail (base + index)
  last_traced count base trail nodes index so_far all h =
      let its = last_at nodes index h in
      let n : Node = its.0 in
      let row = (so_far.rows.row n).0 (of_place exchange nodes index n its.1) in
      let last : IsLast n = last_in config within exchange n (subst (λ (v : ℕ). InRow config within exchange v n) all row) its.2 its.3 in
      (n, so_far.to.tracked index n its.1, last)

  pub none_whole : EachOwedCanBeMet → (count base : ℕ) (trail : List Origin) (nodes : List (CodeNode X)) → IsTracing config within exchange count base trail nodes
      → count ≡ length exchange.sent.now + count_of exchange.end → (HasLast exchange nodes → ⊥) → NoneIsWhole config within exchange
  none_whole law count base trail nodes so_far all none = λ e whole.
      none (row_of_whole law config within exchange nodes (subst (λ (v : ℕ). IsRow config within exchange v nodes) all so_far.rows.row) e whole)

  pub first_tracing : (trail : List Origin) (row first nodes : List (CodeNode X)) (base : ℕ) → row ≡ [] → base ≡ 0 → ((n : Node) → IsIn exchange first n ↔ IsFirstNode config exchange n)
      → ((n : Node) → IsIn exchange nodes n ↔ InNextRow config within exchange row first n) → IsTidy exchange nodes → IsTrailTo config within exchange trail base nodes
      → IsTracing config within exchange 0 base trail nodes
  first_tracing trail row first nodes base none at_zero begins next tidy its =
      let ends = its.ends in
      record {
        rows = first_to config within exchange (length trail) nodes (first_is_row config within exchange row first nodes none begins next) tidy (omega (arith, ends, at_zero));
        to = its;
      }

  pub next_tracing : (count before base : ℕ) (trail trail2 : List Origin) (slice row none nodes : List (CodeNode X)) → IsTracing config within exchange count before trail row → slice ≡ row → none ≡ []
      → base ≡ length trail → ((n : Node) → IsIn exchange nodes n ↔ InNextRow config within exchange slice none n) → IsTidy exchange nodes
      → IsTrailTo config within exchange trail2 base nodes → IsTracing config within exchange (count + 1) base trail2 nodes
  next_tracing count before base trail trail2 slice row none nodes so_far same empty is next tidy its =
      let ends = its.ends in
      let of_slice : IsRow config within exchange count slice = subst (λ (v : List (CodeNode X)). IsRow config within exchange count v) (sym same) so_far.rows.row in
      let its_row : IsRow config within exchange (count + 1) nodes = subst (λ (v : ℕ). IsRow config within exchange v nodes) (one_more count)
      (next_is_row config within exchange count slice none nodes empty of_slice next) in
      record {
        rows = more_to config within exchange count (length trail) (length trail2) row nodes so_far.rows its_row tidy (omega (arith, ends, is));
        to = its;
      }

  pub first_too_many : (row first : List (CodeNode X)) → row ≡ [] → ((n : Node) → IsIn exchange first n ↔ IsFirstNode config exchange n)
      → HasMoreNext config within exchange row first (1048576 - 0) ⊎ (1048576 < 0) → AreTooMany config within exchange
  first_too_many row first none begins many = elim many [
    | inl has ↦
        let all : 1048576 ≡ 1048576 - 0 = omega arith in
        too_many_first {X = X} config within exchange 1048576
        (first_or_more config within exchange row first 1048576 none (λ n. (begins n).0) (subst (λ (v : ℕ). HasMoreNext config within exchange row first v) (sym all) has))
    | inr lt ↦ absurd (omega (arith, lt))
  ]

  pub next_too_many : (count before base : ℕ) (trail : List Origin) (slice row none : List (CodeNode X)) → IsTracing config within exchange count before trail row → slice ≡ row → none ≡ []
      → base ≡ length trail → HasMoreNext config within exchange slice none (1048576 - base) ⊎ (1048576 < base) → AreTooMany config within exchange
  next_too_many count before base trail slice row none so_far same empty is many = elim many [
    | inl has ↦
        let of_slice : IsRow config within exchange count slice = subst (λ (v : List (CodeNode X)). IsRow config within exchange count v) (sym same) so_far.rows.row in
        too_many_to {X = X} config within exchange count (length trail) 1048576 (1048576 - base) row so_far.rows (ap (λ (v : ℕ). 1048576 - v) is)
        (subst (λ (v : ℕ). HasMoreIn X config within exchange v (1048576 - base)) (one_more count)
        (next_or_more config within exchange count slice none (1048576 - base) empty of_slice has))
    | inr lt ↦ many_to {X = X} config within exchange count (length trail) 1048576 row so_far.rows (omega (arith, lt, is))
  ]

-- ---- a row that grows, with its trail

pub record IsTracingSo {X : Type 0} (config : Config) (within : ℕ) (exchange : Exchange) (row : List (CodeNode X)) (before : ℕ) (first : List (CodeNode X)) (base passed heard : ℕ) (trail : List Origin) (next : List (CodeNode X))
    : Type 0 where
  pub grows : IsGrowingSo config within exchange row first passed heard next
  pub to : IsTrailTo config within exchange trail base next
  pub before_it : AreTracked config within exchange trail before row

module _ {X : Type 0} (config : Config) (within : ℕ) (exchange : Exchange) (row : List (CodeNode X)) (before : ℕ) (first : List (CodeNode X)) (base : ℕ) where
  pub nothing_traced : (trail : List Origin) → IsTrailTo config within exchange trail base first → AreTracked config within exchange trail before row
      → IsTracingSo config within exchange row before first base 0 0 trail first
  nothing_traced trail to of_row = record { grows = nothing_so config within exchange row first; to = to; before_it = of_row }

  row_longer : (trail trail2 : List Origin) (count : ℕ) (origin : Origin) → AreTracked config within exchange trail before row → AreNoted trail trail2 base count origin
      → AreTracked config within exchange trail2 before row
  row_longer trail trail2 count origin tracked noted = λ i n h.
      subst (λ (v : List Origin). IsTrackOf config within exchange v (before + i) n) (sym noted.joined) (longer_track config within exchange trail noted.more (before + i) n (tracked i n h))

  pub passed_traced : (passed heard : ℕ) (trail trail2 : List Origin) (slice old new : List (CodeNode X)) (is : Bool) → before + length row ≤ base → IsTracingSo config within exchange row before first base passed heard trail old
      → slice ≡ old → passed < length row → Compares config within exchange row first passed heard slice is → is ≡ true
      → GainsNodes exchange old new (λ n2. (n : Node) × IsOfPlace exchange row passed n × Passes config within n n2)
      → IfSome (slice_get row passed) (λ from. IsWithin exchange from.spot → IsTidy exchange old → AreUpTo from.spot.place.received old → StaysTidy exchange from.spot.place.received old new)
      → AreNoted trail trail2 base (length new) (origins.Behind steps.Pass (before + passed))
      → IsTracingSo config within exchange row before first base (passed + 1) heard trail2 new
  passed_traced passed heard trail trail2 slice old new is behind so_far same lt compares it gains tidy noted = record {
    grows = passed_so config within exchange row first passed heard slice old new same so_far.grows is lt compares it gains tidy;
    to = one_traced config within exchange trail trail2 base before passed row old new steps.Pass _ so_far.to so_far.before_it (omega (arith, behind, lt)) gains (λ n2 h. h) noted;
    before_it = row_longer trail trail2 (length new) _ so_far.before_it noted;
  }

  pub heard_traced : (passed heard : ℕ) (trail trail2 : List Origin) (slice old new : List (CodeNode X)) (made : Option (CodeNode X)) (is : Bool)
      → IsTracingSo config within exchange row before first base passed heard trail old → slice ≡ old → heard < length slice → Compares config within exchange row first passed heard slice is → is ≡ false
      → ((n2 : Node) → IsMade exchange made n2 ↔ ((n : Node) × IsOfPlace exchange slice heard n × (x : Message) × Hears config n x n2)) → GainsNodes exchange old new (IsMade exchange made)
      → IfSome (slice_get slice heard) (λ from. IsWithin exchange from.spot → IfSome made (StandsAt exchange (from.spot.place.received + 1)))
      → ((received : ℕ) → IsTidy exchange old → IfSome made (StandsAt exchange received) → AreUpTo received old → StaysTidy exchange received old new)
      → AreNoted trail trail2 base (length new) (origins.Behind steps.Receive (base + heard))
      → IsTracingSo config within exchange row before first base passed (heard + 1) trail2 new
  heard_traced passed heard trail trail2 slice old new made is so_far same lt compares it just gains stands tidy noted =
      let short : heard < length old = subst (λ (v : List (CodeNode X)). heard < length v) same lt in
      record {
        grows = heard_so config within exchange row first passed heard slice old new made same so_far.grows is lt compares it just gains stands tidy;
        to = one_traced config within exchange trail trail2 base base heard old old new steps.Receive (IsMade exchange made) so_far.to so_far.to.tracked (omega (arith, short)) gains
            (λ n2 h. let k = (just n2).0 h in (k.0, subst (λ (v : List (CodeNode X)). IsOfPlace exchange v heard k.0) same k.1, (k.2, k.3))) noted;
        before_it = row_longer trail trail2 (length new) _ so_far.before_it noted;
      }

-- the last node of a way is at this place of the row
abbrev pub IsLastAt : {X : Type 0} → Exchange → List (CodeNode X) → ℕ → Type 0
IsLastAt exchange row index = IsSomeAnd (slice_get row index) (λ c. IsLastOf exchange c)

pub below_row : {X : Type 0} (row : List X) (index : ℕ) (P : X → Type 0) → IsSomeAnd (slice_get row index) P → index < length row
below_row [] index P h = absurd h
below_row (c ∷ row) zero P h = omega arith
below_row (c ∷ row) (suc index) P h = omega (arith, below_row row index P h)
