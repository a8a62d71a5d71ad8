-- A sent UPDATE opens, in Established, the step that sends routes alone.
use Rattle.std.proofs.Common.{◌≡◌, ℕ, inl, inr, List, [], ◌∷◌, ◌++◌, Option, None, Some, refl, slice_index_or, sym, ap, subst, ◌∙◌, arith}
use Rattle.std.proofs.lemmas.List.{get_or-take}
use Rattle.bgp_prefix.specs.Shown.{ShownRecord, Received, Sent, Changed, second_of}
use Rattle.bgp_wire.specs.Header.{header_of, type_of}
use Rattle.bgp_open.specs.declared.config.Config.{Config}
use Rattle.bgp_open.specs.declared.link.Link.{Link}
use Rattle.bgp_machine.specs.declared.fsm.Fsm.{Fsm}
use Rattle.bgp_machine.specs.declared.rows.HiddenRow.{HiddenRow}
use Rattle.bgp_machine.specs.declared.rows.HiddenRow.TheVariants.{Starts, Listens, Stops, Ceases, RetryExpires, HoldExpires, SendHoldExpires, KeepaliveExpires, DelayExpires, ConnectionOpens, DelayBegins, ConnectionFails, Announces, Notes}
use Rattle.bgp_machine.specs.declared.state.HoldTimer.{HoldTimer}
use Rattle.bgp_machine.specs.declared.state.Head.{Head}
use Rattle.bgp_machine.specs.declared.state.Head.TheVariants.{Idle, Connect, Active, OpenSent, OpenConfirm, Established}
use Rattle.bgp_machine.specs.declared.step.After.{After}
use Rattle.bgp_machine.specs.declared.step.Step.{Step}
use Rattle.bgp_machine.specs.declared.want.Want.{Want}
use Rattle.bgp_machine.specs.declared.want.Want.TheVariants.{KeepAlive, Cease, HoldExpired, SendHoldExpired}
use Rattle.bgp_machine.specs.Listed.{IsShown, IsStep, no_changes, turn_of}
use Rattle.bgp_machine.specs.Lists.{Has}
use Rattle.bgp_machine.specs.Rows.{HiddenShown, IsOnly, NoStep}
use Rattle.bgp_machine.specs.Shows.{Pays}
use Rattle.bgp_machine.specs.State.{Turn, link_at}
use Rattle.bgp_machine.specs.Step.{Hidden, HiddenIn}
use Rattle.bgp_machine.specs.Want.{Meets, Tells, wants_of}
use Rattle.bgp_judge.specs.Next.{Opens}
use Rattle.bgp_judge.specs.Openings.{IsAnnouncement, ListsOpenings, IsOpened, Keeps}
use Rattle.bgp_judge.proofs.KeptSteps.{at_pays, at_step, shows_some}

-- the type stands in octet 18
pub type_at : (octets : List ℕ) → type_of (header_of octets) ≡ slice_index_or octets 18 0
unfolding type_of
type_at octets = get_or-take 19 octets 18 0 (omega arith)

module _ (config : Config) (link : Link) (timer : HoldTimer) (s : ℕ) (octets : List ℕ) (update : type_of (header_of octets) ≡ 2) where
  head : Head
  head = Established link timer

  -- no NOTIFICATION, and no KEEPALIVE
  tells_nothing : (P : ℕ → ℕ → List ℕ → Type 0) → Tells octets P → ⊥
  tells_nothing P tells = let notification = tells.3.message.type_field in omega (arith, update, notification)

  no_one : (wants : List Want) (change : Option (Fsm × Fsm)) (left : List Want) (still : Option (Fsm × Fsm)) → wants ≡ []
      → Pays config (Some link) (Sent s octets) wants change left still → ⊥
  no_one wants change left still e pays = subst (λ (v : List Want). Pays config (Some link) (Sent s octets) v change left still) e pays

  met : (want : Want) (wants : List Want) (change : Option (Fsm × Fsm)) (left : List Want) (still : Option (Fsm × Fsm)) → wants ≡ want ∷ []
      → Pays config (Some link) (Sent s octets) wants change left still → Meets config (Some link) want octets
  met want wants change left still e pays =
      let paid : Pays config (Some link) (Sent s octets) (want ∷ []) change left still =
      subst (λ (v : List Want). Pays config (Some link) (Sent s octets) v change left still) e pays in
      paid.0

  -- the row is the one that sends routes
  one_row : (row : HiddenRow) (wants : List Want) (change : Option (Fsm × Fsm)) (turn : Turn) (left : List Want) (still : Option (Fsm × Fsm))
      → HiddenIn (Established link timer) config s row wants turn → Pays config (Some link) (Sent s octets) wants change left still → row ≡ Announces
  one_row Starts wants change turn left still h pays = absurd h
  one_row Listens wants change turn left still h pays = absurd h
  one_row Stops wants change turn left still h pays = absurd h
  one_row Ceases wants change turn left still h pays = absurd (tells_nothing _ (met Cease wants change left still h.0 pays).fulfils)
  one_row RetryExpires wants change turn left still h pays = absurd h
  one_row HoldExpires wants change turn left still h pays = absurd (tells_nothing _ (met HoldExpired wants change left still h.1 pays).fulfils)
  one_row SendHoldExpires wants change turn left still h pays = absurd (tells_nothing _ (met SendHoldExpired wants change left still h.1 pays).fulfils)
  one_row KeepaliveExpires wants change turn left still h pays =
      let keepalive = (met KeepAlive wants change left still h.1 pays).fulfils.type_field in absurd (omega (arith, update, keepalive))
  one_row DelayExpires wants change turn left still h pays = absurd h
  one_row ConnectionOpens wants change turn left still h pays = absurd h
  one_row DelayBegins wants change turn left still h pays = absurd h
  one_row ConnectionFails wants change turn left still h pays = absurd (no_one wants change left still h.0 pays)
  one_row Announces wants change turn left still h pays = refl
  one_row Notes wants change turn left still h pays = absurd (no_one wants change left still h.0 pays)

  -- what it makes that the record opens
  opens_by : (left : List Want) (still : Option (Fsm × Fsm)) (turn : Turn) → Opens config (Established link timer) (Sent s octets) left still turn
      → (wants : List Want) × (change : Option (Fsm × Fsm)) × HiddenShown config (Established link timer) s Announces wants change turn
      × Pays config (Some link) (Sent s octets) wants change left still
  opens_by left still turn o =
      let same : o.0 ≡ Announces = one_row o.0 o.1 o.2 turn left still o.3.0 o.4 in
      let is : HiddenShown config (Established link timer) s o.0 o.1 o.2 turn =
      (o.3.0, o.3.1, shows_some config (Some link) (Sent s octets) o.1 o.2 left still o.4) in
      (o.1, o.2, subst (λ (v : HiddenRow). HiddenShown config (Established link timer) s v o.1 o.2 turn) same is, o.4)

  pub none_announced : NoStep (HiddenShown config (Established link timer) s Announces)
      → ListsOpenings config (Established link timer) (Sent s octets) no_changes []
  none_announced none = record {
    each = tt;
    every = λ left still turn o. let k = opens_by left still turn o in absurd (none k.0 k.1 turn k.2);
  }

  opened_so : (x y : Step) → IsOnly (HiddenShown config (Established link timer) s Announces) no_changes x
      → IsOpened config (Established link timer) (Sent s octets) x y
      → Opens config (Established link timer) (Sent s octets) (wants_of y.wants) y.change (turn_of no_changes y.after)
  opened_so x y only opened =
      let shown : HiddenShown config (Established link timer) s Announces (wants_of x.wants) x.change (turn_of no_changes x.after) =
      at_step (λ ws c v. HiddenShown config (Established link timer) s Announces ws c v) no_changes x only.is.0 only.is.1 only.is.2 only.is.4 only.is.3 in (
        Announces,
        wants_of x.wants,
        x.change,
        subst (λ (v : After). IsShown (Established link timer) config s (Hidden Announces) (wants_of x.wants) x.change (turn_of no_changes v))
            (sym opened.ends) (shown.0, shown.1),
        opened.leaves.pays,
      )

  pub one_announced : (x : Step) (new : List Step) → IsOnly (HiddenShown config (Established link timer) s Announces) no_changes x
      → Keeps config (Established link timer) (Sent s octets) x [] new
      → ListsOpenings config (Established link timer) (Sent s octets) no_changes new
  one_announced x new only keeps = elim keeps [
    | inl k ↦ subst (λ (v : List Step). ListsOpenings config (Established link timer) (Sent s octets) no_changes v) (sym k.1) (record {
      each = tt;
      every = λ left still turn o.
          let p = opens_by left still turn o in
          absurd (k.0 left still (at_pays config (Established link timer) (Sent s octets) x p.0 p.1 turn left still (only.only p.0 p.1 turn p.2) p.3));
    })
    | inr k ↦ let y = k.0 in let opened : IsOpened config (Established link timer) (Sent s octets) x y = k.1 in
        subst (λ (v : List Step). ListsOpenings config (Established link timer) (Sent s octets) no_changes v) (sym k.2) (record {
          each = (opened_so x y only opened, tt);
          every = λ left still turn o.
              let p = opens_by left still turn o in
              let is = only.only p.0 p.1 turn p.2 in
              let l = opened.leaves.only left still (at_pays config (Established link timer) (Sent s octets) x p.0 p.1 turn left still is p.3) in
              inl (record { sends = l.0; shows = l.1; ends = ap (λ (v : After). turn_of no_changes v) opened.ends ∙ is.ends });
        })
  ]

pub announced_lists : (config : Config) (head : Head) (t : ℕ) (shown : ShownRecord) (x : Step) (old new : List Step) → IsAnnouncement head shown
    → second_of shown ≡ t → old ≡ [] → IsOnly (HiddenShown config head t Announces) no_changes x → Keeps config head shown x old new
    → ListsOpenings config head shown no_changes new
announced_lists config (Established link timer) t (Sent s octets) x old new is second none only keeps =
    one_announced config link timer s octets is.1 x new
    (subst (λ (v : ℕ). IsOnly (HiddenShown config (Established link timer) v Announces) no_changes x) (sym second) only)
    (subst (λ (v : List Step). Keeps config (Established link timer) (Sent s octets) x v new) none keeps)
announced_lists config (Established link timer) t (Received s octets) x old new is second none only keeps = absurd is
announced_lists config (Established link timer) t (Changed s a b) x old new is second none only keeps = absurd is
announced_lists config Idle t shown x old new is second none only keeps = absurd is
announced_lists config (Connect d) t shown x old new is second none only keeps = absurd is
announced_lists config (Active d) t shown x old new is second none only keeps = absurd is
announced_lists config (OpenSent h) t shown x old new is second none only keeps = absurd is
announced_lists config (OpenConfirm l h) t shown x old new is second none only keeps = absurd is

pub none_lists : (config : Config) (head : Head) (t : ℕ) (shown : ShownRecord) (new : List Step) → IsAnnouncement head shown
    → second_of shown ≡ t → new ≡ [] → NoStep (HiddenShown config head t Announces) → ListsOpenings config head shown no_changes new
none_lists config (Established link timer) t (Sent s octets) new is second none never =
    subst (λ (v : List Step). ListsOpenings config (Established link timer) (Sent s octets) no_changes v) (sym none)
    (none_announced config link timer s octets is.1 (subst (λ (v : ℕ). NoStep (HiddenShown config (Established link timer) v Announces)) (sym second) never))
none_lists config (Established link timer) t (Received s octets) new is second none never = absurd is
none_lists config (Established link timer) t (Changed s a b) new is second none never = absurd is
none_lists config Idle t shown new is second none never = absurd is
none_lists config (Connect d) t shown new is second none never = absurd is
none_lists config (Active d) t shown new is second none never = absurd is
none_lists config (OpenSent h) t shown new is second none never = absurd is
none_lists config (OpenConfirm l h) t shown new is second none never = absurd is
