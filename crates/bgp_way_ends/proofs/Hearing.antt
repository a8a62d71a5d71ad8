-- Which routes a session may have at last, by the messages that it still receives; and what one
-- message makes of that.
use Rattle.std.proofs.Common.{◌≡◌, ◌∙◌, ◌==◌, ◌⊎◌, ℕ, Bool, true, false, List, [], ◌∷◌, Option, if◌then◌else◌, inl, inr, refl, sym, ap, subst}
use Rattle.std.proofs.lemmas.Bool.{both_ways, eq-eqb}
use Rattle.bgp_wire.specs.Header.{header_of, type_of}
use Rattle.bgp_open.specs.declared.config.Config.{Config}
use Rattle.bgp_open.specs.declared.families.Families.{Families}
use Rattle.bgp_open.specs.declared.link.Link.{Link}
use Rattle.bgp_open.specs.Link.{link_of}
use Rattle.bgp_open.specs.Open.{open_of}
use Rattle.bgp_update.specs.Changes.{RouteChanges}
use Rattle.bgp_update.specs.Outcome.{IsOutcome, Applied}
use Rattle.bgp_rib.specs.Routes.{Routes, routes_after, routes_without}
use Rattle.bgp_machine.specs.declared.fsm.Fsm.{Fsm}
use Rattle.bgp_machine.specs.declared.hearing.Heard.{Heard}
use Rattle.bgp_machine.specs.declared.hearing.Heard.TheVariants.{ValidOpen, FaultyHeader, InvalidOpen, BadVersion, Notification, Keepalive, Update}
use Rattle.bgp_machine.specs.declared.rows.ReceivedRow.{ReceivedRow}
use Rattle.bgp_machine.specs.declared.rows.ReceivedRow.TheVariants.{Accepts, Overlooks, Collides, Drops, NamesFault, ReportsError, Establishes, Renews, Applies}
use Rattle.bgp_machine.specs.declared.state.Head.{Head}
use Rattle.bgp_machine.specs.declared.state.Head.TheVariants.{Idle, Connect, Active, OpenSent, OpenConfirm, Established}
use Rattle.bgp_machine.specs.declared.state.HoldTimer.{HoldTimer}
use Rattle.bgp_machine.specs.declared.want.Want.{Want}
use Rattle.bgp_machine.specs.Heard.{Announces, Hears}
use Rattle.bgp_machine.specs.Listed.{IsShown}
use Rattle.bgp_machine.specs.State.{Given, Turn, enters, falls, fsm_of, renewed, routes_by}
use Rattle.bgp_machine.specs.Step.{ReceivedIn}
use Rattle.bgp_machine.specs.Step as steps
use Rattle.bgp_way_ends.proofs.Phases.{Before, Confirmed, Down, IsUp, Phase, Up, phase_of}

-- ---- the messages

abbrev pub is_keepalive : List ℕ → Bool
is_keepalive octets = type_of (header_of octets) == 4

-- those behind the first KEEPALIVE
abbrev pub behind : List (List ℕ) → List (List ℕ)
behind [] = []
behind (o ∷ os) = if is_keepalive o then os else behind os

-- an UPDATE is applied with one of its outcomes; another message changes no route
abbrev pub IsHandled : Config → Link → List ℕ → Routes → Routes → Type 0
IsHandled config link octets routes next =
    (Announces config 2 octets × (changes : RouteChanges) × (families : Families) × IsOutcome link octets (Applied changes families)
    × (next ≡ routes_without families (routes_after changes routes)))
    ⊎ ((¬ Announces config 2 octets) × (next ≡ routes))

abbrev pub AreHandled : Config → Link → Routes → List (List ℕ) → Routes → Type 0
AreHandled config link routes [] last = routes ≡ last
AreHandled config link routes (o ∷ os) last = (next : Routes) × IsHandled config link o routes next × AreHandled config link next os last

-- a session in this phase with these routes, which receives these messages still, may have those at last
abbrev pub MayHave : Config → Phase → Routes → List (List ℕ) → Routes → Type 0
MayHave config Down routes os last = ⊥
MayHave config Before routes [] last = ⊥
MayHave config Before routes (o ∷ os) last = AreHandled config (link_of config (open_of o)) routes (behind os) last
MayHave config (Confirmed link) routes os last = AreHandled config link routes (behind os) last
MayHave config (Up link) routes os last = AreHandled config link routes os last

-- ---- what a message does that doesn't end the session

abbrev pub Goes : Head → ℕ → List ℕ → Heard → List Want → Turn → Type 0
Goes (Connect delay) t octets (ValidOpen link e) wants turn = (timer : HoldTimer) × (turn ≡ enters (OpenConfirm link timer))
Goes (Active delay) t octets (ValidOpen link e) wants turn = (timer : HoldTimer) × (turn ≡ enters (OpenConfirm link timer))
Goes (OpenSent own) t octets (ValidOpen link e) wants turn = (timer : HoldTimer) × (turn ≡ enters (OpenConfirm link timer))
Goes (OpenConfirm own timer) t octets (ValidOpen link e) wants turn = turn ≡ enters (OpenConfirm own timer)
Goes (OpenConfirm own timer) t octets Keepalive wants turn = turn ≡ enters (Established own (renewed timer t))
Goes (Established own timer) t octets (ValidOpen link e) wants turn = turn ≡ enters (Established own timer)
Goes (Established own timer) t octets Keepalive wants turn = turn ≡ enters (Established own (renewed timer t))
Goes (Established own timer) t octets Update wants turn =
    (changes : RouteChanges) × (families : Families) × IsOutcome own octets (Applied changes families) × (wants ≡ [])
    × (turn ≡ record { head = Established own (renewed timer t); routes = Given changes families })
Goes head t octets heard wants turn = ⊥

fallen : {X : Type 0} (turn : Turn) → turn ≡ falls → IsUp turn.head → X
fallen turn e up = absurd (up (ap (λ (v : Turn). fsm_of v.head) e))

pub goes : (head : Head) (t : ℕ) (octets : List ℕ) (x : Heard) (row : ReceivedRow) (wants : List Want) (turn : Turn) → IsUp head → IsUp turn.head
    → ReceivedIn head t octets x row wants turn → Goes head t octets x wants turn
goes Idle t octets x row wants turn up0 up r = absurd (up0 refl)
goes (Connect delay) t octets (ValidOpen link e) Accepts wants turn up0 up r = (_, r.2)
goes (Connect delay) t octets (ValidOpen link e) Drops wants turn up0 up r = fallen turn r.1 up
goes (Connect delay) t octets (ValidOpen link e) NamesFault wants turn up0 up r = fallen turn r.1 up
goes (Connect delay) t octets (FaultyHeader f) Drops wants turn up0 up r = fallen turn r.1 up
goes (Connect delay) t octets (FaultyHeader f) NamesFault wants turn up0 up r = fallen turn r.1 up
goes (Connect delay) t octets (InvalidOpen e) Drops wants turn up0 up r = fallen turn r.1 up
goes (Connect delay) t octets (InvalidOpen e) NamesFault wants turn up0 up r = fallen turn r.1 up
goes (Connect delay) t octets BadVersion Drops wants turn up0 up r = fallen turn r.1 up
goes (Connect delay) t octets Notification Drops wants turn up0 up r = fallen turn r.1 up
goes (Connect delay) t octets Keepalive Drops wants turn up0 up r = fallen turn r.1 up
goes (Connect delay) t octets Update Drops wants turn up0 up r = fallen turn r.1 up
goes (Active delay) t octets (ValidOpen link e) Accepts wants turn up0 up r = (_, r.2)
goes (Active delay) t octets (ValidOpen link e) Drops wants turn up0 up r = fallen turn r.1 up
goes (Active delay) t octets (ValidOpen link e) NamesFault wants turn up0 up r = fallen turn r.1 up
goes (Active delay) t octets (FaultyHeader f) Drops wants turn up0 up r = fallen turn r.1 up
goes (Active delay) t octets (FaultyHeader f) NamesFault wants turn up0 up r = fallen turn r.1 up
goes (Active delay) t octets (InvalidOpen e) Drops wants turn up0 up r = fallen turn r.1 up
goes (Active delay) t octets (InvalidOpen e) NamesFault wants turn up0 up r = fallen turn r.1 up
goes (Active delay) t octets BadVersion Drops wants turn up0 up r = fallen turn r.1 up
goes (Active delay) t octets Notification Drops wants turn up0 up r = fallen turn r.1 up
goes (Active delay) t octets Keepalive Drops wants turn up0 up r = fallen turn r.1 up
goes (Active delay) t octets Update Drops wants turn up0 up r = fallen turn r.1 up
goes (OpenSent own) t octets (ValidOpen link e) Accepts wants turn up0 up r = (_, r.1)
goes (OpenSent own) t octets (ValidOpen link e) Collides wants turn up0 up r = fallen turn r.1 up
goes (OpenSent own) t octets (ValidOpen link e) NamesFault wants turn up0 up r = fallen turn r.1 up
goes (OpenSent own) t octets (FaultyHeader f) NamesFault wants turn up0 up r = fallen turn r.1 up
goes (OpenSent own) t octets (InvalidOpen e) NamesFault wants turn up0 up r = fallen turn r.1 up
goes (OpenSent own) t octets BadVersion Drops wants turn up0 up r = fallen turn r.1 up
goes (OpenSent own) t octets Notification Drops wants turn up0 up r = fallen turn r.1 up
goes (OpenSent own) t octets Notification ReportsError wants turn up0 up r = fallen turn r.1 up
goes (OpenSent own) t octets Keepalive ReportsError wants turn up0 up r = fallen turn r.1 up
goes (OpenSent own) t octets Update ReportsError wants turn up0 up r = fallen turn r.1 up
goes (OpenConfirm own timer) t octets (ValidOpen link e) Overlooks wants turn up0 up r = r.1
goes (OpenConfirm own timer) t octets (ValidOpen link e) Collides wants turn up0 up r = fallen turn r.1 up
goes (OpenConfirm own timer) t octets (ValidOpen link e) NamesFault wants turn up0 up r = fallen turn r.1 up
goes (OpenConfirm own timer) t octets (ValidOpen link e) ReportsError wants turn up0 up r = fallen turn r.1 up
goes (OpenConfirm own timer) t octets (FaultyHeader f) NamesFault wants turn up0 up r = fallen turn r.1 up
goes (OpenConfirm own timer) t octets (InvalidOpen e) NamesFault wants turn up0 up r = fallen turn r.1 up
goes (OpenConfirm own timer) t octets BadVersion Drops wants turn up0 up r = fallen turn r.1 up
goes (OpenConfirm own timer) t octets Notification Drops wants turn up0 up r = fallen turn r.1 up
goes (OpenConfirm own timer) t octets Keepalive Establishes wants turn up0 up r = r.1
goes (OpenConfirm own timer) t octets Update ReportsError wants turn up0 up r = fallen turn r.1 up
goes (Established own timer) t octets (ValidOpen link e) Overlooks wants turn up0 up r = r.1
goes (Established own timer) t octets (ValidOpen link e) Collides wants turn up0 up r = fallen turn r.1 up
goes (Established own timer) t octets (ValidOpen link e) NamesFault wants turn up0 up r = fallen turn r.1 up
goes (Established own timer) t octets (ValidOpen link e) ReportsError wants turn up0 up r = fallen turn r.1 up
goes (Established own timer) t octets (FaultyHeader f) NamesFault wants turn up0 up r = fallen turn r.1 up
goes (Established own timer) t octets (FaultyHeader f) ReportsError wants turn up0 up r = fallen turn r.1 up
goes (Established own timer) t octets (InvalidOpen e) NamesFault wants turn up0 up r = fallen turn r.1 up
goes (Established own timer) t octets (InvalidOpen e) ReportsError wants turn up0 up r = fallen turn r.1 up
goes (Established own timer) t octets BadVersion Drops wants turn up0 up r = fallen turn r.1 up
goes (Established own timer) t octets Notification Drops wants turn up0 up r = fallen turn r.1 up
goes (Established own timer) t octets Keepalive Renews wants turn up0 up r = r.1
goes (Established own timer) t octets Update NamesFault wants turn up0 up r = fallen turn r.3 up
goes (Established own timer) t octets Update (Applies families) wants turn up0 up r = (r.0, families, r.1, r.2, r.3)
goes head t octets x row wants turn up0 up r = absurd r

-- ---- what is so of the routes at last

differ : (m n : ℕ) → (m == n) ≡ false → m ≡ n → ⊥
differ m n isnt is = both_ways (m == n) isnt (eq-eqb m n is)

no_update : (config : Config) (octets : List ℕ) (kind : ℕ) → (kind == 2) ≡ false → Announces config kind octets → ¬ Announces config 2 octets
no_update config octets kind isnt one other = differ kind 2 isnt (sym one.type_field ∙ other.type_field)

-- whether it is a KEEPALIVE
pub a_keepalive : (config : Config) (octets : List ℕ) (kind : ℕ) → Announces config kind octets → is_keepalive octets ≡ (kind == 4)
a_keepalive config octets kind one = ap (λ (n : ℕ). n == 4) one.type_field

-- a message that is passed over in Established
passed : (config : Config) (link : Link) (octets : List ℕ) (os : List (List ℕ)) (routes last : Routes) → (¬ Announces config 2 octets)
    → AreHandled config link routes os last → AreHandled config link routes (octets ∷ os) last
passed config link octets os routes last none rest = (routes, inr (none, refl), rest)

passed_back : (config : Config) (link : Link) (octets : List ℕ) (os : List (List ℕ)) (routes last : Routes) → (¬ Announces config 2 octets)
    → AreHandled config link routes (octets ∷ os) last → AreHandled config link routes os last
passed_back config link octets os routes last none (next, inl k, rest) = absurd (none k.0)
passed_back config link octets os routes last none (next, inr k, rest) = subst (λ (r : Routes). AreHandled config link r os last) k.1 rest

-- what a step makes of what the routes may be at last, and how it may end else
pub record Hears1 (config : Config) (head : Head) (t : ℕ) (octets : List ℕ) (os : List (List ℕ)) (wants : List Want) (change : Option (Fsm × Fsm)) (turn : Turn)
    : Type 0 where
  pub back : (routes last : Routes) → MayHave config (phase_of turn.head) (routes_by turn.routes routes) os last → MayHave config (phase_of head) routes (octets ∷ os) last
  pub on : (routes last : Routes) → MayHave config (phase_of head) routes (octets ∷ os) last
      → (other : Turn) × IsShown head config t (steps.Received octets) wants change other × (other.head ≡ turn.head)
      × MayHave config (phase_of turn.head) (routes_by other.routes routes) os last

-- a step that keeps the routes
module _ (config : Config) (head : Head) (t : ℕ) (octets : List ℕ) (os : List (List ℕ)) (wants : List Want) (change : Option (Fsm × Fsm)) (turn : Turn)
    (shown : IsShown head config t (steps.Received octets) wants change turn) where
  keeps : (next : Head) → turn ≡ enters next
      → ((routes last : Routes) → MayHave config (phase_of next) routes os last → MayHave config (phase_of head) routes (octets ∷ os) last)
      → ((routes last : Routes) → MayHave config (phase_of head) routes (octets ∷ os) last → MayHave config (phase_of next) routes os last)
      → Hears1 config head t octets os wants change turn
  keeps next e back on = record {
    back = λ routes last h. back routes last (subst (λ (u : Turn). MayHave config (phase_of u.head) (routes_by u.routes routes) os last) e h);
    on = λ routes last h. (
      turn,
      shown,
      refl,
      subst (λ (u : Turn). MayHave config (phase_of u.head) (routes_by u.routes routes) os last) (sym e) (on routes last h),
    );
  }

by_link : (config : Config) (a b : Link) (routes : Routes) (os : List (List ℕ)) (last : Routes) → a ≡ b → AreHandled config a routes os last → AreHandled config b routes os last
by_link config a b routes os last e h = subst (λ (l : Link). AreHandled config l routes os last) e h

-- what stands behind a KEEPALIVE, and behind another message
to_behind : (config : Config) (link : Link) (o : List ℕ) (os : List (List ℕ)) (b : Bool) (routes last : Routes) → is_keepalive o ≡ b
    → AreHandled config link routes (if b then os else behind os) last → AreHandled config link routes (behind (o ∷ os)) last
to_behind config link o os b routes last is h = subst (λ (c : Bool). AreHandled config link routes (if c then os else behind os) last) (sym is) h

from_behind : (config : Config) (link : Link) (o : List ℕ) (os : List (List ℕ)) (b : Bool) (routes last : Routes) → is_keepalive o ≡ b
    → AreHandled config link routes (behind (o ∷ os)) last → AreHandled config link routes (if b then os else behind os) last
from_behind config link o os b routes last is h = subst (λ (c : Bool). AreHandled config link routes (if c then os else behind os) last) is h

-- an UPDATE that is applied, and as it may be applied else
module _ (config : Config) (own : Link) (timer : HoldTimer) (t : ℕ) (octets : List ℕ) (os : List (List ℕ)) (wants : List Want) (change : Option (Fsm × Fsm)) (turn : Turn)
    (hears : Hears config octets Update) (changes : RouteChanges) (families : Families) (outcome : IsOutcome own octets (Applied changes families)) (none : wants ≡ [])
    (ends : turn ≡ record { head = Established own (renewed timer t); routes = Given changes families })
    (shows : change ≡ steps.change_of (steps.Received octets) (fsm_of (Established own timer)) (fsm_of turn.head)) where
  abbrev given : RouteChanges → Families → Turn
  given c f = record { head = turn.head; routes = Given c f }

  update_back : (routes last : Routes) → MayHave config (phase_of turn.head) (routes_by turn.routes routes) os last
      → AreHandled config own routes (octets ∷ os) last
  update_back routes last h = (
    routes_without families (routes_after changes routes),
    inl (hears, changes, families, outcome, refl),
    subst (λ (u : Turn). MayHave config (phase_of u.head) (routes_by u.routes routes) os last) ends h,
  )

  given_on : (c : RouteChanges) (f : Families) (routes last : Routes) → AreHandled config own (routes_without f (routes_after c routes)) os last
      → MayHave config (phase_of turn.head) (routes_by (given c f).routes routes) os last
  given_on c f routes last h =
      subst (λ (v : Head). MayHave config (phase_of v) (routes_without f (routes_after c routes)) os last) (sym (ap (λ (u : Turn). u.head) ends)) h

  is_given : (c : RouteChanges) (f : Families) → IsOutcome own octets (Applied c f) → IsShown (Established own timer) config t (steps.Received octets) wants change (given c f)
  is_given c f is = (
    (Update, Applies f, hears, (c, is, none, λ i. record { head = ap (λ (u : Turn). u.head) ends i; routes = Given c f })),
    shows,
  )

  update_on : (routes last : Routes) → AreHandled config own routes (octets ∷ os) last
      → (other : Turn) × IsShown (Established own timer) config t (steps.Received octets) wants change other × (other.head ≡ turn.head)
      × MayHave config (phase_of turn.head) (routes_by other.routes routes) os last
  update_on routes last (next, inl k, rest) = (
    given k.1 k.2,
    is_given k.1 k.2 k.3,
    refl,
    given_on k.1 k.2 routes last (subst (λ (r : Routes). AreHandled config own r os last) k.4 rest),
  )
  update_on routes last (next, inr k, rest) = absurd (k.0 hears)

  update_step : Hears1 config (Established own timer) t octets os wants change turn
  update_step = record { back = update_back; on = update_on }

pub heard_step : (config : Config) (head : Head) (t : ℕ) (octets : List ℕ) (os : List (List ℕ)) (x : Heard) (wants : List Want) (change : Option (Fsm × Fsm)) (turn : Turn)
    → IsShown head config t (steps.Received octets) wants change turn → Hears config octets x → Goes head t octets x wants turn
    → Hears1 config head t octets os wants change turn
heard_step config (Connect delay) t octets os (ValidOpen link e) wants change turn shown hears g =
    keeps config (Connect delay) t octets os wants change turn shown (OpenConfirm link g.0) g.1
    (λ routes last h. by_link config link (link_of config (open_of octets)) routes (behind os) last hears.2 h)
    (λ routes last h. by_link config (link_of config (open_of octets)) link routes (behind os) last (sym hears.2) h)
heard_step config (Active delay) t octets os (ValidOpen link e) wants change turn shown hears g =
    keeps config (Active delay) t octets os wants change turn shown (OpenConfirm link g.0) g.1
    (λ routes last h. by_link config link (link_of config (open_of octets)) routes (behind os) last hears.2 h)
    (λ routes last h. by_link config (link_of config (open_of octets)) link routes (behind os) last (sym hears.2) h)
heard_step config (OpenSent own) t octets os (ValidOpen link e) wants change turn shown hears g =
    keeps config (OpenSent own) t octets os wants change turn shown (OpenConfirm link g.0) g.1
    (λ routes last h. by_link config link (link_of config (open_of octets)) routes (behind os) last hears.2 h)
    (λ routes last h. by_link config (link_of config (open_of octets)) link routes (behind os) last (sym hears.2) h)
heard_step config (OpenConfirm own timer) t octets os (ValidOpen link e) wants change turn shown hears g =
    keeps config (OpenConfirm own timer) t octets os wants change turn shown (OpenConfirm own timer) g
    (λ routes last h. to_behind config own octets os false routes last (a_keepalive config octets 1 hears.0) h)
    (λ routes last h. from_behind config own octets os false routes last (a_keepalive config octets 1 hears.0) h)
heard_step config (OpenConfirm own timer) t octets os Keepalive wants change turn shown hears g =
    keeps config (OpenConfirm own timer) t octets os wants change turn shown (Established own (renewed timer t)) g
    (λ routes last h. to_behind config own octets os true routes last (a_keepalive config octets 4 hears) h)
    (λ routes last h. from_behind config own octets os true routes last (a_keepalive config octets 4 hears) h)
heard_step config (Established own timer) t octets os (ValidOpen link e) wants change turn shown hears g =
    keeps config (Established own timer) t octets os wants change turn shown (Established own timer) g
    (λ routes last h. passed config own octets os routes last (no_update config octets 1 refl hears.0) h)
    (λ routes last h. passed_back config own octets os routes last (no_update config octets 1 refl hears.0) h)
heard_step config (Established own timer) t octets os Keepalive wants change turn shown hears g =
    keeps config (Established own timer) t octets os wants change turn shown (Established own (renewed timer t)) g
    (λ routes last h. passed config own octets os routes last (no_update config octets 4 refl hears) h)
    (λ routes last h. passed_back config own octets os routes last (no_update config octets 4 refl hears) h)
heard_step config (Established own timer) t octets os Update wants change turn shown hears g =
    update_step config own timer t octets os wants change turn hears g.0 g.1 g.2 g.3 g.4 shown.1
heard_step config head t octets os x wants change turn shown hears g = absurd g
