-- All steps go one way that a record opens and that go on; and what the others look at.
use Rattle.std.proofs.Common.{◌≡◌, ◌⊎◌, inl, inr, true, false, ℕ, List, [], Option, None, Some, refl, sym, ap, subst, ◌∙◌}
use Rattle.bgp_prefix.specs.Shown.{ShownRecord, Received, Sent, Changed, second_of}
use Rattle.bgp_open.specs.declared.config.Config.{Config}
use Rattle.bgp_open.specs.declared.families.Families.{Families}
use Rattle.bgp_open.specs.declared.link.Link.{Link}
use Rattle.bgp_update.specs.Changes.{RouteChanges}
use Rattle.bgp_machine.specs.declared.fsm.Fsm.{Fsm}
use Rattle.bgp_machine.specs.declared.fsm.Fsm.TheVariants as fsms
use Rattle.bgp_machine.specs.declared.state.Head.{Head}
use Rattle.bgp_machine.specs.declared.state.Head.TheVariants.{Idle, Connect, Active, OpenSent, OpenConfirm, Established}
use Rattle.bgp_machine.specs.declared.state.HoldTimer.{HoldTimer}
use Rattle.bgp_machine.specs.declared.hearing.Heard.{Heard}
use Rattle.bgp_machine.specs.declared.hearing.Heard.TheVariants as heard
use Rattle.bgp_machine.specs.declared.rows.HiddenRow.{HiddenRow}
use Rattle.bgp_machine.specs.declared.rows.HiddenRow.TheVariants.{Starts, Listens, Notes}
use Rattle.bgp_machine.specs.declared.rows.ReceivedRow.{ReceivedRow}
use Rattle.bgp_machine.specs.declared.rows.ReceivedRow.TheVariants.{Ignores}
use Rattle.bgp_machine.specs.declared.want.Want.{Want}
use Rattle.bgp_machine.specs.Going.{Falling, Going, GoingOn, GoOnWith, told, shown_after, undelayed, going, going_wants, going_on, going_on_wants}
use Rattle.bgp_machine.specs.Run.{is_delayed}
use Rattle.bgp_machine.specs.Shows.{Pays}
use Rattle.bgp_machine.specs.State.{Turn, RoutesTurn, Kept, Cleared, Given, enters, fsm_of, link_at}
use Rattle.bgp_machine.specs.Step.{HiddenIn, ReceivedIn, changed}
use Rattle.bgp_machine.proofs.OneHearing.{one_heard}
use Rattle.bgp_machine.proofs.Shapes.{shape_hidden, shape_received}
use Rattle.bgp_judge.specs.Member.{link_for}
use Rattle.bgp_judge.specs.Next.{Opens}
use Rattle.bgp_compact.specs.Steps.{LeadsOn}
use Rattle.bgp_compact.proofs.Bases.{not_to_idle}
use Rattle.bgp_compact.proofs.Opened.{OpensHidden, hidden_shape, owed_so, opened_link}
use Rattle.bgp_compact.proofs.PartPaid.{link_none}
use Rattle.bgp_compact.proofs.Rows.{HasLink, hidden_stays}

-- ---- heads without their delay

pub undelayed_is : (head : Head) → is_delayed head ≡ false → undelayed head ≡ head
undelayed_is Idle e = refl
undelayed_is (Connect true) e = absurd (let k : ⊥ = cc in k)
undelayed_is (Connect false) e = refl
undelayed_is (Active true) e = absurd (let k : ⊥ = cc in k)
undelayed_is (Active false) e = refl
undelayed_is (OpenSent timer) e = refl
undelayed_is (OpenConfirm own timer) e = refl
undelayed_is (Established own timer) e = refl

pub fsm_undelayed : (head : Head) → fsm_of (undelayed head) ≡ fsm_of head
fsm_undelayed Idle = refl
fsm_undelayed (Connect d) = refl
fsm_undelayed (Active d) = refl
fsm_undelayed (OpenSent timer) = refl
fsm_undelayed (OpenConfirm own timer) = refl
fsm_undelayed (Established own timer) = refl

pub link_undelayed : (head : Head) → link_at (undelayed head) ≡ link_at head
link_undelayed Idle = refl
link_undelayed (Connect d) = refl
link_undelayed (Active d) = refl
link_undelayed (OpenSent timer) = refl
link_undelayed (OpenConfirm own timer) = refl
link_undelayed (Established own timer) = refl

pub is_idle : (head : Head) → fsm_of head ≡ fsms.Idle → head ≡ Idle
is_idle Idle e = refl
is_idle (Connect d) e = absurd (let k : ⊥ = cc in k)
is_idle (Active d) e = absurd (let k : ⊥ = cc in k)
is_idle (OpenSent timer) e = absurd (let k : ⊥ = cc in k)
is_idle (OpenConfirm own timer) e = absurd (let k : ⊥ = cc in k)
is_idle (Established own timer) e = absurd (let k : ⊥ = cc in k)

pub idle_or_not : (head : Head) → (head ≡ Idle) ⊎ (fsm_of head ≡ fsms.Idle → ⊥)
idle_or_not Idle = inl refl
idle_or_not (Connect d) = inr (λ e. cc)
idle_or_not (Active d) = inr (λ e. cc)
idle_or_not (OpenSent timer) = inr (λ e. cc)
idle_or_not (OpenConfirm own timer) = inr (λ e. cc)
idle_or_not (Established own timer) = inr (λ e. cc)

has_link : (head : Head) (link : Link) → link_at head ≡ Some link → HasLink head
has_link Idle link e = let k : ⊥ = cc in k
has_link (Connect d) link e = let k : ⊥ = cc in k
has_link (Active d) link e = let k : ⊥ = cc in k
has_link (OpenSent timer) link e = let k : ⊥ = cc in k
has_link (OpenConfirm own timer) link e = tt
has_link (Established own timer) link e = tt

-- ---- the way doesn't look at the delay

going_undelayed : (config : Config) (head : Head) (t : ℕ) (c : Option Fsm) → going config head t c ≡ going config (undelayed head) t c
going_undelayed config Idle t c = refl
going_undelayed config (Connect d) t None = refl
going_undelayed config (Connect d) t (Some fsms.Idle) = refl
going_undelayed config (Connect d) t (Some fsms.Connect) = refl
going_undelayed config (Connect d) t (Some fsms.Active) = refl
going_undelayed config (Connect d) t (Some fsms.OpenSent) = refl
going_undelayed config (Connect d) t (Some fsms.OpenConfirm) = refl
going_undelayed config (Connect d) t (Some fsms.Established) = refl
going_undelayed config (Active d) t None = refl
going_undelayed config (Active d) t (Some fsms.Idle) = refl
going_undelayed config (Active d) t (Some fsms.Connect) = refl
going_undelayed config (Active d) t (Some fsms.Active) = refl
going_undelayed config (Active d) t (Some fsms.OpenSent) = refl
going_undelayed config (Active d) t (Some fsms.OpenConfirm) = refl
going_undelayed config (Active d) t (Some fsms.Established) = refl
going_undelayed config (OpenSent timer) t c = refl
going_undelayed config (OpenConfirm own timer) t c = refl
going_undelayed config (Established own timer) t c = refl

sends_undelayed : (head : Head) (c : Option Fsm) → going_wants head c ≡ going_wants (undelayed head) c
sends_undelayed Idle c = refl
sends_undelayed (Connect d) None = refl
sends_undelayed (Connect d) (Some fsms.Idle) = refl
sends_undelayed (Connect d) (Some fsms.Connect) = refl
sends_undelayed (Connect d) (Some fsms.Active) = refl
sends_undelayed (Connect d) (Some fsms.OpenSent) = refl
sends_undelayed (Connect d) (Some fsms.OpenConfirm) = refl
sends_undelayed (Connect d) (Some fsms.Established) = refl
sends_undelayed (Active d) None = refl
sends_undelayed (Active d) (Some fsms.Idle) = refl
sends_undelayed (Active d) (Some fsms.Connect) = refl
sends_undelayed (Active d) (Some fsms.Active) = refl
sends_undelayed (Active d) (Some fsms.OpenSent) = refl
sends_undelayed (Active d) (Some fsms.OpenConfirm) = refl
sends_undelayed (Active d) (Some fsms.Established) = refl
sends_undelayed (OpenSent timer) c = refl
sends_undelayed (OpenConfirm own timer) c = refl
sends_undelayed (Established own timer) c = refl

on_undelayed : (head : Head) (t : ℕ) (m : Heard) → undelayed (going_on head t m) ≡ undelayed (going_on (undelayed head) t m)
on_undelayed Idle t m = refl
on_undelayed (Connect d) t heard.TooShort = refl
on_undelayed (Connect d) t (heard.ValidOpen link e) = refl
on_undelayed (Connect d) t (heard.FaultyHeader f) = refl
on_undelayed (Connect d) t (heard.InvalidOpen e) = refl
on_undelayed (Connect d) t heard.BadVersion = refl
on_undelayed (Connect d) t heard.Notification = refl
on_undelayed (Connect d) t heard.Keepalive = refl
on_undelayed (Connect d) t heard.Update = refl
on_undelayed (Active d) t heard.TooShort = refl
on_undelayed (Active d) t (heard.ValidOpen link e) = refl
on_undelayed (Active d) t (heard.FaultyHeader f) = refl
on_undelayed (Active d) t (heard.InvalidOpen e) = refl
on_undelayed (Active d) t heard.BadVersion = refl
on_undelayed (Active d) t heard.Notification = refl
on_undelayed (Active d) t heard.Keepalive = refl
on_undelayed (Active d) t heard.Update = refl
on_undelayed (OpenSent timer) t m = refl
on_undelayed (OpenConfirm own timer) t m = refl
on_undelayed (Established own timer) t m = refl

on_sends_undelayed : (head : Head) (m : Heard) → going_on_wants head m ≡ going_on_wants (undelayed head) m
on_sends_undelayed Idle m = refl
on_sends_undelayed (Connect d) m = refl
on_sends_undelayed (Active d) m = refl
on_sends_undelayed (OpenSent timer) m = refl
on_sends_undelayed (OpenConfirm own timer) m = refl
on_sends_undelayed (Established own timer) m = refl

-- ---- a step that doesn't fall goes on

pub falling_down : (head : Head) (left : List Want) (turn : Turn) → Falling head left turn → fsm_of turn.head ≡ fsms.Idle
falling_down head left turn f = elim f.ends [ inl e ↦ ap (λ (v : Turn). fsm_of v.head) e | inr e ↦ ap (λ (v : Turn). fsm_of v.head) e.1 ]

hidden_goes : (config : Config) (head : Head) (r : ShownRecord) (left : List Want) (still : Option (Fsm × Fsm)) (turn : Turn)
    → OpensHidden config head r left still turn → (fsm_of turn.head ≡ fsms.Idle → ⊥) → Going config head (second_of r) (told r) left turn
hidden_goes config head r left still turn o up =
    elim (hidden_shape shape_hidden config head r left still turn o).way [ inl f ↦ absurd (up (falling_down head left turn f)) | inr g ↦ g ]

received_goes : (config : Config) (head : Head) (t : ℕ) (octets : List ℕ) (left : List Want) (still : Option (Fsm × Fsm)) (turn : Turn)
    → (o : Opens config head (Received t octets) left still turn) → (fsm_of turn.head ≡ fsms.Idle → ⊥) → GoingOn head t octets o.0.0 left turn
received_goes config head t octets left still turn o up =
    elim (shape_received head t octets o.0.0 o.0.1 left turn o.0.3) [ inl f ↦ absurd (up (falling_down head left turn f)) | inr g ↦ g ]

-- ---- one way

up_there : (turn : Turn) (after : Head) → turn.head ≡ after → (fsm_of after ≡ fsms.Idle → ⊥) → fsm_of turn.head ≡ fsms.Idle → ⊥
up_there turn after e up idle = up (sym (ap fsm_of e) ∙ idle)

hidden_way : (config : Config) (origin before after : Head) (r : ShownRecord) (left : List Want) (still : Option (Fsm × Fsm)) (turn : Turn)
    → undelayed before ≡ origin → OpensHidden config before r left still turn → turn.head ≡ after → (fsm_of after ≡ fsms.Idle → ⊥) → is_delayed after ≡ false
    → (after ≡ going config origin (second_of r) (told r)) × (left ≡ going_wants origin (told r))
hidden_way config origin before after r left still turn same o ends up off =
    let g = hidden_goes config before r left still turn o (up_there turn after ends up) in (
      sym (undelayed_is after off) ∙ sym (ap undelayed ends) ∙ g.head_after ∙ going_undelayed config before (second_of r) (told r)
          ∙ ap (λ (v : Head). going config v (second_of r) (told r)) same,
      g.wants ∙ sends_undelayed before (told r) ∙ ap (λ (v : Head). going_wants v (told r)) same,
    )

received_way : (config : Config) (origin before after : Head) (t : ℕ) (octets : List ℕ) (left : List Want) (still : Option (Fsm × Fsm)) (turn : Turn)
    → undelayed before ≡ origin → (o : Opens config before (Received t octets) left still turn) → turn.head ≡ after → (fsm_of after ≡ fsms.Idle → ⊥) → is_delayed after ≡ false
    → (after ≡ undelayed (going_on origin t o.0.0)) × (left ≡ going_on_wants origin o.0.0)
received_way config origin before after t octets left still turn same o ends up off =
    let g = received_goes config before t octets left still turn o (up_there turn after ends up) in (
      sym (undelayed_is after off) ∙ ap undelayed (sym ends ∙ g.head_after) ∙ on_undelayed before t o.0.0
          ∙ ap (λ (v : Head). undelayed (going_on v t o.0.0)) same,
      g.wants ∙ on_sends_undelayed before o.0.0 ∙ ap (λ (v : Head). going_on_wants v o.0.0) same,
    )

pub one_way : (config : Config) (origin : Head) (r : ShownRecord) (a b : Head) (ws vs : List Want) → LeadsOn config origin r a ws → LeadsOn config origin r b vs
    → (a ≡ b) × (ws ≡ vs)
one_way config origin (Received t octets) a b ws vs x y =
    let p = received_way config origin x.before a t octets ws x.still x.turn x.same x.opens x.ends x.is_up x.at_once in
    let q = received_way config origin y.before b t octets vs y.still y.turn y.same y.opens y.ends y.is_up y.at_once in
    let m : x.opens.0.0 ≡ y.opens.0.0 = one_heard config octets x.opens.0.0 y.opens.0.0 x.opens.0.2 y.opens.0.2 in (
      p.0 ∙ ap (λ (v : Heard). undelayed (going_on origin t v)) m ∙ sym q.0,
      p.1 ∙ ap (λ (v : Heard). going_on_wants origin v) m ∙ sym q.1,
    )
one_way config origin (Sent t octets) a b ws vs x y =
    let p = hidden_way config origin x.before a (Sent t octets) ws x.still x.turn x.same x.opens x.ends x.is_up x.at_once in
    let q = hidden_way config origin y.before b (Sent t octets) vs y.still y.turn y.same y.opens y.ends y.is_up y.at_once in
    (p.0 ∙ sym q.0, p.1 ∙ sym q.1)
one_way config origin (Changed t old new) a b ws vs x y =
    let p = hidden_way config origin x.before a (Changed t old new) ws x.still x.turn x.same x.opens x.ends x.is_up x.at_once in
    let q = hidden_way config origin y.before b (Changed t old new) vs y.still y.turn y.same y.opens y.ends y.is_up y.at_once in
    (p.0 ∙ sym q.0, p.1 ∙ sym q.1)

-- ---- the routes of what goes on

on_with : (head : Head) (octets : List ℕ) (m : Heard) (turn : RoutesTurn) → GoOnWith head octets m turn → turn ≡ Cleared → ⊥
on_with Idle octets m turn g e = let k : Kept ≡ Cleared = sym g ∙ e in cc
on_with (Connect d) octets m turn g e = let k : Kept ≡ Cleared = sym g ∙ e in cc
on_with (Active d) octets m turn g e = let k : Kept ≡ Cleared = sym g ∙ e in cc
on_with (OpenSent timer) octets m turn g e = let k : Kept ≡ Cleared = sym g ∙ e in cc
on_with (OpenConfirm own timer) octets m turn g e = let k : Kept ≡ Cleared = sym g ∙ e in cc
on_with (Established own timer) octets heard.TooShort turn g e = let k : Kept ≡ Cleared = sym g ∙ e in cc
on_with (Established own timer) octets (heard.ValidOpen link f) turn g e = let k : Kept ≡ Cleared = sym g ∙ e in cc
on_with (Established own timer) octets (heard.FaultyHeader f) turn g e = let k : Kept ≡ Cleared = sym g ∙ e in cc
on_with (Established own timer) octets (heard.InvalidOpen f) turn g e = let k : Kept ≡ Cleared = sym g ∙ e in cc
on_with (Established own timer) octets heard.BadVersion turn g e = let k : Kept ≡ Cleared = sym g ∙ e in cc
on_with (Established own timer) octets heard.Notification turn g e = let k : Kept ≡ Cleared = sym g ∙ e in cc
on_with (Established own timer) octets heard.Keepalive turn g e = let k : Kept ≡ Cleared = sym g ∙ e in cc
on_with (Established own timer) octets heard.Update turn g e = let k : Given g.0 g.1 ≡ Cleared = sym g.3 ∙ e in cc

hidden_kept : (turn : RoutesTurn) → turn ≡ Kept → turn ≡ Cleared → ⊥
hidden_kept turn g e = let k : Kept ≡ Cleared = sym g ∙ e in cc

pub not_cleared : (config : Config) (head : Head) (r : ShownRecord) (left : List Want) (still : Option (Fsm × Fsm)) (turn : Turn)
    → Opens config head r left still turn → (fsm_of turn.head ≡ fsms.Idle → ⊥) → turn.routes ≡ Cleared → ⊥
not_cleared config head (Received t octets) left still turn o up e =
    on_with head octets o.0.0 turn.routes (received_goes config head t octets left still turn o up).routes e
not_cleared config head (Sent t octets) left still turn o up e = hidden_kept turn.routes (hidden_goes config head (Sent t octets) left still turn o up).routes e
not_cleared config head (Changed t x y) left still turn o up e = hidden_kept turn.routes (hidden_goes config head (Changed t x y) left still turn o up).routes e

-- changes are made in Established alone, and then by each step that goes on
gives_in : (head : Head) (octets : List ℕ) (m : Heard) (turn : RoutesTurn) (c : RouteChanges) (f : Families) → GoOnWith head octets m turn → turn ≡ Given c f
    → (fsm_of head ≡ fsms.Established) × ((other : RoutesTurn) → GoOnWith head octets m other → other ≡ Kept → ⊥)
gives_in Idle octets m turn c f g e = absurd (let k : Kept ≡ Given c f = sym g ∙ e in let z : ⊥ = cc in z)
gives_in (Connect d) octets m turn c f g e = absurd (let k : Kept ≡ Given c f = sym g ∙ e in let z : ⊥ = cc in z)
gives_in (Active d) octets m turn c f g e = absurd (let k : Kept ≡ Given c f = sym g ∙ e in let z : ⊥ = cc in z)
gives_in (OpenSent timer) octets m turn c f g e = absurd (let k : Kept ≡ Given c f = sym g ∙ e in let z : ⊥ = cc in z)
gives_in (OpenConfirm own timer) octets m turn c f g e = absurd (let k : Kept ≡ Given c f = sym g ∙ e in let z : ⊥ = cc in z)
gives_in (Established own timer) octets heard.TooShort turn c f g e = absurd (let k : Kept ≡ Given c f = sym g ∙ e in let z : ⊥ = cc in z)
gives_in (Established own timer) octets (heard.ValidOpen link x) turn c f g e = absurd (let k : Kept ≡ Given c f = sym g ∙ e in let z : ⊥ = cc in z)
gives_in (Established own timer) octets (heard.FaultyHeader x) turn c f g e = absurd (let k : Kept ≡ Given c f = sym g ∙ e in let z : ⊥ = cc in z)
gives_in (Established own timer) octets (heard.InvalidOpen x) turn c f g e = absurd (let k : Kept ≡ Given c f = sym g ∙ e in let z : ⊥ = cc in z)
gives_in (Established own timer) octets heard.BadVersion turn c f g e = absurd (let k : Kept ≡ Given c f = sym g ∙ e in let z : ⊥ = cc in z)
gives_in (Established own timer) octets heard.Notification turn c f g e = absurd (let k : Kept ≡ Given c f = sym g ∙ e in let z : ⊥ = cc in z)
gives_in (Established own timer) octets heard.Keepalive turn c f g e = absurd (let k : Kept ≡ Given c f = sym g ∙ e in let z : ⊥ = cc in z)
gives_in (Established own timer) octets heard.Update turn c f g e = (refl, λ other h is. let k : Given h.0 h.1 ≡ Kept = sym h.3 ∙ is in cc)

pub falling_gives : (head : Head) (left : List Want) (turn : Turn) (c : RouteChanges) (f : Families) → Falling head left turn → turn.routes ≡ Given c f → ⊥
falling_gives head left turn c f x e = elim x.ends [
  | inl k ↦ (let q : Cleared ≡ Given c f = sym (ap (λ (v : Turn). v.routes) k) ∙ e in let z : ⊥ = cc in z)
  | inr k ↦ (let q : Kept ≡ Given c f = sym (ap (λ (v : Turn). v.routes) k.1) ∙ e in let z : ⊥ = cc in z)
]

pub hidden_gives : (config : Config) (head : Head) (r : ShownRecord) (left : List Want) (still : Option (Fsm × Fsm)) (turn : Turn) (c : RouteChanges) (f : Families)
    → OpensHidden config head r left still turn → turn.routes ≡ Given c f → ⊥
hidden_gives config head r left still turn c f o e = elim (hidden_shape shape_hidden config head r left still turn o).way [
  | inl x ↦ falling_gives head left turn c f x e
  | inr g ↦ (let q : Kept ≡ Given c f = sym g.routes ∙ e in let z : ⊥ = cc in z)
]

pub given_then : (config : Config) (head : Head) (r : ShownRecord) (left1 left2 : List Want) (still1 still2 : Option (Fsm × Fsm)) (turn1 turn2 : Turn) (c : RouteChanges) (f : Families)
    → Opens config head r left1 still1 turn1 → turn1.routes ≡ Given c f
    → (fsm_of head ≡ fsms.Established) × (Opens config head r left2 still2 turn2 → (fsm_of turn2.head ≡ fsms.Idle → ⊥) → turn2.routes ≡ Kept → ⊥)
given_then config head (Received t octets) left1 left2 still1 still2 turn1 turn2 c f o e =
    elim (shape_received head t octets o.0.0 o.0.1 left1 turn1 o.0.3) [
      | inl x ↦ absurd (falling_gives head left1 turn1 c f x e)
      | inr g ↦ let k = gives_in head octets o.0.0 turn1.routes c f g.routes e in (
        k.0,
        λ p up is.
            let h = received_goes config head t octets left2 still2 turn2 p up in
            k.1 turn2.routes (subst (λ (v : Heard). GoOnWith head octets v turn2.routes) (one_heard config octets p.0.0 o.0.0 p.0.2 o.0.2) h.routes) is,
      )
    ]
given_then config head (Sent t octets) left1 left2 still1 still2 turn1 turn2 c f o e = absurd (hidden_gives config head (Sent t octets) left1 still1 turn1 c f o e)
given_then config head (Changed t x y) left1 left2 still1 still2 turn1 turn2 c f o e = absurd (hidden_gives config head (Changed t x y) left1 still1 turn1 c f o e)

-- ---- on which link it sends: it has something to send only before there is one

link_by : (head : Head) (left : List Want) → (HasLink head → left ≡ []) → link_for left (link_at head) ≡ None
link_by Idle left f = link_none left
link_by (Connect d) left f = link_none left
link_by (Active d) left f = link_none left
link_by (OpenSent timer) left f = link_none left
link_by (OpenConfirm own timer) left f = ap (λ (v : List Want). link_for v (Some own)) (f tt)
link_by (Established own timer) left f = ap (λ (v : List Want). link_for v (Some own)) (f tt)

silent_linked : (head : Head) (c : Option Fsm) → HasLink head → going_wants head c ≡ []
silent_linked Idle c has = absurd has
silent_linked (Connect d) c has = absurd has
silent_linked (Active d) c has = absurd has
silent_linked (OpenSent timer) c has = absurd has
silent_linked (OpenConfirm own timer) c has = refl
silent_linked (Established own timer) c has = refl

on_silent_linked : (head : Head) (m : Heard) → HasLink head → going_on_wants head m ≡ []
on_silent_linked Idle m has = absurd has
on_silent_linked (Connect d) m has = absurd has
on_silent_linked (Active d) m has = absurd has
on_silent_linked (OpenSent timer) m has = absurd has
on_silent_linked (OpenConfirm own timer) m has = refl
on_silent_linked (Established own timer) m has = refl

pub goes_without_link : (config : Config) (head : Head) (r : ShownRecord) (left : List Want) (still : Option (Fsm × Fsm)) (turn : Turn)
    → Opens config head r left still turn → (fsm_of turn.head ≡ fsms.Idle → ⊥) → link_for left (link_at head) ≡ None
goes_without_link config head (Received t octets) left still turn o up =
    let g = received_goes config head t octets left still turn o up in link_by head left (λ has. g.wants ∙ on_silent_linked head o.0.0 has)
goes_without_link config head (Sent t octets) left still turn o up =
    let g = hidden_goes config head (Sent t octets) left still turn o up in link_by head left (λ has. g.wants ∙ silent_linked head (told (Sent t octets)) has)
goes_without_link config head (Changed t x y) left still turn o up =
    let g = hidden_goes config head (Changed t x y) left still turn o up in link_by head left (λ has. g.wants ∙ silent_linked head (told (Changed t x y)) has)

-- the link stays, once there is one
pub link_stays : (config : Config) (head : Head) (r : ShownRecord) (left : List Want) (still : Option (Fsm × Fsm)) (turn : Turn) (link : Link)
    → Opens config head r left still turn → (fsm_of turn.head ≡ fsms.Idle → ⊥) → link_at head ≡ Some link → link_at turn.head ≡ Some link
link_stays config head r left still turn link o up e = opened_link shape_received config head r left still turn (has_link head link e) o up ∙ e

-- ---- in Idle

idle_received : (t : ℕ) (octets : List ℕ) (message : Heard) (row : ReceivedRow) (ws : List Want) (turn : Turn) → ReceivedIn Idle t octets message row ws turn
    → (ws ≡ []) × (turn ≡ enters Idle)
idle_received t octets message Ignores ws turn h = h
idle_received t octets message row ws turn h = absurd h

idle_hidden : (config : Config) (t : ℕ) (row : HiddenRow) (ws : List Want) (turn : Turn) → HiddenIn Idle config t row ws turn → ws ≡ []
idle_hidden config t Starts ws turn h = h.0
idle_hidden config t Listens ws turn h = h.0
idle_hidden config t Notes ws turn h = h.0
idle_hidden config t row ws turn h = absurd h

none_left : (config : Config) (link : Option Link) (r : ShownRecord) (c : Option (Fsm × Fsm)) (left : List Want) (still : Option (Fsm × Fsm)) → Pays config link r [] c left still
    → left ≡ []
none_left config link (Received t octets) c left still p = absurd p
none_left config link (Sent t octets) c left still p = absurd p
none_left config link (Changed t x y) None left still p = absurd p
none_left config link (Changed t x y) (Some k) left still p = p.2

idle_left : (config : Config) (r : ShownRecord) (left : List Want) (still : Option (Fsm × Fsm)) (turn : Turn) → OpensHidden config Idle r left still turn → left ≡ []
idle_left config r left still turn o =
    none_left config None r o.2 left still
    (subst (λ (v : List Want). Pays config None r v o.2 left still) (idle_hidden config (second_of r) o.0 o.1 turn o.3.0) o.4)

pub idle_sends : (config : Config) (r : ShownRecord) (left : List Want) (still : Option (Fsm × Fsm)) (turn : Turn) → Opens config Idle r left still turn → left ≡ []
idle_sends config (Received t octets) left still turn o = (idle_received t octets o.0.0 o.0.1 left turn o.0.3).0
idle_sends config (Sent t octets) left still turn o = idle_left config (Sent t octets) left still turn o
idle_sends config (Changed t x y) left still turn o = idle_left config (Changed t x y) left still turn o

-- ---- which state is shown behind the record

change_paid : (config : Config) (link : Option Link) (t x y : ℕ) (ws : List Want) (c : Option (Fsm × Fsm)) (left : List Want) (still : Option (Fsm × Fsm))
    → Pays config link (Changed t x y) ws c left still → still ≡ None
change_paid config link t x y ws None left still p = absurd p
change_paid config link t x y ws (Some k) left still p = p.3

change_owed : (config : Config) (head : Head) (t x y : ℕ) (left : List Want) (still : Option (Fsm × Fsm)) (turn : Turn) → Opens config head (Changed t x y) left still turn
    → changed (shown_after (fsm_of head) (told (Changed t x y))) (fsm_of turn.head) ≡ None
change_owed config head t x y left still turn o =
    sym (owed_so shape_hidden config head (Changed t x y) left still turn o) ∙ change_paid config (link_at head) t x y o.1 o.2 left still o.4

pub shown_where_falls : (config : Config) (head : Head) (r : ShownRecord) (left : List Want) (still : Option (Fsm × Fsm)) (turn : Turn) → Opens config head r left still turn
    → fsm_of turn.head ≡ fsms.Idle → (shown_after (fsm_of head) (told r) ≡ fsm_of head) ⊎ (shown_after (fsm_of head) (told r) ≡ fsms.Idle)
shown_where_falls config head (Received t octets) left still turn o e = inl refl
shown_where_falls config head (Sent t octets) left still turn o e = inl refl
shown_where_falls config head (Changed t x y) left still turn o e =
    inr (not_to_idle (shown_after (fsm_of head) (told (Changed t x y)))
    (subst (λ (v : Fsm). changed (shown_after (fsm_of head) (told (Changed t x y))) v ≡ None) e (change_owed config head t x y left still turn o)))

from_idle : (f : Fsm) → changed fsms.Idle f ≡ None → f ≡ fsms.Idle
from_idle fsms.Idle e = refl
from_idle fsms.Connect e = absurd (let k : ⊥ = cc in k)
from_idle fsms.Active e = absurd (let k : ⊥ = cc in k)
from_idle fsms.OpenSent e = absurd (let k : ⊥ = cc in k)
from_idle fsms.OpenConfirm e = absurd (let k : ⊥ = cc in k)
from_idle fsms.Established e = absurd (let k : ⊥ = cc in k)

idle_sent : (config : Config) (t : ℕ) (octets : List ℕ) (ws : List Want) (c : Option (Fsm × Fsm)) (left : List Want) (still : Option (Fsm × Fsm)) → ws ≡ []
    → Pays config None (Sent t octets) ws c left still → ⊥
idle_sent config t octets ws c left still e p = subst (λ (v : List Want). Pays config None (Sent t octets) v c left still) e p

pub shown_where_goes : (config : Config) (head : Head) (r : ShownRecord) (left : List Want) (still : Option (Fsm × Fsm)) (turn : Turn) → Opens config head r left still turn
    → (fsm_of turn.head ≡ fsms.Idle → ⊥) → shown_after (fsm_of head) (told r) ≡ fsms.Idle → ⊥
shown_where_goes config head (Received t octets) left still turn o up e =
    let p = subst (λ (v : Head). Opens config v (Received t octets) left still turn) (is_idle head e) o in
    up (ap (λ (v : Turn). fsm_of v.head) (idle_received t octets p.0.0 p.0.1 left turn p.0.3).1)
shown_where_goes config head (Sent t octets) left still turn o up e =
    let p = subst (λ (v : Head). Opens config v (Sent t octets) left still turn) (is_idle head e) o in
    idle_sent config t octets p.1 p.2 left still (idle_hidden config t p.0 p.1 turn p.3.0) p.4
shown_where_goes config head (Changed t x y) left still turn o up e =
    up (from_idle (fsm_of turn.head) (subst (λ (v : Fsm). changed v (fsm_of turn.head) ≡ None) e (change_owed config head t x y left still turn o)))

-- ---- where Established is shown

from_up : (f : Fsm) → changed fsms.Established f ≡ None → f ≡ fsms.Established
from_up fsms.Idle e = absurd (let k : ⊥ = cc in k)
from_up fsms.Connect e = absurd (let k : ⊥ = cc in k)
from_up fsms.Active e = absurd (let k : ⊥ = cc in k)
from_up fsms.OpenSent e = absurd (let k : ⊥ = cc in k)
from_up fsms.OpenConfirm e = absurd (let k : ⊥ = cc in k)
from_up fsms.Established e = refl

to_up : (f : Fsm) → changed f fsms.Established ≡ None → f ≡ fsms.Established
to_up fsms.Idle e = absurd (let k : ⊥ = cc in k)
to_up fsms.Connect e = absurd (let k : ⊥ = cc in k)
to_up fsms.Active e = absurd (let k : ⊥ = cc in k)
to_up fsms.OpenSent e = absurd (let k : ⊥ = cc in k)
to_up fsms.OpenConfirm e = absurd (let k : ⊥ = cc in k)
to_up fsms.Established e = refl

pub up_head : (head : Head) → fsm_of head ≡ fsms.Established → (own : Link) × (timer : HoldTimer) × (head ≡ Established own timer)
up_head Idle e = absurd (let k : ⊥ = cc in k)
up_head (Connect d) e = absurd (let k : ⊥ = cc in k)
up_head (Active d) e = absurd (let k : ⊥ = cc in k)
up_head (OpenSent timer) e = absurd (let k : ⊥ = cc in k)
up_head (OpenConfirm own timer) e = absurd (let k : ⊥ = cc in k)
up_head (Established own timer) e = (own, timer, refl)

pub on_up : (own : Link) (timer : HoldTimer) (t : ℕ) (m : Heard) → fsm_of (going_on (Established own timer) t m) ≡ fsms.Established
on_up own timer t heard.TooShort = refl
on_up own timer t (heard.ValidOpen link e) = refl
on_up own timer t (heard.FaultyHeader f) = refl
on_up own timer t (heard.InvalidOpen e) = refl
on_up own timer t heard.BadVersion = refl
on_up own timer t heard.Notification = refl
on_up own timer t heard.Keepalive = refl
on_up own timer t heard.Update = refl

pub up_link : (head : Head) → fsm_of head ≡ fsms.Established → HasLink head
up_link head e = let k = up_head head e in subst HasLink (sym k.2) tt

-- what is Established by itself stays so, or falls
hidden_up : (config : Config) (head : Head) (r : ShownRecord) (left : List Want) (still : Option (Fsm × Fsm)) (turn : Turn) → OpensHidden config head r left still turn
    → fsm_of head ≡ fsms.Established → (fsm_of turn.head ≡ fsms.Idle) ⊎ (fsm_of turn.head ≡ fsms.Established)
hidden_up config head r left still turn o e = elim (hidden_stays head config (second_of r) o.0 o.1 turn (up_link head e) o.3.0) [
  | inl a ↦ inl (ap (λ (v : Turn). fsm_of v.head) a)
  | inr a ↦ inr (ap (λ (v : Turn). fsm_of v.head) a ∙ e)
]

opens_up : (config : Config) (head : Head) (r : ShownRecord) (left : List Want) (still : Option (Fsm × Fsm)) (turn : Turn) → Opens config head r left still turn
    → (fsm_of turn.head ≡ fsms.Idle → ⊥) → shown_after (fsm_of head) (told r) ≡ fsms.Established → fsm_of turn.head ≡ fsms.Established
opens_up config head (Received t octets) left still turn o up e =
    let k = up_head head e in
    let g = received_goes config head t octets left still turn o up in
    ap fsm_of (g.head_after ∙ ap (λ (v : Head). going_on v t o.0.0) k.2) ∙ on_up k.0 k.1 t o.0.0
opens_up config head (Sent t octets) left still turn o up e = elim (hidden_up config head (Sent t octets) left still turn o e) [ inl a ↦ absurd (up a) | inr a ↦ a ]
opens_up config head (Changed t x y) left still turn o up e =
    from_up (fsm_of turn.head) (subst (λ (v : Fsm). changed v (fsm_of turn.head) ≡ None) e (change_owed config head t x y left still turn o))

pub leads_up : (config : Config) (origin : Head) (r : ShownRecord) (after : Head) (left : List Want) → LeadsOn config origin r after left
    → shown_after (fsm_of origin) (told r) ≡ fsms.Established → fsm_of after ≡ fsms.Established
leads_up config origin r after left x e =
    let same : fsm_of x.before ≡ fsm_of origin = sym (fsm_undelayed x.before) ∙ ap fsm_of x.same in
    sym (ap fsm_of x.ends)
    ∙ opens_up config x.before r left x.still x.turn x.opens (up_there x.turn after x.ends x.is_up) (ap (λ (v : Fsm). shown_after v (told r)) same ∙ e)

-- a change from Established leads to Idle, or is none
pub leaves_up : (config : Config) (head : Head) (t x y : ℕ) (left : List Want) (still : Option (Fsm × Fsm)) (turn : Turn) → Opens config head (Changed t x y) left still turn
    → fsm_of head ≡ fsms.Established
    → (shown_after (fsm_of head) (told (Changed t x y)) ≡ fsms.Idle) ⊎ (shown_after (fsm_of head) (told (Changed t x y)) ≡ fsms.Established)
leaves_up config head t x y left still turn o e =
    let shown : Fsm = shown_after (fsm_of head) (told (Changed t x y)) in
    let c = change_owed config head t x y left still turn o in
    elim (hidden_up config head (Changed t x y) left still turn o e) [
      | inl a ↦ inl (not_to_idle shown (subst (λ (v : Fsm). changed shown v ≡ None) a c))
      | inr a ↦ inr (to_up shown (subst (λ (v : Fsm). changed shown v ≡ None) a c))
    ]
