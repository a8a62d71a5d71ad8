-- What each row sends that keeps a session up, or lets it fall: no NOTIFICATION, or one if anything.
use Rattle.std.proofs.Common.{◌≡◌, ◌∙◌, ◌==◌, ◌⊎◌, ℕ, Bool, true, false, List, [], ◌∷◌, Option, None, Some, inl, inr, refl, sym, ap, subst}
use Rattle.std.specs.List.{AllByRecursion}
use Rattle.std.proofs.lemmas.Bool.{both_ways, eq-eqb}
use Rattle.bgp_wire.specs.Header.{header_of, type_of}
use Rattle.bgp_open.specs.declared.config.Config.{Config}
use Rattle.bgp_open.specs.declared.families.Families.{Families}
use Rattle.bgp_open.specs.declared.link.Link.{Link}
use Rattle.bgp_update.specs.Changes.{RouteChanges}
use Rattle.bgp_machine.specs.declared.fsm.Fsm.{Fsm}
use Rattle.bgp_machine.specs.declared.fsm.Fsm.TheVariants as fsms
use Rattle.bgp_machine.specs.declared.hearing.Heard.{Heard}
use Rattle.bgp_machine.specs.declared.hearing.Heard.TheVariants.{ValidOpen, FaultyHeader, InvalidOpen, BadVersion, Notification, Keepalive, Update}
use Rattle.bgp_machine.specs.declared.rows.HiddenRow.{HiddenRow}
use Rattle.bgp_machine.specs.declared.rows.HiddenRow.TheVariants.{ConnectionOpens, DelayBegins, DelayExpires, ConnectionFails, RetryExpires, Stops, Ceases, HoldExpires, SendHoldExpires, KeepaliveExpires, Announces, Notes}
use Rattle.bgp_machine.specs.declared.rows.ReceivedRow.{ReceivedRow}
use Rattle.bgp_machine.specs.declared.rows.ReceivedRow.TheVariants.{Accepts, Overlooks, Collides, Drops, NamesFault, ReportsError, Establishes, Renews, Applies}
use Rattle.bgp_machine.specs.declared.state.Head.{Head}
use Rattle.bgp_machine.specs.declared.state.Head.TheVariants.{Idle, Connect, Active, OpenSent, OpenConfirm, Established}
use Rattle.bgp_machine.specs.declared.state.HoldTimer.{HoldTimer}
use Rattle.bgp_machine.specs.declared.want.Want.{Want}
use Rattle.bgp_machine.specs.declared.want.Want.TheVariants.{OwnOpen, KeepAlive, CleanUpdate, Cease, HoldExpired, SendHoldExpired, MachineError, Faults}
use Rattle.bgp_machine.specs.Heard.{Hears}
use Rattle.bgp_machine.specs.State.{Given, Turn, enters, falls, fsm_of, renewed, waiting}
use Rattle.bgp_machine.specs.Step.{HiddenIn, ReceivedIn, failed}
use Rattle.bgp_machine.specs.Want.{Meets}
use Rattle.bgp_way_ends.proofs.Phases.{IsUp}

-- ---- messages

-- a NOTIFICATION, by its type
abbrev pub IsNotice : List ℕ → Type 0
IsNotice octets = type_of (header_of octets) ≡ 3

no_notice : (octets : List ℕ) (kind : ℕ) → (kind == 3) ≡ false → type_of (header_of octets) ≡ kind → IsNotice octets → ⊥
no_notice octets kind isnt is notice = both_ways (kind == 3) isnt (eq-eqb kind 3 (sym is ∙ notice))

-- what is sent while a session stays up, and what as it falls
abbrev pub IsUpWant : Want → Type 0
IsUpWant OwnOpen = Unit {0}
IsUpWant KeepAlive = Unit {0}
IsUpWant CleanUpdate = Unit {0}
IsUpWant want = ⊥

abbrev pub IsLastWant : Want → Type 0
IsLastWant Cease = Unit {0}
IsLastWant HoldExpired = Unit {0}
IsLastWant SendHoldExpired = Unit {0}
IsLastWant (MachineError state) = Unit {0}
IsLastWant (Faults faults) = Unit {0}
IsLastWant want = ⊥

abbrev pub AllUp : List Want → Type 0
AllUp wants = AllByRecursion IsUpWant wants

pub met_up : (config : Config) (link : Option Link) (want : Want) (octets : List ℕ) → IsUpWant want → Meets config link want octets → IsNotice octets → ⊥
met_up config link OwnOpen octets up meets = no_notice octets 1 refl meets.fulfils.form.readable.whole.message.type_field
met_up config link KeepAlive octets up meets = no_notice octets 4 refl meets.fulfils.type_field
met_up config None CleanUpdate octets up meets = absurd meets.fulfils
met_up config (Some link) CleanUpdate octets up meets = no_notice octets 2 refl meets.fulfils.2.message.type_field
met_up config link want octets up meets = absurd up

pub met_last : (config : Config) (link : Option Link) (want : Want) (octets : List ℕ) → IsLastWant want → Meets config link want octets → IsNotice octets
met_last config link Cease octets last meets = meets.fulfils.3.message.type_field
met_last config link HoldExpired octets last meets = meets.fulfils.3.message.type_field
met_last config link SendHoldExpired octets last meets = meets.fulfils.3.message.type_field
met_last config link (MachineError state) octets last meets = meets.fulfils.3.message.type_field
met_last config link (Faults faults) octets last meets = meets.fulfils.3.message.type_field
met_last config link want octets last meets = absurd last

pub none_up : (wants : List Want) → wants ≡ [] → AllUp wants
none_up wants e = subst AllUp (sym e) tt

one_up : (want : Want) (wants : List Want) → IsUpWant want → wants ≡ want ∷ [] → AllUp wants
one_up want wants up e = subst AllUp (sym e) (up, tt)

two_up : (wants : List Want) → wants ≡ OwnOpen ∷ KeepAlive ∷ [] → AllUp wants
two_up wants e = subst AllUp (sym e) (tt, (tt, tt))

-- ---- the own OPEN isn't sent yet

abbrev pub IsUnopened : Head → Type 0
IsUnopened (Connect delay) = Unit {0}
IsUnopened (Active delay) = Unit {0}
IsUnopened head = ⊥

-- one of a state's own rows that keeps the session up
pub record UpRow (head : Head) (wants : List Want) (turn : Turn) : Type 0 where
  pub all_up : AllUp wants
  pub silent : IsUnopened turn.head → wants ≡ []
  pub from : IsUnopened turn.head → IsUnopened head ⊎ ((fsm_of head ≡ fsms.OpenSent) × (fsm_of turn.head ≡ fsms.Active))
  pub opens : IsUnopened head → (IsUnopened turn.head → ⊥) → wants ≡ OwnOpen ∷ []

no_fall : {X : Type 0} (turn : Turn) → turn ≡ falls → IsUp turn.head → X
no_fall turn e up = absurd (up (ap (λ (u : Turn). fsm_of u.head) e))

at_head : (turn : Turn) (next : Head) → turn ≡ enters next → IsUnopened turn.head → IsUnopened next
at_head turn next e u = subst (λ (v : Turn). IsUnopened v.head) e u

to_head : (turn : Turn) (next : Head) → turn ≡ enters next → IsUnopened next → IsUnopened turn.head
to_head turn next e u = subst (λ (v : Turn). IsUnopened v.head) (sym e) u

-- nothing is sent
keeps_row : (head next : Head) (wants : List Want) (turn : Turn) → turn ≡ enters next → wants ≡ [] → (IsUnopened next → IsUnopened head)
    → (IsUnopened head → (IsUnopened next → ⊥) → ⊥) → UpRow head wants turn
keeps_row head next wants turn e none from stays = record {
  all_up = none_up wants none;
  silent = λ u. none;
  from = λ u. inl (from (at_head turn next e u));
  opens = λ u isnt. absurd (stays u (λ v. isnt (to_head turn next e v)));
}

-- the own OPEN is
opens_row : (head next : Head) (wants : List Want) (turn : Turn) → turn ≡ enters next → wants ≡ OwnOpen ∷ [] → IsUnopened head → (IsUnopened next → ⊥) → UpRow head wants turn
opens_row head next wants turn e own u isnt = record {
  all_up = one_up OwnOpen wants tt own;
  silent = λ v. absurd (isnt (at_head turn next e v));
  from = λ v. inl u;
  opens = λ v n. own;
}

-- another message is
sends_row : (head next : Head) (want : Want) (wants : List Want) (turn : Turn) → turn ≡ enters next → wants ≡ want ∷ [] → IsUpWant want → (IsUnopened head → ⊥)
    → (IsUnopened next → ⊥) → UpRow head wants turn
sends_row head next want wants turn e own up isnt not_next = record {
  all_up = one_up want wants up own;
  silent = λ v. absurd (not_next (at_head turn next e v));
  from = λ v. absurd (not_next (at_head turn next e v));
  opens = λ v n. absurd (isnt v);
}

-- another connection is awaited
retries_row : (timer : HoldTimer) (wants : List Want) (turn : Turn) → turn ≡ enters (Active false) → wants ≡ [] → UpRow (OpenSent timer) wants turn
retries_row timer wants turn e none = record {
  all_up = none_up wants none;
  silent = λ u. none;
  from = λ u. inr (refl, ap (λ (v : Turn). fsm_of v.head) e);
  opens = λ u n. absurd u;
}

failing_row : (delay : Bool) (wants : List Want) (turn : Turn) → wants ≡ [] → turn ≡ failed delay → IsUp turn.head → UpRow (Connect delay) wants turn
failing_row true wants turn none e up = keeps_row (Connect true) (Active false) wants turn e none (λ u. tt) (λ u n. n tt)
failing_row false wants turn none e up = no_fall turn e up

pub up_row : (config : Config) (head : Head) (t : ℕ) (row : HiddenRow) (wants : List Want) (turn : Turn) → IsUp head → IsUp turn.head
    → HiddenIn head config t row wants turn → UpRow head wants turn
up_row config Idle t row wants turn up0 up r = absurd (up0 refl)
up_row config (Connect delay) t Stops wants turn up0 up r = no_fall turn r.1 up
up_row config (Connect delay) t RetryExpires wants turn up0 up r = keeps_row (Connect delay) (Connect false) wants turn r.1 r.0 (λ u. tt) (λ u n. n tt)
up_row config (Connect delay) t DelayExpires wants turn up0 up r = opens_row (Connect delay) (waiting config t) wants turn r.2 r.1 tt (λ u. u)
up_row config (Connect delay) t ConnectionOpens wants turn up0 up r = opens_row (Connect delay) (waiting config t) wants turn r.1 r.0 tt (λ u. u)
up_row config (Connect delay) t DelayBegins wants turn up0 up r = keeps_row (Connect delay) (Connect true) wants turn r.2 r.1 (λ u. tt) (λ u n. n tt)
up_row config (Connect delay) t ConnectionFails wants turn up0 up r = failing_row delay wants turn r.0 r.1 up
up_row config (Connect delay) t Notes wants turn up0 up r = keeps_row (Connect delay) (Connect delay) wants turn r.1 r.0 (λ u. tt) (λ u n. n tt)
up_row config (Active delay) t Stops wants turn up0 up r = no_fall turn r.1 up
up_row config (Active delay) t Ceases wants turn up0 up r = no_fall turn r.2 up
up_row config (Active delay) t RetryExpires wants turn up0 up r = keeps_row (Active delay) (Connect false) wants turn r.1 r.0 (λ u. tt) (λ u n. n tt)
up_row config (Active delay) t DelayExpires wants turn up0 up r = opens_row (Active delay) (waiting config t) wants turn r.2 r.1 tt (λ u. u)
up_row config (Active delay) t ConnectionOpens wants turn up0 up r = opens_row (Active delay) (waiting config t) wants turn r.1 r.0 tt (λ u. u)
up_row config (Active delay) t DelayBegins wants turn up0 up r = keeps_row (Active delay) (Active true) wants turn r.2 r.1 (λ u. tt) (λ u n. n tt)
up_row config (Active delay) t ConnectionFails wants turn up0 up r = no_fall turn r.1 up
up_row config (Active delay) t Notes wants turn up0 up r = keeps_row (Active delay) (Active delay) wants turn r.1 r.0 (λ u. tt) (λ u n. n tt)
up_row config (OpenSent timer) t Ceases wants turn up0 up r = no_fall turn r.1 up
up_row config (OpenSent timer) t HoldExpires wants turn up0 up r = no_fall turn r.2 up
up_row config (OpenSent timer) t ConnectionFails wants turn up0 up r = retries_row timer wants turn r.1 r.0
up_row config (OpenSent timer) t Notes wants turn up0 up r = keeps_row (OpenSent timer) (OpenSent timer) wants turn r.1 r.0 (λ u. u) (λ u n. u)
up_row config (OpenConfirm link timer) t Ceases wants turn up0 up r = no_fall turn r.1 up
up_row config (OpenConfirm link timer) t HoldExpires wants turn up0 up r = no_fall turn r.2 up
up_row config (OpenConfirm link timer) t KeepaliveExpires wants turn up0 up r = sends_row (OpenConfirm link timer) (OpenConfirm link timer) _ wants turn r.2 r.1 tt (λ u. u) (λ u. u)
up_row config (OpenConfirm link timer) t ConnectionFails wants turn up0 up r = no_fall turn r.1 up
up_row config (OpenConfirm link timer) t Notes wants turn up0 up r = keeps_row (OpenConfirm link timer) (OpenConfirm link timer) wants turn r.1 r.0 (λ u. u) (λ u n. u)
up_row config (Established link timer) t Ceases wants turn up0 up r = no_fall turn r.1 up
up_row config (Established link timer) t HoldExpires wants turn up0 up r = no_fall turn r.2 up
up_row config (Established link timer) t SendHoldExpires wants turn up0 up r = no_fall turn r.2 up
up_row config (Established link timer) t KeepaliveExpires wants turn up0 up r = sends_row (Established link timer) (Established link timer) _ wants turn r.2 r.1 tt (λ u. u) (λ u. u)
up_row config (Established link timer) t ConnectionFails wants turn up0 up r = no_fall turn r.1 up
up_row config (Established link timer) t Announces wants turn up0 up r = sends_row (Established link timer) (Established link timer) _ wants turn r.1 r.0 tt (λ u. u) (λ u. u)
up_row config (Established link timer) t Notes wants turn up0 up r = keeps_row (Established link timer) (Established link timer) wants turn r.1 r.0 (λ u. u) (λ u n. u)
up_row config head t row wants turn up0 up r = absurd r

-- ---- a row that lets it fall

-- it sends nothing, or a NOTIFICATION
abbrev pub FallsWith : List Want → Type 0
FallsWith wants = (wants ≡ []) ⊎ ((want : Want) × (IsLastWant want × (wants ≡ want ∷ [])))

no_stay : {X : Type 0} (next : Head) (turn : Turn) → turn ≡ enters next → (fsm_of next ≡ fsms.Idle → ⊥) → fsm_of turn.head ≡ fsms.Idle → X
no_stay next turn e up idle = absurd (up (sym (ap (λ (u : Turn). fsm_of u.head) e) ∙ idle))

stays_up : {X : Type 0} {fsm : Fsm} (turn : Turn) → fsm_of turn.head ≡ fsms.Idle → fsm_of turn.head ≡ fsm → (fsm ≡ fsms.Idle → ⊥) → X
stays_up turn idle is up = absurd (up (sym is ∙ idle))

pub fall_row : (config : Config) (head : Head) (t : ℕ) (row : HiddenRow) (wants : List Want) (turn : Turn) → IsUp head → fsm_of turn.head ≡ fsms.Idle
    → HiddenIn head config t row wants turn → FallsWith wants
fall_row config Idle t row wants turn up0 idle r = absurd (up0 refl)
fall_row config (Connect delay) t Stops wants turn up0 idle r = inl r.0
fall_row config (Connect delay) t RetryExpires wants turn up0 idle r = no_stay (Connect false) turn r.1 (λ e. cc) idle
fall_row config (Connect delay) t DelayExpires wants turn up0 idle r = no_stay (waiting config t) turn r.2 (λ e. cc) idle
fall_row config (Connect delay) t ConnectionOpens wants turn up0 idle r = no_stay (waiting config t) turn r.1 (λ e. cc) idle
fall_row config (Connect delay) t DelayBegins wants turn up0 idle r = no_stay (Connect true) turn r.2 (λ e. cc) idle
fall_row config (Connect delay) t ConnectionFails wants turn up0 idle r = inl r.0
fall_row config (Connect delay) t Notes wants turn up0 idle r = no_stay (Connect delay) turn r.1 (λ e. cc) idle
fall_row config (Active delay) t Stops wants turn up0 idle r = inl r.0
fall_row config (Active delay) t Ceases wants turn up0 idle r = inr (_, (tt, r.1))
fall_row config (Active delay) t RetryExpires wants turn up0 idle r = no_stay (Connect false) turn r.1 (λ e. cc) idle
fall_row config (Active delay) t DelayExpires wants turn up0 idle r = no_stay (waiting config t) turn r.2 (λ e. cc) idle
fall_row config (Active delay) t ConnectionOpens wants turn up0 idle r = no_stay (waiting config t) turn r.1 (λ e. cc) idle
fall_row config (Active delay) t DelayBegins wants turn up0 idle r = no_stay (Active true) turn r.2 (λ e. cc) idle
fall_row config (Active delay) t ConnectionFails wants turn up0 idle r = inl r.0
fall_row config (Active delay) t Notes wants turn up0 idle r = no_stay (Active delay) turn r.1 (λ e. cc) idle
fall_row config (OpenSent timer) t Ceases wants turn up0 idle r = inr (_, (tt, r.0))
fall_row config (OpenSent timer) t HoldExpires wants turn up0 idle r = inr (_, (tt, r.1))
fall_row config (OpenSent timer) t ConnectionFails wants turn up0 idle r = no_stay (Active false) turn r.1 (λ e. cc) idle
fall_row config (OpenSent timer) t Notes wants turn up0 idle r = no_stay (OpenSent timer) turn r.1 (λ e. cc) idle
fall_row config (OpenConfirm link timer) t Ceases wants turn up0 idle r = inr (_, (tt, r.0))
fall_row config (OpenConfirm link timer) t HoldExpires wants turn up0 idle r = inr (_, (tt, r.1))
fall_row config (OpenConfirm link timer) t KeepaliveExpires wants turn up0 idle r = no_stay (OpenConfirm link timer) turn r.2 (λ e. cc) idle
fall_row config (OpenConfirm link timer) t ConnectionFails wants turn up0 idle r = inl r.0
fall_row config (OpenConfirm link timer) t Notes wants turn up0 idle r = no_stay (OpenConfirm link timer) turn r.1 (λ e. cc) idle
fall_row config (Established link timer) t Ceases wants turn up0 idle r = inr (_, (tt, r.0))
fall_row config (Established link timer) t HoldExpires wants turn up0 idle r = inr (_, (tt, r.1))
fall_row config (Established link timer) t SendHoldExpires wants turn up0 idle r = inr (_, (tt, r.1))
fall_row config (Established link timer) t KeepaliveExpires wants turn up0 idle r = no_stay (Established link timer) turn r.2 (λ e. cc) idle
fall_row config (Established link timer) t ConnectionFails wants turn up0 idle r = inl r.0
fall_row config (Established link timer) t Announces wants turn up0 idle r = no_stay (Established link timer) turn r.1 (λ e. cc) idle
fall_row config (Established link timer) t Notes wants turn up0 idle r = no_stay (Established link timer) turn r.1 (λ e. cc) idle
fall_row config head t row wants turn up0 idle r = absurd r

-- ---- a message

pub record UpHeard (head : Head) (octets : List ℕ) (wants : List Want) (turn : Turn) : Type 0 where
  pub all_up : AllUp wants
  pub opened : IsUnopened turn.head → ⊥
  pub opens : IsUnopened head → wants ≡ OwnOpen ∷ KeepAlive ∷ []
  pub no_notice : IsNotice octets → ⊥

heard_row : (head : Head) (octets : List ℕ) (wants : List Want) (turn : Turn) (next : Head) → turn ≡ enters next → (IsUnopened next → ⊥) → AllUp wants
    → (IsUnopened head → wants ≡ OwnOpen ∷ KeepAlive ∷ []) → (IsNotice octets → ⊥) → UpHeard head octets wants turn
heard_row head octets wants turn next e isnt all opens none = record {
  all_up = all;
  opened = λ u. isnt (at_head turn next e u);
  opens = opens;
  no_notice = none;
}

applied_row : (own : Link) (timer : HoldTimer) (t : ℕ) (octets : List ℕ) (wants : List Want) (turn : Turn) (changes : RouteChanges) (families : Families) → wants ≡ []
    → turn ≡ record { head = Established own (renewed timer t); routes = Given changes families } → (IsNotice octets → ⊥)
    → UpHeard (Established own timer) octets wants turn
applied_row own timer t octets wants turn changes families none e isnt = record {
  all_up = none_up wants none;
  opened = λ u. subst (λ (v : Turn). IsUnopened v.head) e u;
  opens = λ u. absurd u;
  no_notice = isnt;
}

pub up_heard : (config : Config) (head : Head) (t : ℕ) (octets : List ℕ) (x : Heard) (row : ReceivedRow) (wants : List Want) (turn : Turn) → IsUp head → IsUp turn.head
    → Hears config octets x → ReceivedIn head t octets x row wants turn → UpHeard head octets wants turn
up_heard config Idle t octets x row wants turn up0 up hears r = absurd (up0 refl)
up_heard config (Connect delay) t octets (ValidOpen link e) Accepts wants turn up0 up hears r = heard_row (Connect delay) octets wants turn _ r.2 (λ u. u) (two_up wants r.1) (λ u. r.1) (no_notice octets 1 refl hears.0.type_field)
up_heard config (Connect delay) t octets (ValidOpen link e) Drops wants turn up0 up hears r = no_fall turn r.1 up
up_heard config (Connect delay) t octets (ValidOpen link e) NamesFault wants turn up0 up hears r = no_fall turn r.1 up
up_heard config (Connect delay) t octets (FaultyHeader f) Drops wants turn up0 up hears r = no_fall turn r.1 up
up_heard config (Connect delay) t octets (FaultyHeader f) NamesFault wants turn up0 up hears r = no_fall turn r.1 up
up_heard config (Connect delay) t octets (InvalidOpen e) Drops wants turn up0 up hears r = no_fall turn r.1 up
up_heard config (Connect delay) t octets (InvalidOpen e) NamesFault wants turn up0 up hears r = no_fall turn r.1 up
up_heard config (Connect delay) t octets BadVersion Drops wants turn up0 up hears r = no_fall turn r.1 up
up_heard config (Connect delay) t octets Notification Drops wants turn up0 up hears r = no_fall turn r.1 up
up_heard config (Connect delay) t octets Keepalive Drops wants turn up0 up hears r = no_fall turn r.1 up
up_heard config (Connect delay) t octets Update Drops wants turn up0 up hears r = no_fall turn r.1 up
up_heard config (Active delay) t octets (ValidOpen link e) Accepts wants turn up0 up hears r = heard_row (Active delay) octets wants turn _ r.2 (λ u. u) (two_up wants r.1) (λ u. r.1) (no_notice octets 1 refl hears.0.type_field)
up_heard config (Active delay) t octets (ValidOpen link e) Drops wants turn up0 up hears r = no_fall turn r.1 up
up_heard config (Active delay) t octets (ValidOpen link e) NamesFault wants turn up0 up hears r = no_fall turn r.1 up
up_heard config (Active delay) t octets (FaultyHeader f) Drops wants turn up0 up hears r = no_fall turn r.1 up
up_heard config (Active delay) t octets (FaultyHeader f) NamesFault wants turn up0 up hears r = no_fall turn r.1 up
up_heard config (Active delay) t octets (InvalidOpen e) Drops wants turn up0 up hears r = no_fall turn r.1 up
up_heard config (Active delay) t octets (InvalidOpen e) NamesFault wants turn up0 up hears r = no_fall turn r.1 up
up_heard config (Active delay) t octets BadVersion Drops wants turn up0 up hears r = no_fall turn r.1 up
up_heard config (Active delay) t octets Notification Drops wants turn up0 up hears r = no_fall turn r.1 up
up_heard config (Active delay) t octets Keepalive Drops wants turn up0 up hears r = no_fall turn r.1 up
up_heard config (Active delay) t octets Update Drops wants turn up0 up hears r = no_fall turn r.1 up
up_heard config (OpenSent own) t octets (ValidOpen link e) Accepts wants turn up0 up hears r = heard_row (OpenSent own) octets wants turn _ r.1 (λ u. u) (one_up KeepAlive wants tt r.0) (λ u. absurd u) (no_notice octets 1 refl hears.0.type_field)
up_heard config (OpenSent own) t octets (ValidOpen link e) Collides wants turn up0 up hears r = no_fall turn r.1 up
up_heard config (OpenSent own) t octets (ValidOpen link e) NamesFault wants turn up0 up hears r = no_fall turn r.1 up
up_heard config (OpenSent own) t octets (FaultyHeader f) NamesFault wants turn up0 up hears r = no_fall turn r.1 up
up_heard config (OpenSent own) t octets (InvalidOpen e) NamesFault wants turn up0 up hears r = no_fall turn r.1 up
up_heard config (OpenSent own) t octets BadVersion Drops wants turn up0 up hears r = no_fall turn r.1 up
up_heard config (OpenSent own) t octets Notification Drops wants turn up0 up hears r = no_fall turn r.1 up
up_heard config (OpenSent own) t octets Notification ReportsError wants turn up0 up hears r = no_fall turn r.1 up
up_heard config (OpenSent own) t octets Keepalive ReportsError wants turn up0 up hears r = no_fall turn r.1 up
up_heard config (OpenSent own) t octets Update ReportsError wants turn up0 up hears r = no_fall turn r.1 up
up_heard config (OpenConfirm own timer) t octets (ValidOpen link e) Overlooks wants turn up0 up hears r = heard_row (OpenConfirm own timer) octets wants turn _ r.1 (λ u. u) (none_up wants r.0) (λ u. absurd u) (no_notice octets 1 refl hears.0.type_field)
up_heard config (OpenConfirm own timer) t octets (ValidOpen link e) Collides wants turn up0 up hears r = no_fall turn r.1 up
up_heard config (OpenConfirm own timer) t octets (ValidOpen link e) NamesFault wants turn up0 up hears r = no_fall turn r.1 up
up_heard config (OpenConfirm own timer) t octets (ValidOpen link e) ReportsError wants turn up0 up hears r = no_fall turn r.1 up
up_heard config (OpenConfirm own timer) t octets (FaultyHeader f) NamesFault wants turn up0 up hears r = no_fall turn r.1 up
up_heard config (OpenConfirm own timer) t octets (InvalidOpen e) NamesFault wants turn up0 up hears r = no_fall turn r.1 up
up_heard config (OpenConfirm own timer) t octets BadVersion Drops wants turn up0 up hears r = no_fall turn r.1 up
up_heard config (OpenConfirm own timer) t octets Notification Drops wants turn up0 up hears r = no_fall turn r.1 up
up_heard config (OpenConfirm own timer) t octets Keepalive Establishes wants turn up0 up hears r = heard_row (OpenConfirm own timer) octets wants turn _ r.1 (λ u. u) (none_up wants r.0) (λ u. absurd u) (no_notice octets 4 refl hears.type_field)
up_heard config (OpenConfirm own timer) t octets Update ReportsError wants turn up0 up hears r = no_fall turn r.1 up
up_heard config (Established own timer) t octets (ValidOpen link e) Overlooks wants turn up0 up hears r = heard_row (Established own timer) octets wants turn _ r.1 (λ u. u) (none_up wants r.0) (λ u. absurd u) (no_notice octets 1 refl hears.0.type_field)
up_heard config (Established own timer) t octets (ValidOpen link e) Collides wants turn up0 up hears r = no_fall turn r.1 up
up_heard config (Established own timer) t octets (ValidOpen link e) NamesFault wants turn up0 up hears r = no_fall turn r.1 up
up_heard config (Established own timer) t octets (ValidOpen link e) ReportsError wants turn up0 up hears r = no_fall turn r.1 up
up_heard config (Established own timer) t octets (FaultyHeader f) NamesFault wants turn up0 up hears r = no_fall turn r.1 up
up_heard config (Established own timer) t octets (FaultyHeader f) ReportsError wants turn up0 up hears r = no_fall turn r.1 up
up_heard config (Established own timer) t octets (InvalidOpen e) NamesFault wants turn up0 up hears r = no_fall turn r.1 up
up_heard config (Established own timer) t octets (InvalidOpen e) ReportsError wants turn up0 up hears r = no_fall turn r.1 up
up_heard config (Established own timer) t octets BadVersion Drops wants turn up0 up hears r = no_fall turn r.1 up
up_heard config (Established own timer) t octets Notification Drops wants turn up0 up hears r = no_fall turn r.1 up
up_heard config (Established own timer) t octets Keepalive Renews wants turn up0 up hears r = heard_row (Established own timer) octets wants turn _ r.1 (λ u. u) (none_up wants r.0) (λ u. absurd u) (no_notice octets 4 refl hears.type_field)
up_heard config (Established own timer) t octets Update NamesFault wants turn up0 up hears r = no_fall turn r.3 up
up_heard config (Established own timer) t octets Update (Applies families) wants turn up0 up hears r = applied_row own timer t octets wants turn r.0 families r.2 r.3 (no_notice octets 2 refl hears.type_field)
up_heard config head t octets x row wants turn up0 up hears r = absurd r

-- nothing is sent about it before the own OPEN, or about a NOTIFICATION; or a NOTIFICATION is sent
abbrev pub HeardFalls : Head → List ℕ → List Want → Type 0
HeardFalls head octets wants = ((wants ≡ []) × (IsUnopened head ⊎ IsNotice octets)) ⊎ ((want : Want) × (IsLastWant want × (wants ≡ want ∷ [])))

pub fall_heard : (config : Config) (head : Head) (t : ℕ) (octets : List ℕ) (x : Heard) (row : ReceivedRow) (wants : List Want) (turn : Turn) → IsUp head
    → fsm_of turn.head ≡ fsms.Idle → Hears config octets x → ReceivedIn head t octets x row wants turn → HeardFalls head octets wants
fall_heard config Idle t octets x row wants turn up0 idle hears r = absurd (up0 refl)
fall_heard config (Connect delay) t octets (ValidOpen link e) Accepts wants turn up0 idle hears r = stays_up turn idle (ap (λ (u : Turn). fsm_of u.head) r.2) (λ e. cc)
fall_heard config (Connect delay) t octets (ValidOpen link e) Drops wants turn up0 idle hears r = inl (r.0, inl tt)
fall_heard config (Connect delay) t octets (ValidOpen link e) NamesFault wants turn up0 idle hears r = inr (_, (tt, r.0))
fall_heard config (Connect delay) t octets (FaultyHeader f) Drops wants turn up0 idle hears r = inl (r.0, inl tt)
fall_heard config (Connect delay) t octets (FaultyHeader f) NamesFault wants turn up0 idle hears r = inr (_, (tt, r.0))
fall_heard config (Connect delay) t octets (InvalidOpen e) Drops wants turn up0 idle hears r = inl (r.0, inl tt)
fall_heard config (Connect delay) t octets (InvalidOpen e) NamesFault wants turn up0 idle hears r = inr (_, (tt, r.0))
fall_heard config (Connect delay) t octets BadVersion Drops wants turn up0 idle hears r = inl (r.0, inl tt)
fall_heard config (Connect delay) t octets Notification Drops wants turn up0 idle hears r = inl (r.0, inl tt)
fall_heard config (Connect delay) t octets Keepalive Drops wants turn up0 idle hears r = inl (r.0, inl tt)
fall_heard config (Connect delay) t octets Update Drops wants turn up0 idle hears r = inl (r.0, inl tt)
fall_heard config (Active delay) t octets (ValidOpen link e) Accepts wants turn up0 idle hears r = stays_up turn idle (ap (λ (u : Turn). fsm_of u.head) r.2) (λ e. cc)
fall_heard config (Active delay) t octets (ValidOpen link e) Drops wants turn up0 idle hears r = inl (r.0, inl tt)
fall_heard config (Active delay) t octets (ValidOpen link e) NamesFault wants turn up0 idle hears r = inr (_, (tt, r.0))
fall_heard config (Active delay) t octets (FaultyHeader f) Drops wants turn up0 idle hears r = inl (r.0, inl tt)
fall_heard config (Active delay) t octets (FaultyHeader f) NamesFault wants turn up0 idle hears r = inr (_, (tt, r.0))
fall_heard config (Active delay) t octets (InvalidOpen e) Drops wants turn up0 idle hears r = inl (r.0, inl tt)
fall_heard config (Active delay) t octets (InvalidOpen e) NamesFault wants turn up0 idle hears r = inr (_, (tt, r.0))
fall_heard config (Active delay) t octets BadVersion Drops wants turn up0 idle hears r = inl (r.0, inl tt)
fall_heard config (Active delay) t octets Notification Drops wants turn up0 idle hears r = inl (r.0, inl tt)
fall_heard config (Active delay) t octets Keepalive Drops wants turn up0 idle hears r = inl (r.0, inl tt)
fall_heard config (Active delay) t octets Update Drops wants turn up0 idle hears r = inl (r.0, inl tt)
fall_heard config (OpenSent own) t octets (ValidOpen link e) Accepts wants turn up0 idle hears r = stays_up turn idle (ap (λ (u : Turn). fsm_of u.head) r.1) (λ e. cc)
fall_heard config (OpenSent own) t octets (ValidOpen link e) Collides wants turn up0 idle hears r = inr (_, (tt, r.0))
fall_heard config (OpenSent own) t octets (ValidOpen link e) NamesFault wants turn up0 idle hears r = inr (_, (tt, r.0))
fall_heard config (OpenSent own) t octets (FaultyHeader f) NamesFault wants turn up0 idle hears r = inr (_, (tt, r.0))
fall_heard config (OpenSent own) t octets (InvalidOpen e) NamesFault wants turn up0 idle hears r = inr (_, (tt, r.0))
fall_heard config (OpenSent own) t octets BadVersion Drops wants turn up0 idle hears r = inl (r.0, inr hears.0.type_field)
fall_heard config (OpenSent own) t octets Notification Drops wants turn up0 idle hears r = inl (r.0, inr hears.0.type_field)
fall_heard config (OpenSent own) t octets Notification ReportsError wants turn up0 idle hears r = inr (_, (tt, r.0))
fall_heard config (OpenSent own) t octets Keepalive ReportsError wants turn up0 idle hears r = inr (_, (tt, r.0))
fall_heard config (OpenSent own) t octets Update ReportsError wants turn up0 idle hears r = inr (_, (tt, r.0))
fall_heard config (OpenConfirm own timer) t octets (ValidOpen link e) Overlooks wants turn up0 idle hears r = stays_up turn idle (ap (λ (u : Turn). fsm_of u.head) r.1) (λ e. cc)
fall_heard config (OpenConfirm own timer) t octets (ValidOpen link e) Collides wants turn up0 idle hears r = inr (_, (tt, r.0))
fall_heard config (OpenConfirm own timer) t octets (ValidOpen link e) NamesFault wants turn up0 idle hears r = inr (_, (tt, r.0))
fall_heard config (OpenConfirm own timer) t octets (ValidOpen link e) ReportsError wants turn up0 idle hears r = inr (_, (tt, r.0))
fall_heard config (OpenConfirm own timer) t octets (FaultyHeader f) NamesFault wants turn up0 idle hears r = inr (_, (tt, r.0))
fall_heard config (OpenConfirm own timer) t octets (InvalidOpen e) NamesFault wants turn up0 idle hears r = inr (_, (tt, r.0))
fall_heard config (OpenConfirm own timer) t octets BadVersion Drops wants turn up0 idle hears r = inl (r.0, inr hears.0.type_field)
fall_heard config (OpenConfirm own timer) t octets Notification Drops wants turn up0 idle hears r = inl (r.0, inr hears.0.type_field)
fall_heard config (OpenConfirm own timer) t octets Keepalive Establishes wants turn up0 idle hears r = stays_up turn idle (ap (λ (u : Turn). fsm_of u.head) r.1) (λ e. cc)
fall_heard config (OpenConfirm own timer) t octets Update ReportsError wants turn up0 idle hears r = inr (_, (tt, r.0))
fall_heard config (Established own timer) t octets (ValidOpen link e) Overlooks wants turn up0 idle hears r = stays_up turn idle (ap (λ (u : Turn). fsm_of u.head) r.1) (λ e. cc)
fall_heard config (Established own timer) t octets (ValidOpen link e) Collides wants turn up0 idle hears r = inr (_, (tt, r.0))
fall_heard config (Established own timer) t octets (ValidOpen link e) NamesFault wants turn up0 idle hears r = inr (_, (tt, r.0))
fall_heard config (Established own timer) t octets (ValidOpen link e) ReportsError wants turn up0 idle hears r = inr (_, (tt, r.0))
fall_heard config (Established own timer) t octets (FaultyHeader f) NamesFault wants turn up0 idle hears r = inr (_, (tt, r.0))
fall_heard config (Established own timer) t octets (FaultyHeader f) ReportsError wants turn up0 idle hears r = inr (_, (tt, r.0))
fall_heard config (Established own timer) t octets (InvalidOpen e) NamesFault wants turn up0 idle hears r = inr (_, (tt, r.0))
fall_heard config (Established own timer) t octets (InvalidOpen e) ReportsError wants turn up0 idle hears r = inr (_, (tt, r.0))
fall_heard config (Established own timer) t octets BadVersion Drops wants turn up0 idle hears r = inl (r.0, inr hears.0.type_field)
fall_heard config (Established own timer) t octets Notification Drops wants turn up0 idle hears r = inl (r.0, inr hears.0.type_field)
fall_heard config (Established own timer) t octets Keepalive Renews wants turn up0 idle hears r = stays_up turn idle (ap (λ (u : Turn). fsm_of u.head) r.1) (λ e. cc)
fall_heard config (Established own timer) t octets Update NamesFault wants turn up0 idle hears r = inr (_, (tt, r.2))
fall_heard config (Established own timer) t octets Update (Applies families) wants turn up0 idle hears r = stays_up turn idle (ap (λ (u : Turn). fsm_of u.head) r.3) (λ e. cc)
fall_heard config head t octets x row wants turn up0 idle hears r = absurd r
