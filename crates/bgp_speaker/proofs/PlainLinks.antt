-- What a core settles that offers nothing about routes is plain.
use Rattle.std.proofs.Common.{◌≡◌, ◌∙◌, ℕ, Bool, true, false, List, [], ◌∷◌, inl, inr, Option, None, Some, refl, sym, ap, subst}
use Rattle.bgp_prefix.specs.Prefix.{PrefixBits}
use Rattle.bgp_prefix.specs.Shown.{ShownRecord}
use Rattle.bgp_open.specs.declared.config.Config.{Config}
use Rattle.bgp_open.specs.declared.link.Link.{Link}
use Rattle.bgp_open.specs.declared.route_offer.RouteOffer.{RouteOffer}
use Rattle.bgp_open.specs.Link.{link_of}
use Rattle.bgp_open.specs.Open.{OpenFields, open_of}
use Rattle.bgp_open.specs.RouteForm.{received_form, sent_form}
use Rattle.bgp_open.proofs.SettledForms.{none_shared, without_next_hops}
use Rattle.bgp_open.specs.RouteOffer.{route_offer_in}
use Rattle.bgp_machine.specs.declared.hearing.Heard.{Heard}
use Rattle.bgp_machine.specs.declared.hearing.Heard.TheVariants.{TooShort, ValidOpen, FaultyHeader, InvalidOpen, BadVersion, Notification, Keepalive, Update}
use Rattle.bgp_machine.specs.declared.rows.HiddenRow.{HiddenRow}
use Rattle.bgp_machine.specs.declared.rows.HiddenRow.TheVariants.{Starts, Listens, Stops, Ceases, RetryExpires, HoldExpires, SendHoldExpires, KeepaliveExpires, DelayExpires, ConnectionOpens, DelayBegins, ConnectionFails, Announces, Notes}
use Rattle.bgp_machine.specs.declared.state.Head.{Head}
use Rattle.bgp_machine.specs.declared.state.Head.TheVariants.{Idle, Connect, Active, OpenSent, OpenConfirm, Established}
use Rattle.bgp_machine.specs.declared.want.Want.{Want}
use Rattle.bgp_machine.specs.Going.{going_on}
use Rattle.bgp_machine.specs.Heard.{Hears, received_limit}
use Rattle.bgp_machine.specs.State.{Turn, link_at}
use Rattle.bgp_machine.specs.Step.{HiddenIn, failed}
use Rattle.bgp_machine.proofs.Shapes.{shape_received}
use Rattle.bgp_rib.specs.Routes.{Routes}
use Rattle.bgp_wire.specs.Held.{Held}
use Rattle.bgp_speaker.specs.declared.draft.Draft.{Draft}
use Rattle.bgp_speaker.specs.declared.speaker.Speaker.{Speaker}
use Rattle.bgp_speaker.specs.Answers.{IsFreshDraft}
use Rattle.bgp_speaker.specs.Choice.{TakesOn}
use Rattle.bgp_speaker.specs.Choosing.{Drives}
use Rattle.bgp_speaker.specs.Core.{CoreState, InputValue, IsConnected, IsPlain, Moment, OffersNothing, fresh_core}
use Rattle.bgp_speaker.specs.Driven.{EachLinkIsPlain}
use Rattle.bgp_speaker.specs.Drafts.{DoesHear, DoesOn, DoesPicked, HearsWell, moment_of}
use Rattle.bgp_speaker.proofs.DrivesARun.{same_speaker}
use Rattle.bgp_speaker.proofs.EachStep.{IsHeardMessage, IsKept, IsKeptOn, chooses_kept, each_heard, greets_kept, hears_kept, row_kept}

-- ---- by itself a state keeps its link, or loses it

at : (turn is : Turn) → turn ≡ is → IsPlain (link_at is.head) → IsPlain (link_at turn.head)
at turn is same plain = subst (λ (v : Turn). IsPlain (link_at v.head)) (sym same) plain

unlinked : (delay : Bool) → IsPlain (link_at (failed delay).head)
unlinked true = tt
unlinked false = tt

row_plain : (head : Head) (config : Config) (t : ℕ) (row : HiddenRow) (wants : List Want) (turn : Turn) → HiddenIn head config t row wants turn
    → IsPlain (link_at head) → IsPlain (link_at turn.head)
row_plain Idle config t Starts wants turn h before = at turn _ h.1 tt
row_plain Idle config t Listens wants turn h before = at turn _ h.1 tt
row_plain Idle config t Notes wants turn h before = at turn _ h.1 tt
row_plain (Connect delay) config t Stops wants turn h before = at turn _ h.1 tt
row_plain (Connect delay) config t RetryExpires wants turn h before = at turn _ h.1 tt
row_plain (Connect delay) config t DelayExpires wants turn h before = at turn _ h.2 tt
row_plain (Connect delay) config t ConnectionOpens wants turn h before = at turn _ h.1 tt
row_plain (Connect delay) config t DelayBegins wants turn h before = at turn _ h.2 tt
row_plain (Connect delay) config t ConnectionFails wants turn h before = at turn _ h.1 (unlinked delay)
row_plain (Connect delay) config t Notes wants turn h before = at turn _ h.1 tt
row_plain (Active delay) config t Stops wants turn h before = at turn _ h.1 tt
row_plain (Active delay) config t Ceases wants turn h before = at turn _ h.2 tt
row_plain (Active delay) config t RetryExpires wants turn h before = at turn _ h.1 tt
row_plain (Active delay) config t DelayExpires wants turn h before = at turn _ h.2 tt
row_plain (Active delay) config t ConnectionOpens wants turn h before = at turn _ h.1 tt
row_plain (Active delay) config t DelayBegins wants turn h before = at turn _ h.2 tt
row_plain (Active delay) config t ConnectionFails wants turn h before = at turn _ h.1 tt
row_plain (Active delay) config t Notes wants turn h before = at turn _ h.1 tt
row_plain (OpenSent timer) config t Ceases wants turn h before = at turn _ h.1 tt
row_plain (OpenSent timer) config t HoldExpires wants turn h before = at turn _ h.2 tt
row_plain (OpenSent timer) config t ConnectionFails wants turn h before = at turn _ h.1 tt
row_plain (OpenSent timer) config t Notes wants turn h before = at turn _ h.1 tt
row_plain (OpenConfirm link timer) config t Ceases wants turn h before = at turn _ h.1 tt
row_plain (OpenConfirm link timer) config t HoldExpires wants turn h before = at turn _ h.2 tt
row_plain (OpenConfirm link timer) config t KeepaliveExpires wants turn h before = at turn _ h.2 before
row_plain (OpenConfirm link timer) config t ConnectionFails wants turn h before = at turn _ h.1 tt
row_plain (OpenConfirm link timer) config t Notes wants turn h before = at turn _ h.1 before
row_plain (Established link timer) config t Ceases wants turn h before = at turn _ h.1 tt
row_plain (Established link timer) config t HoldExpires wants turn h before = at turn _ h.2 tt
row_plain (Established link timer) config t SendHoldExpires wants turn h before = at turn _ h.2 tt
row_plain (Established link timer) config t KeepaliveExpires wants turn h before = at turn _ h.2 before
row_plain (Established link timer) config t ConnectionFails wants turn h before = at turn _ h.1 tt
row_plain (Established link timer) config t Announces wants turn h before = at turn _ h.1 before
row_plain (Established link timer) config t Notes wants turn h before = at turn _ h.1 before
row_plain head config t row wants turn h before = absurd h

-- ---- an OPEN settles what is plain

plain_link : (config : Config) → OffersNothing config → (message : OpenFields) → IsPlain (Some (link_of config message))
plain_link config none message = (
  ap (λ (own : RouteOffer). received_form own (route_offer_in message)) none ∙ ap without_next_hops (none_shared (route_offer_in message).sends),
  ap (λ (own : RouteOffer). (sent_form own (route_offer_in message)).identified) none,
)

abbrev SettlesPlain : Heard → Type 0
SettlesPlain (ValidOpen link errors) = IsPlain (Some link)
SettlesPlain heard = Unit {0}

heard_plain : (config : Config) → OffersNothing config → (octets : List ℕ) (heard : Heard) → Hears config octets heard → SettlesPlain heard
heard_plain config none octets (ValidOpen link errors) h = subst (λ (v : Link). IsPlain (Some v)) (sym h.2) (plain_link config none (open_of octets))
heard_plain config none octets TooShort h = tt
heard_plain config none octets (FaultyHeader faults) h = tt
heard_plain config none octets (InvalidOpen errors) h = tt
heard_plain config none octets BadVersion h = tt
heard_plain config none octets Notification h = tt
heard_plain config none octets Keepalive h = tt
heard_plain config none octets Update h = tt

on_plain : (head : Head) (t : ℕ) (heard : Heard) → IsConnected head → SettlesPlain heard → IsPlain (link_at head) → IsPlain (link_at (going_on head t heard))
on_plain Idle t heard on settles before = absurd on
on_plain (Connect delay) t heard on settles before = absurd on
on_plain (Active delay) t heard on settles before = absurd on
on_plain (OpenSent timer) t TooShort on settles before = tt
on_plain (OpenSent timer) t (ValidOpen link errors) on settles before = settles
on_plain (OpenSent timer) t (FaultyHeader faults) on settles before = tt
on_plain (OpenSent timer) t (InvalidOpen errors) on settles before = tt
on_plain (OpenSent timer) t BadVersion on settles before = tt
on_plain (OpenSent timer) t Notification on settles before = tt
on_plain (OpenSent timer) t Keepalive on settles before = tt
on_plain (OpenSent timer) t Update on settles before = tt
on_plain (OpenConfirm own timer) t TooShort on settles before = before
on_plain (OpenConfirm own timer) t (ValidOpen link errors) on settles before = before
on_plain (OpenConfirm own timer) t (FaultyHeader faults) on settles before = before
on_plain (OpenConfirm own timer) t (InvalidOpen errors) on settles before = before
on_plain (OpenConfirm own timer) t BadVersion on settles before = before
on_plain (OpenConfirm own timer) t Notification on settles before = before
on_plain (OpenConfirm own timer) t Keepalive on settles before = before
on_plain (OpenConfirm own timer) t Update on settles before = before
on_plain (Established own timer) t TooShort on settles before = before
on_plain (Established own timer) t (ValidOpen link errors) on settles before = before
on_plain (Established own timer) t (FaultyHeader faults) on settles before = before
on_plain (Established own timer) t (InvalidOpen errors) on settles before = before
on_plain (Established own timer) t BadVersion on settles before = before
on_plain (Established own timer) t Notification on settles before = before
on_plain (Established own timer) t Keepalive on settles before = before
on_plain (Established own timer) t Update on settles before = before

-- ---- so it stays plain with each step

abbrev StaysPlain : ℕ → Moment → List ShownRecord → Moment → Type 0
StaysPlain t m records e = IsPlain (link_at m.session.head) → IsPlain (link_at e.session.head)

after : (m e : Moment) → m ≡ e → IsPlain (link_at e.session.head) → IsPlain (link_at m.session.head)
after m e same plain = subst (λ (v : Moment). IsPlain (link_at v.session.head)) (sym same) plain

by_itself : (speaker : Speaker) → IsKept speaker StaysPlain
by_itself speaker = record {
  none = λ t m before. before;
  joined = λ t m n e xs ys p q before. q (p before);
  own = λ changes t row m e records taken x before.
      after e _ x.acts.leaves (row_plain m.session.head speaker.config t row x.wants x.turn x.is before);
}

taken_on : (speaker : Speaker) → OffersNothing speaker.config → (t : ℕ) (octets : List ℕ) (m e : Moment) (records : List ShownRecord)
    → IsConnected m.session.head → TakesOn speaker t octets m records e → StaysPlain t m records e
taken_on speaker none t octets m e records on x before =
    let turn = x.4.turn in
    after e _ x.4.acts.leaves (elim (shape_received m.session.head t octets x.0 x.1 x.4.wants turn x.4.is) [
      | inl falling ↦ elim falling.ends [
        | inl fell ↦ at turn _ fell tt
        | inr stayed ↦ at turn _ stayed.1 tt
      ]
      | inr going ↦ subst (λ (h : Head). IsPlain (link_at h)) (sym going.head_after)
          (on_plain m.session.head t x.0 on (heard_plain speaker.config none octets x.0 x.2) before)
    ])

on_message : (speaker : Speaker) → OffersNothing speaker.config → IsKeptOn speaker StaysPlain
on_message speaker none t octets m e records heard on x before = taken_on speaker none t octets m e records on x before

drives_plain : (s e : CoreState) (inputs : List (ℕ × InputValue)) (records : List ShownRecord) → OffersNothing s.speaker.config → Drives s inputs records e
    → IsPlain (link_at s.moment.session.head) → IsPlain (link_at e.moment.session.head)
drives_plain s e [] records none x before = subst (λ (v : CoreState). IsPlain (link_at v.moment.session.head)) (sym x.1) before
drives_plain s e (input ∷ inputs) records none x before =
    drives_plain x.1 e inputs x.2 (subst (λ (v : Speaker). OffersNothing v.config) (sym (same_speaker s x.1 input.1 input.0 x.0 x.3)) none) x.4
    (chooses_kept s x.1 StaysPlain (by_itself s.speaker) (on_message s.speaker none) input.1 input.0 x.0 x.3 before)

pub links_plain : EachLinkIsPlain
links_plain speaker e inputs records none x = drives_plain (fresh_core speaker) e inputs records none x tt

-- ---- and with what a draft does

pub fresh_plain : {X : Type 0} (s : CoreState) (d : Draft X) → IsFreshDraft s d → IsPlain (link_at s.moment.session.head) → IsPlain (link_at d.head)
fresh_plain s d fresh before = subst (λ (m : Moment). IsPlain (link_at m.session.head)) (sym fresh.moment) before

pub does_on_plain : {X : Type 0} (routes : Routes) (speaker : Speaker) (t : ℕ) (octets : List ℕ) (old new : Draft X) → OffersNothing speaker.config
    → IsConnected old.head → DoesOn routes speaker t octets old new → IsPlain (link_at old.head) → IsPlain (link_at new.head)
does_on_plain routes speaker t octets old new none on x before =
    taken_on speaker none t octets (moment_of routes old) (moment_of routes new) x.records on x.takes before

pub does_hear_plain : {X : Type 0} (routes : Routes) (speaker : Speaker) (kept : List PrefixBits) (t : ℕ) (octets : List ℕ) (old new : Draft X)
    → OffersNothing speaker.config → IsConnected old.head → DoesHear routes speaker kept t octets old new → IsPlain (link_at old.head) → IsPlain (link_at new.head)
does_hear_plain routes speaker kept t octets old new none on x before =
    greets_kept speaker StaysPlain (by_itself speaker) kept t old.head x.between.session.head x.between (moment_of routes new) x.greeting x.greets
    (taken_on speaker none t octets (moment_of routes old) x.between x.first on x.takes before)

pub hears_well_plain : {X : Type 0} (routes : Routes) (speaker : Speaker) (kept : List PrefixBits) (t : ℕ) (octets : List ℕ) (held : Held) (old new : Draft X)
    → OffersNothing speaker.config → HearsWell routes speaker kept t octets held old new → IsPlain (link_at old.head) → IsPlain (link_at new.head)
hears_well_plain routes speaker kept t octets held old new none x before =
    let hears = x.does.hears in
    hears_kept speaker StaysPlain (by_itself speaker) (on_message speaker none) kept t (moment_of routes old) (moment_of routes new) hears.messages x.does.records
    (each_heard (received_limit speaker.config) octets hears.messages x.rest hears.heard) hears.each before

pub picked_plain : {X : Type 0} (routes : Routes) (speaker : Speaker) (t : ℕ) (input : InputValue) (old new : Draft X)
    → DoesPicked routes speaker t input old new → IsPlain (link_at old.head) → IsPlain (link_at new.head)
picked_plain routes speaker t input old new x before =
    row_kept speaker StaysPlain (by_itself speaker) input t (moment_of routes old) (moment_of routes new) x.takes.0 x.records x.takes.1 x.takes.2 before
