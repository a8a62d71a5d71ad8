-- What a row sends can be said.
use Rattle.std.proofs.Common.{◌≡◌, ℕ, List, [], ◌∷◌, Option, None, Some, refl, sym, subst}
use Rattle.bgp_open.specs.declared.config.Config.{Config}
use Rattle.bgp_open.specs.declared.link.Link.{Link}
use Rattle.bgp_machine.specs.declared.hearing.Heard.{Heard}
use Rattle.bgp_machine.specs.declared.hearing.Heard.TheVariants as heards
use Rattle.bgp_machine.specs.declared.rows.HiddenRow.{HiddenRow}
use Rattle.bgp_machine.specs.declared.rows.HiddenRow.TheVariants.{Starts, Listens, Stops, Ceases, RetryExpires, HoldExpires, SendHoldExpires, KeepaliveExpires, DelayExpires, ConnectionOpens, DelayBegins, ConnectionFails, Announces, Notes}
use Rattle.bgp_machine.specs.declared.rows.ReceivedRow.{ReceivedRow}
use Rattle.bgp_machine.specs.declared.rows.ReceivedRow.TheVariants.{Ignores, Accepts, Overlooks, Collides, Drops, NamesFault, ReportsError, Establishes, Renews, Applies}
use Rattle.bgp_machine.specs.declared.state.Head.{Head}
use Rattle.bgp_machine.specs.declared.state.Head.TheVariants.{Idle, Connect, Active, OpenSent, OpenConfirm, Established}
use Rattle.bgp_machine.specs.declared.want.FaultSet.{FaultSet}
use Rattle.bgp_machine.specs.declared.want.FaultSet.TheVariants as sets
use Rattle.bgp_machine.specs.declared.want.Unexpected.TheVariants.{InOpenSent, InOpenConfirm, InEstablished}
use Rattle.bgp_machine.specs.declared.want.Want.{Want}
use Rattle.bgp_machine.specs.declared.want.Want.TheVariants.{OwnOpen, KeepAlive, CleanUpdate, Cease, HoldExpired, SendHoldExpired, MachineError, Faults}
use Rattle.bgp_machine.specs.Heard.{Hears}
use Rattle.bgp_machine.specs.Lists.{Each}
use Rattle.bgp_machine.specs.Owed.{EachOwedSetHasFault, HasFault}
use Rattle.bgp_machine.specs.State.{Turn, link_at}
use Rattle.bgp_machine.specs.Step.{HiddenIn, Received, ReceivedIn}
use Rattle.bgp_speaker.specs.declared.saying.News.{News}
use Rattle.bgp_speaker.specs.Drafts.{CanBeSaid, CanBeTold}

none_of : (P : Want → Type 0) (wants : List Want) → wants ≡ [] → Each P wants
none_of P wants e = subst (λ (v : List Want). Each P v) (sym e) tt

one_of : (P : Want → Type 0) (want : Want) (wants : List Want) → wants ≡ want ∷ [] → P want → Each P wants
one_of P want wants e p = subst (λ (v : List Want). Each P v) (sym e) (p, tt)

two_of : (P : Want → Type 0) (first second : Want) (wants : List Want) → wants ≡ first ∷ second ∷ [] → P first → P second → Each P wants
two_of P first second wants e p q = subst (λ (v : List Want). Each P v) (sym e) (p, (q, tt))

-- ---- rows by themselves

pub own_said : (head : Head) (config : Config) (t : ℕ) (told : Option News) (row : HiddenRow) (wants : List Want) (turn : Turn)
    → HiddenIn head config t row wants turn → (row ≡ Announces → CanBeTold (link_at head) told) → Each (CanBeSaid (link_at head) told) wants
own_said Idle config t told Starts wants turn h tells = none_of (CanBeSaid None told) wants h.0
own_said Idle config t told Listens wants turn h tells = none_of (CanBeSaid None told) wants h.0
own_said Idle config t told Notes wants turn h tells = none_of (CanBeSaid None told) wants h.0
own_said (Connect delay) config t told Stops wants turn h tells = none_of (CanBeSaid None told) wants h.0
own_said (Connect delay) config t told RetryExpires wants turn h tells = none_of (CanBeSaid None told) wants h.0
own_said (Connect delay) config t told DelayExpires wants turn h tells = one_of (CanBeSaid None told) OwnOpen wants h.1 tt
own_said (Connect delay) config t told ConnectionOpens wants turn h tells = one_of (CanBeSaid None told) OwnOpen wants h.0 tt
own_said (Connect delay) config t told DelayBegins wants turn h tells = none_of (CanBeSaid None told) wants h.1
own_said (Connect delay) config t told ConnectionFails wants turn h tells = none_of (CanBeSaid None told) wants h.0
own_said (Connect delay) config t told Notes wants turn h tells = none_of (CanBeSaid None told) wants h.0
own_said (Active delay) config t told Stops wants turn h tells = none_of (CanBeSaid None told) wants h.0
own_said (Active delay) config t told Ceases wants turn h tells = one_of (CanBeSaid None told) Cease wants h.1 tt
own_said (Active delay) config t told RetryExpires wants turn h tells = none_of (CanBeSaid None told) wants h.0
own_said (Active delay) config t told DelayExpires wants turn h tells = one_of (CanBeSaid None told) OwnOpen wants h.1 tt
own_said (Active delay) config t told ConnectionOpens wants turn h tells = one_of (CanBeSaid None told) OwnOpen wants h.0 tt
own_said (Active delay) config t told DelayBegins wants turn h tells = none_of (CanBeSaid None told) wants h.1
own_said (Active delay) config t told ConnectionFails wants turn h tells = none_of (CanBeSaid None told) wants h.0
own_said (Active delay) config t told Notes wants turn h tells = none_of (CanBeSaid None told) wants h.0
own_said (OpenSent timer) config t told Ceases wants turn h tells = one_of (CanBeSaid None told) Cease wants h.0 tt
own_said (OpenSent timer) config t told HoldExpires wants turn h tells = one_of (CanBeSaid None told) HoldExpired wants h.1 tt
own_said (OpenSent timer) config t told ConnectionFails wants turn h tells = none_of (CanBeSaid None told) wants h.0
own_said (OpenSent timer) config t told Notes wants turn h tells = none_of (CanBeSaid None told) wants h.0
own_said (OpenConfirm link timer) config t told Ceases wants turn h tells = one_of (CanBeSaid (Some link) told) Cease wants h.0 tt
own_said (OpenConfirm link timer) config t told HoldExpires wants turn h tells = one_of (CanBeSaid (Some link) told) HoldExpired wants h.1 tt
own_said (OpenConfirm link timer) config t told KeepaliveExpires wants turn h tells = one_of (CanBeSaid (Some link) told) KeepAlive wants h.1 tt
own_said (OpenConfirm link timer) config t told ConnectionFails wants turn h tells = none_of (CanBeSaid (Some link) told) wants h.0
own_said (OpenConfirm link timer) config t told Notes wants turn h tells = none_of (CanBeSaid (Some link) told) wants h.0
own_said (Established link timer) config t told Ceases wants turn h tells = one_of (CanBeSaid (Some link) told) Cease wants h.0 tt
own_said (Established link timer) config t told HoldExpires wants turn h tells = one_of (CanBeSaid (Some link) told) HoldExpired wants h.1 tt
own_said (Established link timer) config t told SendHoldExpires wants turn h tells = one_of (CanBeSaid (Some link) told) SendHoldExpired wants h.1 tt
own_said (Established link timer) config t told KeepaliveExpires wants turn h tells = one_of (CanBeSaid (Some link) told) KeepAlive wants h.1 tt
own_said (Established link timer) config t told ConnectionFails wants turn h tells = none_of (CanBeSaid (Some link) told) wants h.0
own_said (Established link timer) config t told Announces wants turn h tells = one_of (CanBeSaid (Some link) told) CleanUpdate wants h.0 (tells refl)
own_said (Established link timer) config t told Notes wants turn h tells = none_of (CanBeSaid (Some link) told) wants h.0
own_said head config t told row wants turn h tells = absurd h

-- ---- rows about a message

abbrev IsNoUpdate : Want → Type 0
IsNoUpdate CleanUpdate = ⊥
IsNoUpdate want = Unit {0}

says_no_update : (head : Head) (t : ℕ) (octets : List ℕ) (heard : Heard) (row : ReceivedRow) (wants : List Want) (turn : Turn)
    → ReceivedIn head t octets heard row wants turn → Each IsNoUpdate wants
says_no_update Idle t octets heard Ignores wants turn h = none_of IsNoUpdate wants h.0
says_no_update (Connect delay) t octets (heards.ValidOpen link e) Accepts wants turn h = two_of IsNoUpdate OwnOpen KeepAlive wants h.1 tt tt
says_no_update (Connect delay) t octets (heards.ValidOpen link e) Drops wants turn h = none_of IsNoUpdate wants h.0
says_no_update (Connect delay) t octets (heards.ValidOpen link e) NamesFault wants turn h = one_of IsNoUpdate (Faults (sets.Open e)) wants h.0 tt
says_no_update (Connect delay) t octets (heards.FaultyHeader f) Drops wants turn h = none_of IsNoUpdate wants h.0
says_no_update (Connect delay) t octets (heards.FaultyHeader f) NamesFault wants turn h = one_of IsNoUpdate (Faults (sets.Header f)) wants h.0 tt
says_no_update (Connect delay) t octets (heards.InvalidOpen e) Drops wants turn h = none_of IsNoUpdate wants h.0
says_no_update (Connect delay) t octets (heards.InvalidOpen e) NamesFault wants turn h = one_of IsNoUpdate (Faults (sets.Open e)) wants h.0 tt
says_no_update (Connect delay) t octets heards.BadVersion Drops wants turn h = none_of IsNoUpdate wants h.0
says_no_update (Connect delay) t octets heards.Notification Drops wants turn h = none_of IsNoUpdate wants h.0
says_no_update (Connect delay) t octets heards.Keepalive Drops wants turn h = none_of IsNoUpdate wants h.0
says_no_update (Connect delay) t octets heards.Update Drops wants turn h = none_of IsNoUpdate wants h.0
says_no_update (Active delay) t octets (heards.ValidOpen link e) Accepts wants turn h = two_of IsNoUpdate OwnOpen KeepAlive wants h.1 tt tt
says_no_update (Active delay) t octets (heards.ValidOpen link e) Drops wants turn h = none_of IsNoUpdate wants h.0
says_no_update (Active delay) t octets (heards.ValidOpen link e) NamesFault wants turn h = one_of IsNoUpdate (Faults (sets.Open e)) wants h.0 tt
says_no_update (Active delay) t octets (heards.FaultyHeader f) Drops wants turn h = none_of IsNoUpdate wants h.0
says_no_update (Active delay) t octets (heards.FaultyHeader f) NamesFault wants turn h = one_of IsNoUpdate (Faults (sets.Header f)) wants h.0 tt
says_no_update (Active delay) t octets (heards.InvalidOpen e) Drops wants turn h = none_of IsNoUpdate wants h.0
says_no_update (Active delay) t octets (heards.InvalidOpen e) NamesFault wants turn h = one_of IsNoUpdate (Faults (sets.Open e)) wants h.0 tt
says_no_update (Active delay) t octets heards.BadVersion Drops wants turn h = none_of IsNoUpdate wants h.0
says_no_update (Active delay) t octets heards.Notification Drops wants turn h = none_of IsNoUpdate wants h.0
says_no_update (Active delay) t octets heards.Keepalive Drops wants turn h = none_of IsNoUpdate wants h.0
says_no_update (Active delay) t octets heards.Update Drops wants turn h = none_of IsNoUpdate wants h.0
says_no_update (OpenSent timer) t octets (heards.ValidOpen link e) Accepts wants turn h = one_of IsNoUpdate KeepAlive wants h.0 tt
says_no_update (OpenSent timer) t octets (heards.ValidOpen link e) Collides wants turn h = one_of IsNoUpdate Cease wants h.0 tt
says_no_update (OpenSent timer) t octets (heards.ValidOpen link e) NamesFault wants turn h = one_of IsNoUpdate (Faults (sets.Open e)) wants h.0 tt
says_no_update (OpenSent timer) t octets (heards.FaultyHeader f) NamesFault wants turn h = one_of IsNoUpdate (Faults (sets.Header f)) wants h.0 tt
says_no_update (OpenSent timer) t octets (heards.InvalidOpen e) NamesFault wants turn h = one_of IsNoUpdate (Faults (sets.Open e)) wants h.0 tt
says_no_update (OpenSent timer) t octets heards.BadVersion Drops wants turn h = none_of IsNoUpdate wants h.0
says_no_update (OpenSent timer) t octets heards.Notification Drops wants turn h = none_of IsNoUpdate wants h.0
says_no_update (OpenSent timer) t octets heards.Notification ReportsError wants turn h = one_of IsNoUpdate (MachineError InOpenSent) wants h.0 tt
says_no_update (OpenSent timer) t octets heards.Keepalive ReportsError wants turn h = one_of IsNoUpdate (MachineError InOpenSent) wants h.0 tt
says_no_update (OpenSent timer) t octets heards.Update ReportsError wants turn h = one_of IsNoUpdate (MachineError InOpenSent) wants h.0 tt
says_no_update (OpenConfirm own timer) t octets (heards.ValidOpen link e) Overlooks wants turn h = none_of IsNoUpdate wants h.0
says_no_update (OpenConfirm own timer) t octets (heards.ValidOpen link e) Collides wants turn h = one_of IsNoUpdate Cease wants h.0 tt
says_no_update (OpenConfirm own timer) t octets (heards.ValidOpen link e) NamesFault wants turn h = one_of IsNoUpdate (Faults (sets.Open e)) wants h.0 tt
says_no_update (OpenConfirm own timer) t octets (heards.ValidOpen link e) ReportsError wants turn h = one_of IsNoUpdate (MachineError InOpenConfirm) wants h.0 tt
says_no_update (OpenConfirm own timer) t octets (heards.FaultyHeader f) NamesFault wants turn h = one_of IsNoUpdate (Faults (sets.Header f)) wants h.0 tt
says_no_update (OpenConfirm own timer) t octets (heards.InvalidOpen e) NamesFault wants turn h = one_of IsNoUpdate (Faults (sets.Open e)) wants h.0 tt
says_no_update (OpenConfirm own timer) t octets heards.BadVersion Drops wants turn h = none_of IsNoUpdate wants h.0
says_no_update (OpenConfirm own timer) t octets heards.Notification Drops wants turn h = none_of IsNoUpdate wants h.0
says_no_update (OpenConfirm own timer) t octets heards.Keepalive Establishes wants turn h = none_of IsNoUpdate wants h.0
says_no_update (OpenConfirm own timer) t octets heards.Update ReportsError wants turn h = one_of IsNoUpdate (MachineError InOpenConfirm) wants h.0 tt
says_no_update (Established own timer) t octets (heards.ValidOpen link e) Overlooks wants turn h = none_of IsNoUpdate wants h.0
says_no_update (Established own timer) t octets (heards.ValidOpen link e) Collides wants turn h = one_of IsNoUpdate Cease wants h.0 tt
says_no_update (Established own timer) t octets (heards.ValidOpen link e) NamesFault wants turn h = one_of IsNoUpdate (Faults (sets.Open e)) wants h.0 tt
says_no_update (Established own timer) t octets (heards.ValidOpen link e) ReportsError wants turn h = one_of IsNoUpdate (MachineError InEstablished) wants h.0 tt
says_no_update (Established own timer) t octets (heards.FaultyHeader f) NamesFault wants turn h = one_of IsNoUpdate (Faults (sets.Header f)) wants h.0 tt
says_no_update (Established own timer) t octets (heards.FaultyHeader f) ReportsError wants turn h = one_of IsNoUpdate (MachineError InEstablished) wants h.0 tt
says_no_update (Established own timer) t octets (heards.InvalidOpen e) NamesFault wants turn h = one_of IsNoUpdate (Faults (sets.Open e)) wants h.0 tt
says_no_update (Established own timer) t octets (heards.InvalidOpen e) ReportsError wants turn h = one_of IsNoUpdate (MachineError InEstablished) wants h.0 tt
says_no_update (Established own timer) t octets heards.BadVersion Drops wants turn h = none_of IsNoUpdate wants h.0
says_no_update (Established own timer) t octets heards.Notification Drops wants turn h = none_of IsNoUpdate wants h.0
says_no_update (Established own timer) t octets heards.Keepalive Renews wants turn h = none_of IsNoUpdate wants h.0
says_no_update (Established own timer) t octets heards.Update NamesFault wants turn h = one_of IsNoUpdate (Faults (sets.Update h.0)) wants h.2 tt
says_no_update (Established own timer) t octets heards.Update (Applies families) wants turn h = none_of IsNoUpdate wants h.2
says_no_update head t octets heard row wants turn h = absurd h

one_said : (link : Option Link) (told : Option News) (want : Want) → IsNoUpdate want → ((faults : FaultSet) → want ≡ Faults faults → HasFault faults) → CanBeSaid link told want
one_said link told CleanUpdate other some = absurd other
one_said link told (Faults faults) other some = some faults refl
one_said link told OwnOpen other some = tt
one_said link told KeepAlive other some = tt
one_said link told Cease other some = tt
one_said link told HoldExpired other some = tt
one_said link told SendHoldExpired other some = tt
one_said link told (MachineError state) other some = tt

each_said : (link : Option Link) (told : Option News) (wants : List Want) → Each IsNoUpdate wants
    → Each (λ want. (faults : FaultSet) → want ≡ Faults faults → HasFault faults) wants → Each (CanBeSaid link told) wants
each_said link told [] other some = tt
each_said link told (want ∷ wants) other some = (one_said link told want other.0 some.0, each_said link told wants other.1 some.1)

pub heard_said : EachOwedSetHasFault → (config : Config) (head : Head) (t : ℕ) (octets : List ℕ) (heard : Heard) (row : ReceivedRow) (told : Option News) (wants : List Want) (turn : Turn)
    → Hears config octets heard → ReceivedIn head t octets heard row wants turn → Each (CanBeSaid (link_at head) told) wants
heard_said some config head t octets heard row told wants turn hears h =
    each_said (link_at head) told wants (says_no_update head t octets heard row wants turn h) (some head config t (Received octets) wants turn (heard, row, hears, h))
