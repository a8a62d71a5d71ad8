-- A state takes one row, by itself and about a message, and each row ends in one way.
use Rattle.std.proofs.Common.{◌≡◌, ℕ, ◌⊎◌, inl, inr, Bool, true, false, List, [], ◌∷◌, Option, None, Some, IsTrue, refl, sym, ap, ◌∙◌}
use Rattle.bgp_prefix.specs.declared.family.Family.TheVariants.{V4, V6}
use Rattle.bgp_open.specs.declared.config.Config.{Config}
use Rattle.bgp_open.specs.declared.families.Families.{Families}
use Rattle.bgp_open.specs.declared.link.Link.{Link}
use Rattle.bgp_update.specs.declared.subcodes.Subcodes.{Subcodes}
use Rattle.bgp_update.specs.Changes.{RouteChanges}
use Rattle.bgp_update.specs.Laws.{HasOneChange}
use Rattle.bgp_update.specs.Subcodes.{SubcodesAreSets}
use Rattle.bgp_machine.specs.declared.hearing.Heard.{Heard}
use Rattle.bgp_machine.specs.declared.hearing.Heard.TheVariants.{TooShort, ValidOpen, FaultyHeader, InvalidOpen, BadVersion, Notification, Keepalive, Update}
use Rattle.bgp_machine.specs.declared.rows.HiddenRow.{HiddenRow}
use Rattle.bgp_machine.specs.declared.rows.HiddenRow.TheVariants.{Starts, Listens, Stops, Ceases, RetryExpires, HoldExpires, SendHoldExpires, KeepaliveExpires, DelayExpires, ConnectionOpens, DelayBegins, ConnectionFails, Announces, Notes}
use Rattle.bgp_machine.specs.declared.rows.ReceivedRow.{ReceivedRow}
use Rattle.bgp_machine.specs.declared.rows.ReceivedRow.TheVariants.{Ignores, Accepts, Overlooks, Collides, Drops, NamesFault, ReportsError, Establishes, Renews, Applies}
use Rattle.bgp_machine.specs.declared.state.Head.{Head}
use Rattle.bgp_machine.specs.declared.state.Head.TheVariants.{Idle, Connect, Active, OpenSent, OpenConfirm, Established}
use Rattle.bgp_machine.specs.declared.state.HoldTimer.{HoldTimer}
use Rattle.bgp_machine.specs.declared.want.FaultSet.TheVariants as sets
use Rattle.bgp_machine.specs.declared.want.Want.{Want}
use Rattle.bgp_machine.specs.declared.want.Want.TheVariants.{Faults}
use Rattle.bgp_machine.specs.State.{Turn, Given, renewed}
use Rattle.bgp_machine.specs.Step.{AreRefusals, HiddenIn, IsExpired, ReceivedIn}
use Rattle.bgp_speaker.specs.Core.{InputValue, Start, Tick}
use Rattle.bgp_speaker.specs.Picks.{IsLeastApply, Picks, PicksInTime, PicksOn}

-- a fact of what is sent and how it ends holds in one way
abbrev pub IsOnce : (List Want → Turn → Type 0) → Type 0
IsOnce Is = (wants others : List Want) (turn other : Turn) → Is wants turn → Is others other → (wants ≡ others) × (turn ≡ other)

-- ---- by itself

in_time_once : (timer : HoldTimer) (sent_at t : ℕ) (picked other : Option HiddenRow) → PicksInTime timer sent_at t picked → PicksInTime timer sent_at t other → picked ≡ other
in_time_once timer sent_at t picked other (inl x) (inl y) = x.1 ∙ sym y.1
in_time_once timer sent_at t picked other (inl x) (inr (inl y)) = absurd (y.0 x.0)
in_time_once timer sent_at t picked other (inl x) (inr (inr y)) = absurd (y.0 x.0)
in_time_once timer sent_at t picked other (inr (inl x)) (inl y) = absurd (x.0 y.0)
in_time_once timer sent_at t picked other (inr (inl x)) (inr (inl y)) = x.2 ∙ sym y.2
in_time_once timer sent_at t picked other (inr (inl x)) (inr (inr y)) = absurd (y.1 x.1)
in_time_once timer sent_at t picked other (inr (inr x)) (inl y) = absurd (x.0 y.0)
in_time_once timer sent_at t picked other (inr (inr x)) (inr (inl y)) = absurd (x.1 y.1)
in_time_once timer sent_at t picked other (inr (inr x)) (inr (inr y)) = x.2 ∙ sym y.2

expired_once : (timer : HoldTimer) (t : ℕ) (picked other : Option HiddenRow)
    → (IsExpired timer t × (picked ≡ Some HoldExpires)) ⊎ ((IsExpired timer t → ⊥) × (picked ≡ None))
    → (IsExpired timer t × (other ≡ Some HoldExpires)) ⊎ ((IsExpired timer t → ⊥) × (other ≡ None)) → picked ≡ other
expired_once timer t picked other (inl x) (inl y) = x.1 ∙ sym y.1
expired_once timer t picked other (inl x) (inr y) = absurd (y.0 x.0)
expired_once timer t picked other (inr x) (inl y) = absurd (x.0 y.0)
expired_once timer t picked other (inr x) (inr y) = x.1 ∙ sym y.1

pub picks_once : (head : Head) (input : InputValue) (sent_at t : ℕ) (picked other : Option HiddenRow)
    → Picks head input sent_at t picked → Picks head input sent_at t other → picked ≡ other
picks_once (OpenSent timer) Tick sent_at t picked other p q = expired_once timer t picked other p q
picks_once (OpenConfirm link timer) Tick sent_at t picked other p q = in_time_once timer sent_at t picked other p q
picks_once (Established link timer) Tick sent_at t picked other p q = in_time_once timer sent_at t picked other p q
picks_once Idle Start sent_at t picked other p q = p ∙ sym q
picks_once (Connect delay) Start sent_at t picked other p q = p ∙ sym q
picks_once (Active delay) Start sent_at t picked other p q = p ∙ sym q
picks_once head input sent_at t picked other p q = p ∙ sym q

pub own_once : (head : Head) (config : Config) (t : ℕ) (row : HiddenRow) → IsOnce (HiddenIn head config t row)
own_once Idle config t Starts wants others turn other x y = (x.0 ∙ sym y.0, x.1 ∙ sym y.1)
own_once Idle config t Listens wants others turn other x y = (x.0 ∙ sym y.0, x.1 ∙ sym y.1)
own_once Idle config t Notes wants others turn other x y = (x.0 ∙ sym y.0, x.1 ∙ sym y.1)
own_once (Connect delay) config t Stops wants others turn other x y = (x.0 ∙ sym y.0, x.1 ∙ sym y.1)
own_once (Connect delay) config t RetryExpires wants others turn other x y = (x.0 ∙ sym y.0, x.1 ∙ sym y.1)
own_once (Connect delay) config t DelayExpires wants others turn other x y = (x.1 ∙ sym y.1, x.2 ∙ sym y.2)
own_once (Connect delay) config t ConnectionOpens wants others turn other x y = (x.0 ∙ sym y.0, x.1 ∙ sym y.1)
own_once (Connect delay) config t DelayBegins wants others turn other x y = (x.1 ∙ sym y.1, x.2 ∙ sym y.2)
own_once (Connect delay) config t ConnectionFails wants others turn other x y = (x.0 ∙ sym y.0, x.1 ∙ sym y.1)
own_once (Connect delay) config t Notes wants others turn other x y = (x.0 ∙ sym y.0, x.1 ∙ sym y.1)
own_once (Active delay) config t Stops wants others turn other x y = (x.0 ∙ sym y.0, x.1 ∙ sym y.1)
own_once (Active delay) config t Ceases wants others turn other x y = (x.1 ∙ sym y.1, x.2 ∙ sym y.2)
own_once (Active delay) config t RetryExpires wants others turn other x y = (x.0 ∙ sym y.0, x.1 ∙ sym y.1)
own_once (Active delay) config t DelayExpires wants others turn other x y = (x.1 ∙ sym y.1, x.2 ∙ sym y.2)
own_once (Active delay) config t ConnectionOpens wants others turn other x y = (x.0 ∙ sym y.0, x.1 ∙ sym y.1)
own_once (Active delay) config t DelayBegins wants others turn other x y = (x.1 ∙ sym y.1, x.2 ∙ sym y.2)
own_once (Active delay) config t ConnectionFails wants others turn other x y = (x.0 ∙ sym y.0, x.1 ∙ sym y.1)
own_once (Active delay) config t Notes wants others turn other x y = (x.0 ∙ sym y.0, x.1 ∙ sym y.1)
own_once (OpenSent timer) config t Ceases wants others turn other x y = (x.0 ∙ sym y.0, x.1 ∙ sym y.1)
own_once (OpenSent timer) config t HoldExpires wants others turn other x y = (x.1 ∙ sym y.1, x.2 ∙ sym y.2)
own_once (OpenSent timer) config t ConnectionFails wants others turn other x y = (x.0 ∙ sym y.0, x.1 ∙ sym y.1)
own_once (OpenSent timer) config t Notes wants others turn other x y = (x.0 ∙ sym y.0, x.1 ∙ sym y.1)
own_once (OpenConfirm link timer) config t Ceases wants others turn other x y = (x.0 ∙ sym y.0, x.1 ∙ sym y.1)
own_once (OpenConfirm link timer) config t HoldExpires wants others turn other x y = (x.1 ∙ sym y.1, x.2 ∙ sym y.2)
own_once (OpenConfirm link timer) config t KeepaliveExpires wants others turn other x y = (x.1 ∙ sym y.1, x.2 ∙ sym y.2)
own_once (OpenConfirm link timer) config t ConnectionFails wants others turn other x y = (x.0 ∙ sym y.0, x.1 ∙ sym y.1)
own_once (OpenConfirm link timer) config t Notes wants others turn other x y = (x.0 ∙ sym y.0, x.1 ∙ sym y.1)
own_once (Established link timer) config t Ceases wants others turn other x y = (x.0 ∙ sym y.0, x.1 ∙ sym y.1)
own_once (Established link timer) config t HoldExpires wants others turn other x y = (x.1 ∙ sym y.1, x.2 ∙ sym y.2)
own_once (Established link timer) config t SendHoldExpires wants others turn other x y = (x.1 ∙ sym y.1, x.2 ∙ sym y.2)
own_once (Established link timer) config t KeepaliveExpires wants others turn other x y = (x.1 ∙ sym y.1, x.2 ∙ sym y.2)
own_once (Established link timer) config t ConnectionFails wants others turn other x y = (x.0 ∙ sym y.0, x.1 ∙ sym y.1)
own_once (Established link timer) config t Announces wants others turn other x y = (x.0 ∙ sym y.0, x.1 ∙ sym y.1)
own_once (Established link timer) config t Notes wants others turn other x y = (x.0 ∙ sym y.0, x.1 ∙ sym y.1)
own_once head config t row wants others turn other x y = absurd x

-- ---- about a message

same_bit : (a b : Bool) → (IsTrue a → IsTrue b) → (IsTrue b → IsTrue a) → a ≡ b
same_bit true true p q = refl
same_bit true false p q = sym (p refl)
same_bit false true p q = q refl
same_bit false false p q = refl

families_once : (link : Link) (octets : List ℕ) (families others : Families) → IsLeastApply link octets families → IsLeastApply link octets others → families ≡ others
families_once link octets families others x y =
    let there = x.least y.allowed.0 others y.allowed.1 in
    let here = y.least x.allowed.0 families x.allowed.1 in
    let v4 = same_bit families.v4 others.v4 (there V4) (here V4) in
    let v6 = same_bit families.v6 others.v6 (there V6) (here V6) in
    λ i. record { v4 = v4 i; v6 = v6 i }

abbrev sent_row : Heard → ReceivedRow
sent_row TooShort = Drops
sent_row (ValidOpen l e) = Accepts
sent_row (FaultyHeader f) = NamesFault
sent_row (InvalidOpen e) = NamesFault
sent_row BadVersion = Drops
sent_row Notification = ReportsError
sent_row Keepalive = ReportsError
sent_row Update = ReportsError

sent_is : (timer : HoldTimer) (octets : List ℕ) (heard : Heard) (row : ReceivedRow) → PicksOn (OpenSent timer) octets heard row → row ≡ sent_row heard
sent_is timer octets (ValidOpen l e) Accepts p = refl
sent_is timer octets (FaultyHeader f) NamesFault p = refl
sent_is timer octets (InvalidOpen e) NamesFault p = refl
sent_is timer octets BadVersion Drops p = refl
sent_is timer octets Notification ReportsError p = refl
sent_is timer octets Keepalive ReportsError p = refl
sent_is timer octets Update ReportsError p = refl
sent_is timer octets heard row p = absurd p

abbrev confirm_row : Heard → ReceivedRow
confirm_row TooShort = Drops
confirm_row (ValidOpen l e) = Overlooks
confirm_row (FaultyHeader f) = NamesFault
confirm_row (InvalidOpen e) = NamesFault
confirm_row BadVersion = Drops
confirm_row Notification = Drops
confirm_row Keepalive = Establishes
confirm_row Update = ReportsError

confirm_is : (own : Link) (timer : HoldTimer) (octets : List ℕ) (heard : Heard) (row : ReceivedRow) → PicksOn (OpenConfirm own timer) octets heard row → row ≡ confirm_row heard
confirm_is own timer octets (ValidOpen l e) Overlooks p = refl
confirm_is own timer octets (FaultyHeader f) NamesFault p = refl
confirm_is own timer octets (InvalidOpen e) NamesFault p = refl
confirm_is own timer octets BadVersion Drops p = refl
confirm_is own timer octets Notification Drops p = refl
confirm_is own timer octets Keepalive Establishes p = refl
confirm_is own timer octets Update ReportsError p = refl
confirm_is own timer octets heard row p = absurd p

abbrev established_row : Heard → ReceivedRow
established_row TooShort = Drops
established_row (ValidOpen l e) = Overlooks
established_row (FaultyHeader f) = NamesFault
established_row (InvalidOpen e) = NamesFault
established_row BadVersion = Drops
established_row Notification = Drops
established_row Keepalive = Renews
established_row Update = Drops

established_is : (own : Link) (timer : HoldTimer) (octets : List ℕ) (heard : Heard) (row : ReceivedRow) → (heard ≡ Update → ⊥) → PicksOn (Established own timer) octets heard row → row ≡ established_row heard
established_is own timer octets (ValidOpen l e) Overlooks other p = refl
established_is own timer octets (FaultyHeader f) NamesFault other p = refl
established_is own timer octets (InvalidOpen e) NamesFault other p = refl
established_is own timer octets BadVersion Drops other p = refl
established_is own timer octets Notification Drops other p = refl
established_is own timer octets Keepalive Renews other p = refl
established_is own timer octets Update Ignores other p = absurd (other refl)
established_is own timer octets Update Accepts other p = absurd (other refl)
established_is own timer octets Update Overlooks other p = absurd (other refl)
established_is own timer octets Update Collides other p = absurd (other refl)
established_is own timer octets Update Drops other p = absurd (other refl)
established_is own timer octets Update NamesFault other p = absurd (other refl)
established_is own timer octets Update ReportsError other p = absurd (other refl)
established_is own timer octets Update Establishes other p = absurd (other refl)
established_is own timer octets Update Renews other p = absurd (other refl)
established_is own timer octets Update (Applies families) other p = absurd (other refl)
established_is own timer octets heard row other p = absurd p

update_once : (own : Link) (timer : HoldTimer) (octets : List ℕ) (row other : ReceivedRow)
    → PicksOn (Established own timer) octets Update row → PicksOn (Established own timer) octets Update other → row ≡ other
update_once own timer octets NamesFault NamesFault p q = refl
update_once own timer octets NamesFault (Applies others) p q = absurd (p q.allowed.0 others q.allowed.1)
update_once own timer octets (Applies families) NamesFault p q = absurd (q p.allowed.0 families p.allowed.1)
update_once own timer octets (Applies families) (Applies others) p q = ap (λ (f : Families). Applies f) (families_once own octets families others p q)
update_once own timer octets (Applies families) other p q = absurd q
update_once own timer octets NamesFault other p q = absurd q
update_once own timer octets row other p q = absurd p

pub row_once : (head : Head) (octets : List ℕ) (heard : Heard) (row other : ReceivedRow) → PicksOn head octets heard row → PicksOn head octets heard other → row ≡ other
row_once Idle octets heard row other p q = absurd p
row_once (Connect delay) octets heard row other p q = absurd p
row_once (Active delay) octets heard row other p q = absurd p
row_once (OpenSent timer) octets heard row other p q = sent_is timer octets heard row p ∙ sym (sent_is timer octets heard other q)
row_once (OpenConfirm own timer) octets heard row other p q = confirm_is own timer octets heard row p ∙ sym (confirm_is own timer octets heard other q)
row_once (Established own timer) octets Update row other p q = update_once own timer octets row other p q
row_once (Established own timer) octets TooShort row other p q =
    established_is own timer octets TooShort row (λ e. absurd (cc)) p ∙ sym (established_is own timer octets TooShort other (λ e. absurd (cc)) q)
row_once (Established own timer) octets (ValidOpen l e) row other p q =
    established_is own timer octets (ValidOpen l e) row (λ e. absurd (cc)) p ∙ sym (established_is own timer octets (ValidOpen l e) other (λ e. absurd (cc)) q)
row_once (Established own timer) octets (FaultyHeader f) row other p q =
    established_is own timer octets (FaultyHeader f) row (λ e. absurd (cc)) p ∙ sym (established_is own timer octets (FaultyHeader f) other (λ e. absurd (cc)) q)
row_once (Established own timer) octets (InvalidOpen e) row other p q =
    established_is own timer octets (InvalidOpen e) row (λ e. absurd (cc)) p ∙ sym (established_is own timer octets (InvalidOpen e) other (λ e. absurd (cc)) q)
row_once (Established own timer) octets BadVersion row other p q =
    established_is own timer octets BadVersion row (λ e. absurd (cc)) p ∙ sym (established_is own timer octets BadVersion other (λ e. absurd (cc)) q)
row_once (Established own timer) octets Notification row other p q =
    established_is own timer octets Notification row (λ e. absurd (cc)) p ∙ sym (established_is own timer octets Notification other (λ e. absurd (cc)) q)
row_once (Established own timer) octets Keepalive row other p q =
    established_is own timer octets Keepalive row (λ e. absurd (cc)) p ∙ sym (established_is own timer octets Keepalive other (λ e. absurd (cc)) q)

subcodes_once : (own : Link) (octets : List ℕ) (subcodes others : Subcodes) → SubcodesAreSets → AreRefusals own octets subcodes → AreRefusals own octets others → subcodes ≡ others
subcodes_once own octets subcodes others are x y =
    are subcodes others (λ n. (λ h. (y.each n).1 ((x.each n).0 h), λ h. (x.each n).1 ((y.each n).0 h)))

pub on_once : (head : Head) (t : ℕ) (octets : List ℕ) (heard : Heard) (row : ReceivedRow) → HasOneChange → SubcodesAreSets → PicksOn head octets heard row
    → IsOnce (ReceivedIn head t octets heard row)
on_once (OpenSent timer) t octets (ValidOpen l e) Accepts change sets_are p wants others turn other x y = (x.0 ∙ sym y.0, x.1 ∙ sym y.1)
on_once (OpenSent timer) t octets (FaultyHeader f) NamesFault change sets_are p wants others turn other x y = (x.0 ∙ sym y.0, x.1 ∙ sym y.1)
on_once (OpenSent timer) t octets (InvalidOpen e) NamesFault change sets_are p wants others turn other x y = (x.0 ∙ sym y.0, x.1 ∙ sym y.1)
on_once (OpenSent timer) t octets BadVersion Drops change sets_are p wants others turn other x y = (x.0 ∙ sym y.0, x.1 ∙ sym y.1)
on_once (OpenSent timer) t octets Notification ReportsError change sets_are p wants others turn other x y = (x.0 ∙ sym y.0, x.1 ∙ sym y.1)
on_once (OpenSent timer) t octets Keepalive ReportsError change sets_are p wants others turn other x y = (x.0 ∙ sym y.0, x.1 ∙ sym y.1)
on_once (OpenSent timer) t octets Update ReportsError change sets_are p wants others turn other x y = (x.0 ∙ sym y.0, x.1 ∙ sym y.1)
on_once (OpenConfirm own timer) t octets (ValidOpen l e) Overlooks change sets_are p wants others turn other x y = (x.0 ∙ sym y.0, x.1 ∙ sym y.1)
on_once (OpenConfirm own timer) t octets (FaultyHeader f) NamesFault change sets_are p wants others turn other x y = (x.0 ∙ sym y.0, x.1 ∙ sym y.1)
on_once (OpenConfirm own timer) t octets (InvalidOpen e) NamesFault change sets_are p wants others turn other x y = (x.0 ∙ sym y.0, x.1 ∙ sym y.1)
on_once (OpenConfirm own timer) t octets BadVersion Drops change sets_are p wants others turn other x y = (x.0 ∙ sym y.0, x.1 ∙ sym y.1)
on_once (OpenConfirm own timer) t octets Notification Drops change sets_are p wants others turn other x y = (x.0 ∙ sym y.0, x.1 ∙ sym y.1)
on_once (OpenConfirm own timer) t octets Keepalive Establishes change sets_are p wants others turn other x y = (x.0 ∙ sym y.0, x.1 ∙ sym y.1)
on_once (OpenConfirm own timer) t octets Update ReportsError change sets_are p wants others turn other x y = (x.0 ∙ sym y.0, x.1 ∙ sym y.1)
on_once (Established own timer) t octets (ValidOpen l e) Overlooks change sets_are p wants others turn other x y = (x.0 ∙ sym y.0, x.1 ∙ sym y.1)
on_once (Established own timer) t octets (FaultyHeader f) NamesFault change sets_are p wants others turn other x y = (x.0 ∙ sym y.0, x.1 ∙ sym y.1)
on_once (Established own timer) t octets (InvalidOpen e) NamesFault change sets_are p wants others turn other x y = (x.0 ∙ sym y.0, x.1 ∙ sym y.1)
on_once (Established own timer) t octets BadVersion Drops change sets_are p wants others turn other x y = (x.0 ∙ sym y.0, x.1 ∙ sym y.1)
on_once (Established own timer) t octets Notification Drops change sets_are p wants others turn other x y = (x.0 ∙ sym y.0, x.1 ∙ sym y.1)
on_once (Established own timer) t octets Keepalive Renews change sets_are p wants others turn other x y = (x.0 ∙ sym y.0, x.1 ∙ sym y.1)
on_once (Established own timer) t octets Update NamesFault change sets_are p wants others turn other x y =
    let same = subcodes_once own octets x.0 y.0 sets_are x.1 y.1 in
    (x.2 ∙ ap (λ (s : Subcodes). Faults (sets.Update s) ∷ []) same ∙ sym y.2, x.3 ∙ sym y.3)
on_once (Established own timer) t octets Update (Applies families) change sets_are p wants others turn other x y =
    let same = change own octets x.0 y.0 families families x.1 y.1 in
    let ends : RouteChanges → Turn = λ c. record { head = Established own (renewed timer t); routes = Given c families } in
    (x.2 ∙ sym y.2, x.3 ∙ ap ends same ∙ sym y.3)
on_once head t octets heard row change sets_are p wants others turn other x y = absurd p
