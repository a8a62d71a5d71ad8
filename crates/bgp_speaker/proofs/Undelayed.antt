-- The core never delays its OPEN.
use Rattle.std.proofs.Common.{◌≡◌, ℕ, false, true, List, [], ◌∷◌, inl, inr, refl, ap, ◌∙◌}
use Rattle.bgp_prefix.specs.Shown.{ShownRecord}
use Rattle.bgp_open.specs.declared.config.Config.{Config}
use Rattle.bgp_machine.specs.declared.hearing.Heard.{Heard}
use Rattle.bgp_machine.specs.declared.hearing.Heard.TheVariants.{TooShort, ValidOpen, FaultyHeader, InvalidOpen, BadVersion, Notification, Keepalive, Update}
use Rattle.bgp_machine.specs.declared.rows.HiddenRow.{HiddenRow}
use Rattle.bgp_machine.specs.declared.rows.HiddenRow.TheVariants.{Starts, Listens, Stops, Ceases, RetryExpires, HoldExpires, SendHoldExpires, KeepaliveExpires, DelayExpires, ConnectionOpens, DelayBegins, ConnectionFails, Announces, Notes}
use Rattle.bgp_machine.specs.declared.state.Head.{Head}
use Rattle.bgp_machine.specs.declared.state.Head.TheVariants.{Idle, Connect, Active, OpenSent, OpenConfirm, Established}
use Rattle.bgp_machine.specs.declared.want.Want.{Want}
use Rattle.bgp_machine.specs.Going.{going_on}
use Rattle.bgp_machine.specs.Run.{is_delayed}
use Rattle.bgp_machine.specs.State.{Turn}
use Rattle.bgp_machine.specs.Step.{HiddenIn}
use Rattle.bgp_machine.proofs.Shapes.{shape_received}
use Rattle.bgp_speaker.specs.declared.speaker.Speaker.{Speaker}
use Rattle.bgp_speaker.specs.Choosing.{Drives}
use Rattle.bgp_speaker.specs.Core.{CoreState, InputValue, IsConnected, Moment, fresh_core}
use Rattle.bgp_speaker.specs.Driven.{EachDriveIsUndelayed}
use Rattle.bgp_speaker.proofs.EachStep.{IsKept, IsKeptOn, IsTakenRow, chooses_kept}

row_undelayed : (head : Head) (config : Config) (t : ℕ) (row : HiddenRow) (wants : List Want) (turn : Turn) → IsTakenRow row
    → HiddenIn head config t row wants turn → is_delayed head ≡ false → is_delayed turn.head ≡ false
row_undelayed Idle config t Starts wants turn taken is before = ap (λ (v : Turn). is_delayed v.head) is.1
row_undelayed Idle config t Listens wants turn taken is before = ap (λ (v : Turn). is_delayed v.head) is.1
row_undelayed Idle config t Stops wants turn taken is before = absurd is
row_undelayed Idle config t Ceases wants turn taken is before = absurd is
row_undelayed Idle config t RetryExpires wants turn taken is before = absurd is
row_undelayed Idle config t HoldExpires wants turn taken is before = absurd is
row_undelayed Idle config t SendHoldExpires wants turn taken is before = absurd is
row_undelayed Idle config t KeepaliveExpires wants turn taken is before = absurd is
row_undelayed Idle config t DelayExpires wants turn taken is before = absurd is
row_undelayed Idle config t ConnectionOpens wants turn taken is before = absurd is
row_undelayed Idle config t DelayBegins wants turn taken is before = absurd taken
row_undelayed Idle config t ConnectionFails wants turn taken is before = absurd is
row_undelayed Idle config t Announces wants turn taken is before = absurd is
row_undelayed Idle config t Notes wants turn taken is before = ap (λ (v : Turn). is_delayed v.head) is.1
row_undelayed (Connect false) config t Starts wants turn taken is before = absurd is
row_undelayed (Connect false) config t Listens wants turn taken is before = absurd is
row_undelayed (Connect false) config t Stops wants turn taken is before = ap (λ (v : Turn). is_delayed v.head) is.1
row_undelayed (Connect false) config t Ceases wants turn taken is before = absurd is
row_undelayed (Connect false) config t RetryExpires wants turn taken is before = ap (λ (v : Turn). is_delayed v.head) is.1
row_undelayed (Connect false) config t HoldExpires wants turn taken is before = absurd is
row_undelayed (Connect false) config t SendHoldExpires wants turn taken is before = absurd is
row_undelayed (Connect false) config t KeepaliveExpires wants turn taken is before = absurd is
row_undelayed (Connect false) config t DelayExpires wants turn taken is before = ap (λ (v : Turn). is_delayed v.head) is.2
row_undelayed (Connect false) config t ConnectionOpens wants turn taken is before = ap (λ (v : Turn). is_delayed v.head) is.1
row_undelayed (Connect false) config t DelayBegins wants turn taken is before = absurd taken
row_undelayed (Connect false) config t ConnectionFails wants turn taken is before = ap (λ (v : Turn). is_delayed v.head) is.1
row_undelayed (Connect false) config t Announces wants turn taken is before = absurd is
row_undelayed (Connect false) config t Notes wants turn taken is before = ap (λ (v : Turn). is_delayed v.head) is.1
row_undelayed (Connect true) config t row wants turn taken is before = absurd (cc)
row_undelayed (Active false) config t Starts wants turn taken is before = absurd is
row_undelayed (Active false) config t Listens wants turn taken is before = absurd is
row_undelayed (Active false) config t Stops wants turn taken is before = ap (λ (v : Turn). is_delayed v.head) is.1
row_undelayed (Active false) config t Ceases wants turn taken is before = ap (λ (v : Turn). is_delayed v.head) is.2
row_undelayed (Active false) config t RetryExpires wants turn taken is before = ap (λ (v : Turn). is_delayed v.head) is.1
row_undelayed (Active false) config t HoldExpires wants turn taken is before = absurd is
row_undelayed (Active false) config t SendHoldExpires wants turn taken is before = absurd is
row_undelayed (Active false) config t KeepaliveExpires wants turn taken is before = absurd is
row_undelayed (Active false) config t DelayExpires wants turn taken is before = ap (λ (v : Turn). is_delayed v.head) is.2
row_undelayed (Active false) config t ConnectionOpens wants turn taken is before = ap (λ (v : Turn). is_delayed v.head) is.1
row_undelayed (Active false) config t DelayBegins wants turn taken is before = absurd taken
row_undelayed (Active false) config t ConnectionFails wants turn taken is before = ap (λ (v : Turn). is_delayed v.head) is.1
row_undelayed (Active false) config t Announces wants turn taken is before = absurd is
row_undelayed (Active false) config t Notes wants turn taken is before = ap (λ (v : Turn). is_delayed v.head) is.1
row_undelayed (Active true) config t row wants turn taken is before = absurd (cc)
row_undelayed (OpenSent timer) config t Starts wants turn taken is before = absurd is
row_undelayed (OpenSent timer) config t Listens wants turn taken is before = absurd is
row_undelayed (OpenSent timer) config t Stops wants turn taken is before = absurd is
row_undelayed (OpenSent timer) config t Ceases wants turn taken is before = ap (λ (v : Turn). is_delayed v.head) is.1
row_undelayed (OpenSent timer) config t RetryExpires wants turn taken is before = absurd is
row_undelayed (OpenSent timer) config t HoldExpires wants turn taken is before = ap (λ (v : Turn). is_delayed v.head) is.2
row_undelayed (OpenSent timer) config t SendHoldExpires wants turn taken is before = absurd is
row_undelayed (OpenSent timer) config t KeepaliveExpires wants turn taken is before = absurd is
row_undelayed (OpenSent timer) config t DelayExpires wants turn taken is before = absurd is
row_undelayed (OpenSent timer) config t ConnectionOpens wants turn taken is before = absurd is
row_undelayed (OpenSent timer) config t DelayBegins wants turn taken is before = absurd taken
row_undelayed (OpenSent timer) config t ConnectionFails wants turn taken is before = ap (λ (v : Turn). is_delayed v.head) is.1
row_undelayed (OpenSent timer) config t Announces wants turn taken is before = absurd is
row_undelayed (OpenSent timer) config t Notes wants turn taken is before = ap (λ (v : Turn). is_delayed v.head) is.1
row_undelayed (OpenConfirm link timer) config t Starts wants turn taken is before = absurd is
row_undelayed (OpenConfirm link timer) config t Listens wants turn taken is before = absurd is
row_undelayed (OpenConfirm link timer) config t Stops wants turn taken is before = absurd is
row_undelayed (OpenConfirm link timer) config t Ceases wants turn taken is before = ap (λ (v : Turn). is_delayed v.head) is.1
row_undelayed (OpenConfirm link timer) config t RetryExpires wants turn taken is before = absurd is
row_undelayed (OpenConfirm link timer) config t HoldExpires wants turn taken is before = ap (λ (v : Turn). is_delayed v.head) is.2
row_undelayed (OpenConfirm link timer) config t SendHoldExpires wants turn taken is before = absurd is
row_undelayed (OpenConfirm link timer) config t KeepaliveExpires wants turn taken is before = ap (λ (v : Turn). is_delayed v.head) is.2
row_undelayed (OpenConfirm link timer) config t DelayExpires wants turn taken is before = absurd is
row_undelayed (OpenConfirm link timer) config t ConnectionOpens wants turn taken is before = absurd is
row_undelayed (OpenConfirm link timer) config t DelayBegins wants turn taken is before = absurd taken
row_undelayed (OpenConfirm link timer) config t ConnectionFails wants turn taken is before = ap (λ (v : Turn). is_delayed v.head) is.1
row_undelayed (OpenConfirm link timer) config t Announces wants turn taken is before = absurd is
row_undelayed (OpenConfirm link timer) config t Notes wants turn taken is before = ap (λ (v : Turn). is_delayed v.head) is.1
row_undelayed (Established link timer) config t Starts wants turn taken is before = absurd is
row_undelayed (Established link timer) config t Listens wants turn taken is before = absurd is
row_undelayed (Established link timer) config t Stops wants turn taken is before = absurd is
row_undelayed (Established link timer) config t Ceases wants turn taken is before = ap (λ (v : Turn). is_delayed v.head) is.1
row_undelayed (Established link timer) config t RetryExpires wants turn taken is before = absurd is
row_undelayed (Established link timer) config t HoldExpires wants turn taken is before = ap (λ (v : Turn). is_delayed v.head) is.2
row_undelayed (Established link timer) config t SendHoldExpires wants turn taken is before = ap (λ (v : Turn). is_delayed v.head) is.2
row_undelayed (Established link timer) config t KeepaliveExpires wants turn taken is before = ap (λ (v : Turn). is_delayed v.head) is.2
row_undelayed (Established link timer) config t DelayExpires wants turn taken is before = absurd is
row_undelayed (Established link timer) config t ConnectionOpens wants turn taken is before = absurd is
row_undelayed (Established link timer) config t DelayBegins wants turn taken is before = absurd taken
row_undelayed (Established link timer) config t ConnectionFails wants turn taken is before = ap (λ (v : Turn). is_delayed v.head) is.1
row_undelayed (Established link timer) config t Announces wants turn taken is before = ap (λ (v : Turn). is_delayed v.head) is.1
row_undelayed (Established link timer) config t Notes wants turn taken is before = ap (λ (v : Turn). is_delayed v.head) is.1

on_undelayed : (head : Head) (t : ℕ) (heard : Heard) → IsConnected head → is_delayed (going_on head t heard) ≡ false
on_undelayed Idle t heard on = absurd on
on_undelayed (Connect delay) t heard on = absurd on
on_undelayed (Active delay) t heard on = absurd on
on_undelayed (OpenSent timer) t TooShort on = refl
on_undelayed (OpenSent timer) t (ValidOpen link errors) on = refl
on_undelayed (OpenSent timer) t (FaultyHeader faults) on = refl
on_undelayed (OpenSent timer) t (InvalidOpen errors) on = refl
on_undelayed (OpenSent timer) t BadVersion on = refl
on_undelayed (OpenSent timer) t Notification on = refl
on_undelayed (OpenSent timer) t Keepalive on = refl
on_undelayed (OpenSent timer) t Update on = refl
on_undelayed (OpenConfirm own timer) t TooShort on = refl
on_undelayed (OpenConfirm own timer) t (ValidOpen link errors) on = refl
on_undelayed (OpenConfirm own timer) t (FaultyHeader faults) on = refl
on_undelayed (OpenConfirm own timer) t (InvalidOpen errors) on = refl
on_undelayed (OpenConfirm own timer) t BadVersion on = refl
on_undelayed (OpenConfirm own timer) t Notification on = refl
on_undelayed (OpenConfirm own timer) t Keepalive on = refl
on_undelayed (OpenConfirm own timer) t Update on = refl
on_undelayed (Established own timer) t TooShort on = refl
on_undelayed (Established own timer) t (ValidOpen link errors) on = refl
on_undelayed (Established own timer) t (FaultyHeader faults) on = refl
on_undelayed (Established own timer) t (InvalidOpen errors) on = refl
on_undelayed (Established own timer) t BadVersion on = refl
on_undelayed (Established own timer) t Notification on = refl
on_undelayed (Established own timer) t Keepalive on = refl
on_undelayed (Established own timer) t Update on = refl

-- what was without a delay stays so
abbrev StaysUndelayed : ℕ → Moment → List ShownRecord → Moment → Type 0
StaysUndelayed t m records e = is_delayed m.session.head ≡ false → is_delayed e.session.head ≡ false

by_itself : (speaker : Speaker) → IsKept speaker StaysUndelayed
by_itself speaker = record {
  none = λ t m before. before;
  joined = λ t m n e xs ys p q before. q (p before);
  own = λ changes t row m e records taken x before.
      ap (λ (v : Moment). is_delayed v.session.head) x.acts.leaves
      ∙ row_undelayed m.session.head speaker.config t row x.wants x.turn taken x.is before;
}

on_message : (speaker : Speaker) → IsKeptOn speaker StaysUndelayed
on_message speaker t octets m e records heard on x before =
    ap (λ (v : Moment). is_delayed v.session.head) x.4.acts.leaves
    ∙ (elim (shape_received m.session.head t octets x.0 x.1 x.4.wants x.4.turn x.4.is) [
      | inl falling ↦ elim falling.ends [
        | inl fell ↦ ap (λ (v : Turn). is_delayed v.head) fell
        | inr stayed ↦ ap (λ (v : Turn). is_delayed v.head) stayed.1
      ]
      | inr going ↦ ap (λ (h : Head). is_delayed h) going.head_after ∙ on_undelayed m.session.head t x.0 on
    ])

drives_undelayed : (s e : CoreState) (inputs : List (ℕ × InputValue)) (records : List ShownRecord) → Drives s inputs records e
    → is_delayed s.moment.session.head ≡ false → is_delayed e.moment.session.head ≡ false
drives_undelayed s e [] records x before = ap (λ (v : CoreState). is_delayed v.moment.session.head) x.1 ∙ before
drives_undelayed s e (input ∷ inputs) records x before =
    drives_undelayed x.1 e inputs x.2 x.4
    (chooses_kept s x.1 StaysUndelayed (by_itself s.speaker) (on_message s.speaker) input.1 input.0 x.0 x.3 before)

pub drive_undelayed : EachDriveIsUndelayed
drive_undelayed speaker e inputs records x = drives_undelayed (fresh_core speaker) e inputs records x refl
