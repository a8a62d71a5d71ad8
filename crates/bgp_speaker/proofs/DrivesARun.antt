-- What the core does on many inputs is a run.
use Rattle.std.proofs.Common.{◌≡◌, ℕ, List, [], ◌∷◌, inl, inr, Option, None, Some, refl, sym, ap, subst}
use Rattle.bgp_prefix.specs.Prefix.{PrefixBits}
use Rattle.bgp_prefix.specs.Shown.{ShownRecord}
use Rattle.bgp_open.specs.declared.link.Link.{Link}
use Rattle.bgp_machine.specs.declared.rows.HiddenRow.{HiddenRow}
use Rattle.bgp_machine.specs.declared.rows.HiddenRow.TheVariants.{Announces}
use Rattle.bgp_machine.specs.declared.state.Head.{Head}
use Rattle.bgp_machine.specs.declared.state.Head.TheVariants.{Idle, Connect, Active, OpenSent, OpenConfirm, Established}
use Rattle.bgp_machine.specs.Listed.{no_changes}
use Rattle.bgp_machine.specs.Run.{Run}
use Rattle.bgp_machine.specs.Step.{Hidden}
use Rattle.bgp_update.specs.Changes.{RouteChanges}
use Rattle.bgp_speaker.specs.declared.speaker.Speaker.{Speaker}
use Rattle.bgp_speaker.specs.Choosing.{Chooses, Moves, SendsAt, TakesRow}
use Rattle.bgp_speaker.specs.Core.{CoreState, InputValue, Moment, Start, Passive, Stop, Connected, Failed, Bytes, Tick, Announce, Withdraw}
use Rattle.bgp_speaker.specs.Driven.{EachDriveIsARun, EachDriveIsComplete}
use Rattle.bgp_speaker.proofs.ChosenIsAStep.{hearing_run, one_run, own_step, rests}
use Rattle.bgp_machine.proofs.JoinedRuns.{run_joined, no_steps}

row_run : (speaker : Speaker) (t : ℕ) (m e : Moment) (picked : Option HiddenRow) (records : List ShownRecord)
    → TakesRow speaker t m picked records e → Run speaker.config m.session records e.session
row_run speaker t m e None records x = rests speaker m e records x.0 x.1
row_run speaker t m e (Some row) records x = one_run speaker t (Hidden row) m e records (own_step speaker no_changes t row m e records x)

sends_run : (speaker : Speaker) (head : Head) (changes : Link → RouteChanges) (prefix : PrefixBits) (t : ℕ) (m e : Moment) (records : List ShownRecord)
    → SendsAt speaker head changes prefix t m records e → Run speaker.config m.session records e.session
sends_run speaker (Established link timer) changes prefix t m e records x = elim x [
  | inl used ↦ one_run speaker t (Hidden Announces) m e records (own_step speaker (changes link) t Announces m e records used.1)
  | inr unused ↦ rests speaker m e records unused.1 unused.2
]
sends_run speaker Idle changes prefix t m e records x = rests speaker m e records x.0 x.1
sends_run speaker (Connect d) changes prefix t m e records x = rests speaker m e records x.0 x.1
sends_run speaker (Active d) changes prefix t m e records x = rests speaker m e records x.0 x.1
sends_run speaker (OpenSent o) changes prefix t m e records x = rests speaker m e records x.0 x.1
sends_run speaker (OpenConfirm l o) changes prefix t m e records x = rests speaker m e records x.0 x.1

moves_run : (s : CoreState) (input : InputValue) (t : ℕ) (records : List ShownRecord) (e : Moment) (rest : List ℕ)
    → Moves s input t records e rest → Run s.speaker.config s.moment.session records e.session
moves_run s (Bytes octets) t records e rest x = elim x [
  | inl off ↦ rests s.speaker s.moment e records off.1 off.2
  | inr on ↦ hearing_run s.speaker s.kept t s.moment e on.1.messages records on.1.each
]
moves_run s (Announce prefix) t records e rest x = sends_run s.speaker s.moment.session.head _ prefix t s.moment e records x.0
moves_run s (Withdraw prefix) t records e rest x = elim x.0 [
  | inl kept ↦ sends_run s.speaker s.moment.session.head _ prefix t s.moment e records kept.1
  | inr other ↦ rests s.speaker s.moment e records other.1 other.2
]
moves_run s Start t records e rest x = row_run s.speaker t s.moment e x.0.0 records x.0.2
moves_run s Passive t records e rest x = row_run s.speaker t s.moment e x.0.0 records x.0.2
moves_run s Stop t records e rest x = row_run s.speaker t s.moment e x.0.0 records x.0.2
moves_run s Connected t records e rest x = row_run s.speaker t s.moment e x.0.0 records x.0.2
moves_run s Failed t records e rest x = row_run s.speaker t s.moment e x.0.0 records x.0.2
moves_run s Tick t records e rest x = row_run s.speaker t s.moment e x.0.0 records x.0.2

pub chooses_run : (s s2 : CoreState) (input : InputValue) (second : ℕ) (records : List ShownRecord) → Chooses s input second records s2
    → Run s.speaker.config s.moment.session records s2.moment.session
chooses_run s s2 input second records x =
    subst (λ (v : CoreState). Run s.speaker.config s.moment.session records v.moment.session) (sym x.3) (moves_run s input _ records x.0 x.1 x.2)

pub same_speaker : (s s2 : CoreState) (input : InputValue) (second : ℕ) (records : List ShownRecord) → Chooses s input second records s2 → s2.speaker ≡ s.speaker
same_speaker s s2 input second records x = ap (λ (v : CoreState). v.speaker) x.3

pub drives_run : EachDriveIsARun
drives_run s e [] records x =
    subst (λ (r : List ShownRecord). Run s.speaker.config s.moment.session r e.moment.session) (sym x.0)
    (subst (λ (v : CoreState). Run s.speaker.config s.moment.session [] v.moment.session) (sym x.1) (no_steps s.speaker.config s.moment.session))
drives_run s e (input ∷ inputs) records x =
    subst (λ (r : List ShownRecord). Run s.speaker.config s.moment.session r e.moment.session) (sym x.5)
    (run_joined s.speaker.config s.moment.session x.1.moment.session e.moment.session x.0 x.2
    (chooses_run s x.1 input.1 input.0 x.0 x.3)
    (subst (λ (v : Speaker). Run v.config x.1.moment.session x.2 e.moment.session) (same_speaker s x.1 input.1 input.0 x.0 x.3)
    (drives_run x.1 e inputs x.2 x.4)))

pub drives_complete : EachDriveIsComplete
drives_complete speaker e inputs records x = (e.moment.session, drives_run _ e inputs records x, refl)
