-- Each step that the core takes is one of the session machine's.
use Rattle.std.proofs.Common.{◌≡◌, ℕ, List, [], ◌∷◌, ◌++◌, inl, inr, Option, None, Some, map, refl, sym, ap, subst, ◌∙◌, append-nil}
use Rattle.bgp_prefix.specs.Prefix.{PrefixBits}
use Rattle.bgp_prefix.specs.Shown.{ShownRecord, Sent}
use Rattle.bgp_open.specs.declared.config.Config.{Config}
use Rattle.bgp_open.specs.declared.link.Link.{Link}
use Rattle.bgp_machine.specs.declared.fsm.Fsm.{Fsm}
use Rattle.bgp_machine.specs.declared.rows.HiddenRow.TheVariants.{Announces}
use Rattle.bgp_machine.specs.declared.state.Head.{Head}
use Rattle.bgp_machine.specs.declared.state.Head.TheVariants.{Idle, Connect, Active, OpenSent, OpenConfirm, Established}
use Rattle.bgp_machine.specs.declared.want.Want.{Want}
use Rattle.bgp_machine.specs.Run.{Run}
use Rattle.bgp_machine.specs.Shows.{PaysAll, Shows}
use Rattle.bgp_machine.specs.State.{Turn, fsm_of, link_at, moved}
use Rattle.bgp_machine.specs.Step.{Event, Hidden, Received, Row, change_of}
use Rattle.bgp_update.specs.Changes.{RouteChanges}
use Rattle.bgp_speaker.specs.declared.speaker.Speaker.{Speaker}
use Rattle.bgp_speaker.specs.Core.{Moment}
use Rattle.bgp_speaker.specs.Choice.{Takes, GreetsAt, AnnouncesEach, shown_by, change_records, type_in, used}
use Rattle.bgp_speaker.specs.Laws.{IsOneStep, EachOwnStepIsTheMachines, EachStepOnAMessageIsTheMachines, HearingIsARun}
use Rattle.bgp_speaker.specs.Said.{announced}
use Rattle.bgp_machine.proofs.JoinedRuns.{run_joined, no_steps}
use Rattle.bgp_speaker.proofs.SaidIsMeant.{pays_each}

shows_by : (config : Config) (link : Option Link) (event : Event) (t : ℕ) (wants : List Want) (messages : List (List ℕ)) (change : Option (Fsm × Fsm))
    → PaysAll config link wants change (map (λ (octets : List ℕ). Sent t octets) messages ++ change_records t change)
    → Shows config link event t wants change (shown_by event t messages change)
shows_by config link (Received octets) t wants messages change pays = (refl, pays)
shows_by config link (Hidden row) t wants [] None pays = pays
shows_by config link (Hidden row) t wants [] (Some change) pays = (refl, pays)
shows_by config link (Hidden row) t wants (octets ∷ messages) change pays = (refl, pays)

takes_step : (speaker : Speaker) (changes : RouteChanges) (t : ℕ) (event : Event) (Is : List Want → Turn → Type 0) (m after : Moment) (records : List ShownRecord)
    → ((wants : List Want) (turn : Turn) → Is wants turn → Row m.session.head speaker.config t event wants turn)
    → Takes speaker changes t event Is m records after → IsOneStep speaker t event m records after
takes_step speaker changes t event Is m after records row x = record {
  taken = record {
    before = m.session;
    second = t;
    event = event;
    wants = x.wants;
    after = moved m.session x.turn;
    shown = shown_by event t x.messages (change_of event (fsm_of m.session.head) (fsm_of x.turn.head));
  };
  is_taken = record {
    step = (x.turn, row x.wants x.turn x.is, refl);
    shows = shows_by speaker.config (link_at m.session.head) event t x.wants x.messages (change_of event (fsm_of m.session.head) (fsm_of x.turn.head))
        (pays_each speaker (link_at m.session.head) (type_in event) changes t (change_of event (fsm_of m.session.head) (fsm_of x.turn.head)) x.wants x.messages x.acts.says);
  };
  before = refl;
  second = refl;
  event_is = refl;
  after_is = sym (ap (λ (v : Moment). v.session) x.acts.leaves);
  shown = sym x.shows;
}

pub own_step : EachOwnStepIsTheMachines
own_step speaker changes t row m after records x = takes_step speaker changes t (Hidden row) _ m after records (λ wants turn i. i) x

pub step_on : EachStepOnAMessageIsTheMachines
step_on speaker t octets m after records x =
    takes_step speaker _ t (Received octets) _ m after records (λ wants turn i. (x.0, x.1, x.2, i)) x.4

-- ---- runs

pub one_run : (speaker : Speaker) (t : ℕ) (event : Event) (m after : Moment) (records : List ShownRecord)
    → IsOneStep speaker t event m records after → Run speaker.config m.session records after.session
one_run speaker t event m after records x = record {
  steps = x.taken ∷ [];
  are_steps = (x.before, x.is_taken, x.after_is);
  shows = append-nil x.taken.shown ∙ x.shown;
}

pub rests : (speaker : Speaker) (m e : Moment) (records : List ShownRecord) → records ≡ [] → e ≡ m → Run speaker.config m.session records e.session
rests speaker m e records none same =
    subst (λ (r : List ShownRecord). Run speaker.config m.session r e.session) (sym none)
    (subst (λ (v : Moment). Run speaker.config m.session [] v.session) (sym same) (no_steps speaker.config m.session))

pub announces_run : (speaker : Speaker) (t : ℕ) (link : Link) (m e : Moment) (prefixes : List PrefixBits) (records : List ShownRecord)
    → AnnouncesEach speaker t link m prefixes records e → Run speaker.config m.session records e.session
announces_run speaker t link m e [] records x = rests speaker m e records x.0 x.1
announces_run speaker t link m e (prefix ∷ prefixes) records x =
    subst (λ (r : List ShownRecord). Run speaker.config m.session r e.session) (sym x.5)
    (run_joined speaker.config m.session x.1.session e.session x.0 x.2
    (one_run speaker t (Hidden Announces) m x.1 x.0 (own_step speaker (announced speaker link prefix) t Announces m x.1 x.0 x.3))
    (announces_run speaker t link x.1 e prefixes x.2 x.4))

greets_run : (speaker : Speaker) (kept : List PrefixBits) (t : ℕ) (old new : Head) (m e : Moment) (records : List ShownRecord)
    → GreetsAt speaker kept t old new m records e → Run speaker.config m.session records e.session
greets_run speaker kept t (OpenConfirm own timer) (Established link other) m e records x = announces_run speaker t link m e (used link kept) records x
greets_run speaker kept t Idle new m e records x = rests speaker m e records x.0 x.1
greets_run speaker kept t (Connect d) new m e records x = rests speaker m e records x.0 x.1
greets_run speaker kept t (Active d) new m e records x = rests speaker m e records x.0 x.1
greets_run speaker kept t (OpenSent timer) new m e records x = rests speaker m e records x.0 x.1
greets_run speaker kept t (Established l timer) new m e records x = rests speaker m e records x.0 x.1
greets_run speaker kept t (OpenConfirm own timer) Idle m e records x = rests speaker m e records x.0 x.1
greets_run speaker kept t (OpenConfirm own timer) (Connect d) m e records x = rests speaker m e records x.0 x.1
greets_run speaker kept t (OpenConfirm own timer) (Active d) m e records x = rests speaker m e records x.0 x.1
greets_run speaker kept t (OpenConfirm own timer) (OpenSent o) m e records x = rests speaker m e records x.0 x.1
greets_run speaker kept t (OpenConfirm own timer) (OpenConfirm l o) m e records x = rests speaker m e records x.0 x.1

pub hearing_run : HearingIsARun
hearing_run speaker kept t m e [] records x = rests speaker m e records x.0 x.1
hearing_run speaker kept t m e (octets ∷ messages) records x = elim x [
  | inl idle ↦ rests speaker m e records idle.1 idle.2
  | inr on ↦
      let first = on.1 in
      let between = on.2 in
      let greeting = on.3 in
      let greeted = on.4 in
      let others = on.5 in
      subst (λ (r : List ShownRecord). Run speaker.config m.session r e.session) (sym on.9)
      (run_joined speaker.config m.session between.session e.session first (greeting ++ others)
      (one_run speaker t (Received octets) m between first (step_on speaker t octets m between first on.6))
      (run_joined speaker.config between.session greeted.session e.session greeting others
      (greets_run speaker kept t m.session.head between.session.head between greeted greeting on.7)
      (hearing_run speaker kept t greeted e messages others on.8)))
]
