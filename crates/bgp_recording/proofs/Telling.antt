-- Records that tell what is left from a state on, and one item more before them.
use Rattle.std.proofs.Common.{◌≡◌, ◌∙◌, ◌<◌, ◌≤◌, ◌+◌, ℕ, List, [], ◌∷◌, ◌++◌, Option, None, Some, IfSome, ap, sym, append_assoc, max}
use Rattle.std.specs.List.{AllByRecursion}
use Rattle.bgp_prefix.specs.Shown as shown
use Rattle.bgp_recording.specs.declared.message.Message.{Message}
use Rattle.bgp_recording.specs.declared.standing.Before.{Before}
use Rattle.bgp_recording.specs.declared.standing.Before.TheVariants.{Other}
use Rattle.bgp_recording.specs.declared.state.State.{State}
use Rattle.bgp_recording.specs.declared.pending.Moment.{Moment}
use Rattle.streams.specs.declared.connection.End.{End}
use Rattle.streams.specs.declared.passed.Side.TheVariants.{Local}
use Rattle.bgp_recording.specs.Allowed.{Received, Sent, Ended, IsAllowed}
use Rattle.bgp_recording.specs.Changes.{led_by_received, led_by_sent, led_by_end, led_by_left, is_answered_before_open, just_received, just_sent, are_left, state_then}
use Rattle.bgp_recording.specs.Tells.{Numbered, Event, Passed, items_in, AreTimed, numbered_with, numbered_in, change}
use Rattle.bgp_recording.specs.Moments.{end_moment, moment_in}
use Rattle.bgp_recording.proofs.Orders.{allowed_received, allowed_sent, allowed_end}

-- These records are those of an allowed order of what is left, from this state on, after this second.
pub record Follows
    (within least : ℕ) (state : State) (before : Before) (received sent : List Message) (end : Option End) (numbered : List Numbered)
    : Type 0 where
  pub events : List Event
  pub allowed : IsAllowed within received sent end (items_in events)
  pub timed : AreTimed least events
  pub shown : numbered_in state before events ≡ numbered

pub follows_received : (within least second : ℕ) (state : State) (before : Before) (r : Message) (rs ss : List Message) (end : Option End) (rest : List Numbered)
    → AllByRecursion (λ s. r.packet < s.packet) ss → IfSome end (λ e. e.side ≡ Local → r.packet ≤ e.packet) → least ≤ second → second ≡ max r.second least
    → Follows within second (state_then state (led_by_received state r.kind (is_answered_before_open r.kind ss))) (just_received r.kind) rs ss end rest
    → Follows within least state before (r ∷ rs) ss end
    (numbered_with (moment_in r) (shown.Received second r.octets.now) ∷ (change (moment_in r) second state (led_by_received state r.kind (is_answered_before_open r.kind ss)) ++ rest))
follows_received within least second state before r rs ss end rest ahead ended le at h = record {
  events = Passed second (Received r) ∷ h.events;
  allowed = allowed_received within r rs ss end _ ahead ended h.allowed;
  timed = (le, at, h.timed);
  shown =
      ap (λ (xs : List Message). numbered_with (moment_in r) (shown.Received second r.octets.now) ∷ (change (moment_in r) second state (led_by_received state r.kind (is_answered_before_open r.kind xs))
      ++ numbered_in (state_then state (led_by_received state r.kind (is_answered_before_open r.kind xs))) (just_received r.kind) h.events)) h.allowed.of_sent
      ∙ ap (λ ns. numbered_with (moment_in r) (shown.Received second r.octets.now) ∷ (change (moment_in r) second state (led_by_received state r.kind (is_answered_before_open r.kind ss)) ++ ns)) h.shown;
}

pub follows_sent : (within least second : ℕ) (state : State) (before : Before) (s : Message) (rs ss : List Message) (end : Option End) (rest : List Numbered)
    → AllByRecursion (λ r. s.second ≤ r.second + within) rs → least ≤ second → second ≡ s.second
    → Follows within second (state_then state (led_by_sent state s.kind before)) (just_sent state s.kind before) rs ss end rest
    → Follows within least state before rs (s ∷ ss) end
    (numbered_with (moment_in s) (shown.Sent second s.octets.now) ∷ (change (moment_in s) second state (led_by_sent state s.kind before) ++ rest))
follows_sent within least second state before s rs ss end rest in_time le at h = record {
  events = Passed second (Sent s) ∷ h.events;
  allowed = allowed_sent within s rs ss end _ in_time h.allowed;
  timed = (le, at, h.timed);
  shown = ap (λ ns. numbered_with (moment_in s) (shown.Sent second s.octets.now) ∷ (change (moment_in s) second state (led_by_sent state s.kind before) ++ ns)) h.shown;
}

-- the state after the end, where these received messages are left
abbrev pub ended_with : State → List Message → State
ended_with state left = state_then (state_then state (led_by_end state)) (led_by_left state (are_left left))

-- and its changes
abbrev pub changes_at_end : Moment → ℕ → State → List Message → List Numbered
changes_at_end moment second state left =
    change moment second state (led_by_end state) ++ change moment second (state_then state (led_by_end state)) (led_by_left state (are_left left))

pub follows_end : (within least second : ℕ) (state : State) (before : Before) (e : End) (rs : List Message) (rest : List Numbered)
    → AllByRecursion (λ r. e.second ≤ r.second + within) rs → least ≤ second → second ≡ max e.second least
    → Follows within second (ended_with state rs) Other rs [] None rest
    → Follows within least state before rs [] (Some e) (changes_at_end (end_moment e) second state rs ++ rest)
follows_end within least second state before e rs rest in_time le at h = record {
  events = Passed second (Ended e) ∷ h.events;
  allowed = allowed_end within e rs _ in_time h.allowed;
  timed = (le, at, h.timed);
  shown =
      ap (λ (xs : List Message). change (end_moment e) second state (led_by_end state)
      ++ (change (end_moment e) second (state_then state (led_by_end state)) (led_by_left state (are_left xs)) ++ numbered_in (ended_with state xs) Other h.events)) h.allowed.of_received
      ∙ sym (append_assoc (change (end_moment e) second state (led_by_end state)) (change (end_moment e) second (state_then state (led_by_end state)) (led_by_left state (are_left rs))) (numbered_in (ended_with state rs) Other h.events))
      ∙ ap (λ ns. changes_at_end (end_moment e) second state rs ++ ns) h.shown;
}
