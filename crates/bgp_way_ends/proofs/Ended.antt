-- The state in which a way with an end of the connection ends.
use Rattle.std.proofs.Common.{◌≡◌, ◌∙◌, ◌⊎◌, ◌++◌, ℕ, true, false, List, [], ◌∷◌, Option, None, Some, inl, inr, refl, sym, ap, map}
use Rattle.std.specs.List.{AllByRecursion}
use Rattle.streams.specs.declared.connection.End.{End}
use Rattle.bgp_wire.specs.declared.header.MessageType.{MessageType}
use Rattle.bgp_wire.specs.declared.header.MessageType.TheVariants as types
use Rattle.bgp_recording.specs.declared.message.Message.{Message}
use Rattle.bgp_recording.specs.declared.standing.Before.{Before as Standing}
use Rattle.bgp_recording.specs.declared.standing.Before.TheVariants.{Other}
use Rattle.bgp_recording.specs.declared.state.State.{State}
use Rattle.bgp_recording.specs.declared.state.State.TheVariants.{Idle, Connect, Active, OpenSent, OpenConfirm, Established}
use Rattle.bgp_recording.specs.Allowed.{EachMayPrecede, Ended, MayPrecede, Received, Sent, ends_in, received_in, sent_in}
use Rattle.bgp_recording.specs.Changes.{are_left, is_answered_before_open, just_received, just_sent, led_by_received, led_by_sent, state_then}
use Rattle.bgp_recording.specs.Tells.{Event, Passed, items_in}
use Rattle.bgp_orders.specs.Ways.{state_after_end}
use Rattle.bgp_way_ends.proofs.OneState.{final_in}

abbrev pub kinds_of : List Message → List (Option MessageType)
kinds_of messages = map (λ (m : Message). m.kind) messages

no_message : {X : Type 0} (m : Message) (ms : List Message) → m ∷ ms ≡ [] → X
no_message m ms e = absurd (let k : ⊥ = cc in k)

no_end : {X : Type 0} (e : End) (es : List End) → e ∷ es ≡ [] → X
no_end e es none = absurd (let k : ⊥ = cc in k)

end_needed : {X : Type 0} (x : End) → [] ≡ x ∷ [] → X
end_needed x e = absurd (let k : ⊥ = cc in k)

no_more : (y x : End) (es : List End) → y ∷ es ≡ x ∷ [] → es ≡ []
no_more y x es e = cc

-- ---- Idle or Active

after_left : (state : State) → state_after_end state true ≡ Idle
after_left Idle = refl
after_left Connect = refl
after_left Active = refl
after_left OpenSent = refl
after_left OpenConfirm = refl
after_left Established = refl

abbrev pub IsAnEnd : State → Type 0
IsAnEnd state = (state ≡ Idle) ⊎ (state ≡ Active)

after_none : (state : State) → IsAnEnd (state_after_end state false)
after_none Idle = inl refl
after_none Connect = inl refl
after_none Active = inl refl
after_none OpenSent = inr refl
after_none OpenConfirm = inl refl
after_none Established = inl refl

idle_final : (before : Standing) (events : List Event) → final_in Idle before events ≡ Idle
idle_final before [] = refl
idle_final before (Passed second (Received m) ∷ later) = idle_final (just_received m.kind) later
idle_final before (Passed second (Sent m) ∷ later) = idle_final (just_sent Idle m.kind before) later
idle_final before (Passed second (Ended e) ∷ later) = idle_final Other later

behind_end : (within : ℕ) (state : State) (e : End) (later : List Event) → AllByRecursion (MayPrecede within (Ended e)) (items_in later) → ends_in (items_in later) ≡ []
    → IsAnEnd (final_in (state_after_end state (are_left (received_in (items_in (later ++ []))))) Other later)
behind_end within state e [] may none = after_none state
behind_end within state e (Passed second (Received m) ∷ later) may none =
    inl (ap (λ (s : State). final_in s Other (Passed second (Received m) ∷ later)) (after_left state) ∙ idle_final Other (Passed second (Received m) ∷ later))
behind_end within state e (Passed second (Sent m) ∷ later) may none = absurd may.0
behind_end within state e (Passed second (Ended x) ∷ later) may none = no_end x (ends_in (items_in later)) none

pub ended_final : (within : ℕ) (state : State) (before : Standing) (events : List Event) (x : End) → ends_in (items_in events) ≡ x ∷ [] → EachMayPrecede within (items_in events)
    → IsAnEnd (final_in state before events)
ended_final within state before [] x ends may = end_needed x ends
ended_final within state before (Passed second (Received m) ∷ later) x ends may =
    let led = led_by_received state m.kind (is_answered_before_open m.kind (sent_in (items_in (later ++ [])))) in
    ended_final within (state_then state led) (just_received m.kind) later x ends may.1
ended_final within state before (Passed second (Sent m) ∷ later) x ends may =
    ended_final within (state_then state (led_by_sent state m.kind before)) (just_sent state m.kind before) later x ends may.1
ended_final within state before (Passed second (Ended e) ∷ later) x ends may = behind_end within state e later may.0 (no_more e x (ends_in (items_in later)) ends)

-- ---- where nothing is received

-- the state after such messages are sent, and then the end
abbrev pub sent_final : State → Standing → List (Option MessageType) → State
sent_final state before [] = state_after_end state false
sent_final state before (kind ∷ kinds) = sent_final (state_then state (led_by_sent state kind before)) (just_sent state kind before) kinds

only_end : (within : ℕ) (state : State) (before : Standing) (e : End) (later : List Event) → received_in (items_in later) ≡ [] → AllByRecursion (MayPrecede within (Ended e)) (items_in later)
    → ends_in (items_in later) ≡ []
    → final_in (state_after_end state (are_left (received_in (items_in (later ++ []))))) Other later ≡ sent_final state before (kinds_of (sent_in (items_in later)))
only_end within state before e [] rs may none = refl
only_end within state before e (Passed second (Received m) ∷ later) rs may none = no_message m (received_in (items_in later)) rs
only_end within state before e (Passed second (Sent m) ∷ later) rs may none = absurd may.0
only_end within state before e (Passed second (Ended x) ∷ later) rs may none = no_end x (ends_in (items_in later)) none

pub only_sent : (within : ℕ) (state : State) (before : Standing) (events : List Event) (x : End) → received_in (items_in events) ≡ [] → ends_in (items_in events) ≡ x ∷ []
    → EachMayPrecede within (items_in events) → final_in state before events ≡ sent_final state before (kinds_of (sent_in (items_in events)))
only_sent within state before [] x rs ends may = end_needed x ends
only_sent within state before (Passed second (Received m) ∷ later) x rs ends may = no_message m (received_in (items_in later)) rs
only_sent within state before (Passed second (Sent m) ∷ later) x rs ends may =
    only_sent within (state_then state (led_by_sent state m.kind before)) (just_sent state m.kind before) later x rs ends may.1
only_sent within state before (Passed second (Ended e) ∷ later) x rs ends may = only_end within state before e later rs may.0 (no_more e x (ends_in (items_in later)) ends)

-- from either state in which a session may begin
from_either : (kinds : List (Option MessageType)) → sent_final Connect Other kinds ≡ sent_final Active Other kinds
from_either [] = refl
from_either (None ∷ kinds) = from_either kinds
from_either (Some types.Open ∷ kinds) = refl
from_either (Some types.Update ∷ kinds) = from_either kinds
from_either (Some types.Notification ∷ kinds) = refl
from_either (Some types.Keepalive ∷ kinds) = from_either kinds

abbrev pub Begins : State → Type 0
Begins state = (state ≡ Connect) ⊎ (state ≡ Active)

as_connect : (state : State) (kinds : List (Option MessageType)) → Begins state → sent_final state Other kinds ≡ sent_final Connect Other kinds
as_connect state kinds (inl e) = ap (λ (s : State). sent_final s Other kinds) e
as_connect state kinds (inr e) = ap (λ (s : State). sent_final s Other kinds) e ∙ sym (from_either kinds)

pub from_both : (one other : State) (kinds : List (Option MessageType)) → Begins one → Begins other → sent_final one Other kinds ≡ sent_final other Other kinds
from_both one other kinds a b = as_connect one kinds a ∙ sym (as_connect other kinds b)
