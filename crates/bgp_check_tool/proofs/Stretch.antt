-- The records that are made of a connection are a stretch: the first leaves Idle, and no other does.
use Rattle.std.proofs.Common.{◌≡◌, ◌≢◌, ◌++◌, ◌∙◌, ℕ, Bool, List, [], ◌∷◌, Option, None, Some, map, refl, sym, ap, subst, arith}
use Rattle.bgp_prefix.specs.Shown.{ShownRecord}
use Rattle.bgp_machine.specs.Lists.{Each}
use Rattle.mrt.specs.Reader.{shown_of}
use Rattle.streams.specs.declared.connection.Connection.{Connection}
use Rattle.streams.specs.declared.passed.Side.{Side}
use Rattle.streams.specs.declared.passed.Side.TheVariants.{Local, Peer}
use Rattle.bgp_wire.specs.declared.header.MessageType.{MessageType}
use Rattle.bgp_recording.specs.Allowed.{Ended, Received, Sent, received_in, sent_in}
use Rattle.bgp_recording.specs.Captured.{records_of}
use Rattle.bgp_recording.specs.Changes.{are_left, is_answered_before_open, just_received, just_sent, led_by_end, led_by_left, led_by_received, led_by_sent, opened_state, state_then}
use Rattle.bgp_recording.specs.Recorded.{IsRecorded}
use Rattle.bgp_recording.specs.States.{state_number}
use Rattle.bgp_recording.specs.declared.pending.Moment.{Moment}
use Rattle.bgp_recording.specs.Moments.{end_moment, moment_in}
use Rattle.bgp_recording.specs.Tells.{Event, Numbered, Passed, change, items_in, numbered_in, numbered_of}
use Rattle.bgp_recording.specs.declared.entry.Entry.{Entry}
use Rattle.bgp_recording.specs.declared.framing.Framings.{Framings}
use Rattle.bgp_recording.specs.declared.framing.Unshown.{Unshown}
use Rattle.bgp_recording.specs.declared.standing.Before.{Before}
use Rattle.bgp_recording.specs.declared.standing.Before.TheVariants.{Other}
use Rattle.bgp_recording.specs.declared.state.State.{State}
use Rattle.bgp_recording.specs.declared.state.State.TheVariants.{Active, Connect, Established, Idle, OpenConfirm, OpenSent}
use Rattle.bgp_check.specs.Stretch.{AtMostTheLastLeaves, IsStretch, LeavesIdle}

each_append : (xs ys : List Numbered) → Each (λ n. ¬ LeavesIdle n.shown) xs → Each (λ n. ¬ LeavesIdle n.shown) ys → Each (λ n. ¬ LeavesIdle n.shown) (xs ++ ys)
each_append [] ys p q = q
each_append (x ∷ xs) ys p q = (p.0, each_append xs ys p.1 q)

not_idle : (moment : Moment) (second : ℕ) (state : State) (led : Option State) → state_number state ≢ 1 → Each (λ n. ¬ LeavesIdle n.shown) (change moment second state led)
not_idle moment second state None some = tt
not_idle moment second state (Some led) some = (λ leaves. some leaves.0, tt)

-- ---- the changes to which messages and the end lead

pub by_received : (moment : Moment) (second : ℕ) (state : State) (kind : Option MessageType) (answered : Bool)
    → Each (λ n. ¬ LeavesIdle n.shown) (change moment second state (led_by_received state kind answered))
by_received moment second Idle kind answered = tt
by_received moment second Connect kind answered = not_idle moment second Connect (led_by_received Connect kind answered) (λ e. omega (arith, e))
by_received moment second Active kind answered = not_idle moment second Active (led_by_received Active kind answered) (λ e. omega (arith, e))
by_received moment second OpenSent kind answered = not_idle moment second OpenSent (led_by_received OpenSent kind answered) (λ e. omega (arith, e))
by_received moment second OpenConfirm kind answered = not_idle moment second OpenConfirm (led_by_received OpenConfirm kind answered) (λ e. omega (arith, e))
by_received moment second Established kind answered = not_idle moment second Established (led_by_received Established kind answered) (λ e. omega (arith, e))

pub by_sent : (moment : Moment) (second : ℕ) (state : State) (kind : Option MessageType) (before : Before)
    → Each (λ n. ¬ LeavesIdle n.shown) (change moment second state (led_by_sent state kind before))
by_sent moment second Idle kind before = tt
by_sent moment second Connect kind before = not_idle moment second Connect (led_by_sent Connect kind before) (λ e. omega (arith, e))
by_sent moment second Active kind before = not_idle moment second Active (led_by_sent Active kind before) (λ e. omega (arith, e))
by_sent moment second OpenSent kind before = not_idle moment second OpenSent (led_by_sent OpenSent kind before) (λ e. omega (arith, e))
by_sent moment second OpenConfirm kind before = not_idle moment second OpenConfirm (led_by_sent OpenConfirm kind before) (λ e. omega (arith, e))
by_sent moment second Established kind before = not_idle moment second Established (led_by_sent Established kind before) (λ e. omega (arith, e))

pub by_end : (moment : Moment) (second : ℕ) (state : State) → Each (λ n. ¬ LeavesIdle n.shown) (change moment second state (led_by_end state))
by_end moment second Idle = tt
by_end moment second Connect = not_idle moment second Connect (led_by_end Connect) (λ e. omega (arith, e))
by_end moment second Active = not_idle moment second Active (led_by_end Active) (λ e. omega (arith, e))
by_end moment second OpenSent = not_idle moment second OpenSent (led_by_end OpenSent) (λ e. omega (arith, e))
by_end moment second OpenConfirm = not_idle moment second OpenConfirm (led_by_end OpenConfirm) (λ e. omega (arith, e))
by_end moment second Established = not_idle moment second Established (led_by_end Established) (λ e. omega (arith, e))

pub by_left : (moment : Moment) (second : ℕ) (state : State) (left : Bool)
    → Each (λ n. ¬ LeavesIdle n.shown) (change moment second (state_then state (led_by_end state)) (led_by_left state left))
by_left moment second Idle left = tt
by_left moment second Connect left = tt
by_left moment second Active left = tt
by_left moment second OpenSent left = not_idle moment second Active (led_by_left OpenSent left) (λ e. omega (arith, e))
by_left moment second OpenConfirm left = tt
by_left moment second Established left = tt

-- ---- the records

none_leaves : (state : State) (before : Before) (events : List Event) → Each (λ n. ¬ LeavesIdle n.shown) (numbered_in state before events)
none_leaves state before [] = tt
none_leaves state before (Passed second (Received m) ∷ later) =
    let answered = is_answered_before_open m.kind (sent_in (items_in later)) in
    let led = led_by_received state m.kind answered in (
      λ leaves. leaves,
      each_append (change (moment_in m) second state led) (numbered_in (state_then state led) (just_received m.kind) later)
          (by_received (moment_in m) second state m.kind answered) (none_leaves (state_then state led) (just_received m.kind) later),
    )
none_leaves state before (Passed second (Sent m) ∷ later) =
    let led = led_by_sent state m.kind before in (
      λ leaves. leaves,
      each_append (change (moment_in m) second state led) (numbered_in (state_then state led) (just_sent state m.kind before) later)
          (by_sent (moment_in m) second state m.kind before) (none_leaves (state_then state led) (just_sent state m.kind before) later),
    )
none_leaves state before (Passed second (Ended e) ∷ later) =
    let ended = state_then state (led_by_end state) in
    let more = are_left (received_in (items_in later)) in
    let left = led_by_left state more in
    each_append (change (end_moment e) second state (led_by_end state)) (change (end_moment e) second ended left ++ numbered_in (state_then ended left) Other later)
    (by_end (end_moment e) second state)
    (each_append (change (end_moment e) second ended left) (numbered_in (state_then ended left) Other later) (by_left (end_moment e) second state more)
    (none_leaves (state_then ended left) Other later))

at_most : (ns : List Numbered) → Each (λ n. ¬ LeavesIdle n.shown) ns → AtMostTheLastLeaves (map (λ (n : Numbered). n.shown) ns)
at_most [] each = tt
at_most (n ∷ []) each = tt
at_most (n ∷ next ∷ ns) each = (each.0, at_most (next ∷ ns) each.1)

opens : (side : Side) → state_number (opened_state side) ≢ 1
opens Local = λ e. omega (arith, e)
opens Peer = λ e. omega (arith, e)

same_records : (entries : List Entry) → map (λ (n : Numbered). n.shown) (map numbered_of entries) ≡ records_of entries
same_records [] = refl
same_records (e ∷ entries) = ap (λ (rest : List ShownRecord). shown_of e.record ∷ rest) (same_records entries)

pub stretch_of : (framings : Framings) (within : ℕ) (connection : Connection) (entries : List Entry) (received_unshown sent_unshown : Unshown)
    → IsRecorded framings within connection entries received_unshown sent_unshown → IsStretch (records_of entries)
stretch_of framings within connection entries received_unshown sent_unshown recorded =
    let t = recorded.tells in
    let rest = numbered_in (opened_state connection.opened_by) Other t.events in
    subst (λ (records : List ShownRecord). IsStretch records)
    (ap (λ (ns : List Numbered). map (λ (n : Numbered). n.shown) ns) (sym t.shown) ∙ same_records entries)
    ((refl, opens connection.opened_by), at_most rest (none_leaves (opened_state connection.opened_by) Other t.events))
