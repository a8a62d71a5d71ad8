-- Other rules of framing make the same records.
use Rattle.std.proofs.Common.{◌++◌, List, [], ◌∷◌, inl, inr, map, subst}
use Rattle.std.specs.List.{AllByRecursion}
use Rattle.bgp_recording.specs.Allowed.{Ended, Received, Sent, received_in, sent_in}
use Rattle.bgp_recording.specs.Captured.{records_of}
use Rattle.bgp_recording.specs.Changes.{are_left, is_answered_before_open, just_received, just_sent, led_by_end, led_by_left, led_by_received, led_by_sent, opened_state, state_then}
use Rattle.bgp_recording.specs.Moments.{end_moment, moment_in}
use Rattle.bgp_recording.specs.Tells.{Event, Numbered, Passed, change, items_in, numbered_in, numbered_of}
use Rattle.bgp_recording.specs.declared.entry.Entry.{Entry}
use Rattle.bgp_recording.specs.declared.framing.Framing.{Framing}
use Rattle.bgp_recording.specs.declared.framing.Unshown.{Unshown}
use Rattle.bgp_recording.specs.declared.message.Message.{Message}
use Rattle.bgp_recording.specs.declared.standing.Before.{Before}
use Rattle.bgp_recording.specs.declared.standing.Before.TheVariants.{Other}
use Rattle.bgp_recording.specs.declared.state.State.{State}
use Rattle.bgp_ended.proofs.SameMessages.{heard, said}
use Rattle.bgp_ended.specs.SameMessages.{AreShort, FindsTheSame}
use Rattle.bgp_check_text.specs.FramedAlike.{ArePlain, IsPlainRecord, RecordsAreFramedAlike}

-- ---- the messages of records

abbrev ArePlainIn : List Numbered → Type 0
ArePlainIn ns = AllByRecursion (λ n. IsPlainRecord n.shown) ns

plain_numbered : (entries : List Entry) → ArePlain (records_of entries) → ArePlainIn (map numbered_of entries)
plain_numbered [] all = tt
plain_numbered (entry ∷ entries) all = (all.0, plain_numbered entries all.1)

all_behind : (ns ms : List Numbered) → ArePlainIn (ns ++ ms) → ArePlainIn ms
all_behind [] ms all = all
all_behind (n ∷ ns) ms all = all_behind ns ms all.1

short_in : (state : State) (before : Before) (events : List Event) → ArePlainIn (numbered_in state before events) → AreShort (received_in (items_in events)) × AreShort (sent_in (items_in events))
short_in state before [] all = (tt, tt)
short_in state before (Passed second (Received m) ∷ later) all =
    let led = led_by_received state m.kind (is_answered_before_open m.kind (sent_in (items_in later))) in
    let behind = short_in (state_then state led) (just_received m.kind) later (all_behind (change (moment_in m) second state led) _ all.1) in
    ((all.0, behind.0), behind.1)
short_in state before (Passed second (Sent m) ∷ later) all =
    let led = led_by_sent state m.kind before in
    let behind = short_in (state_then state led) (just_sent state m.kind before) later (all_behind (change (moment_in m) second state led) _ all.1) in
    (behind.0, (all.0, behind.1))
short_in state before (Passed second (Ended e) ∷ later) all =
    let ended = state_then state (led_by_end state) in
    let left = led_by_left state (are_left (received_in (items_in later))) in
    short_in (state_then ended left) Other later
    (all_behind (change (end_moment e) second ended left) _ (all_behind (change (end_moment e) second state (led_by_end state)) _ all))

-- what makes the messages short is known by something else
pub found_by : {one other : Type 0} (old new : Framing) (unshown : Unshown) → (one → other)
    → FindsTheSame one old new unshown → FindsTheSame other old new unshown
found_by old new unshown is (inl same) = inl same
found_by old new unshown is (inr (inl limit, refresh, none)) = inr (inl limit, refresh, none)
found_by old new unshown is (inr (inr (long, short, few), refresh, none)) = inr (inr (long, short, is few), refresh, none)

pub framed_alike : RecordsAreFramedAlike
framed_alike old new within connection entries received sent finds also recorded =
    let told = recorded.told in
    let tells = told.tells in
    let short = λ (plain : ArePlain (records_of entries)).
    short_in (opened_state connection.opened_by) Other tells.events (subst (λ (ns : List Numbered). ArePlainIn ns) tells.shown (plain_numbered entries plain)).1 in
    record {
      told = record {
        received = told.received;
        sent = told.sent;
        heard = heard (ArePlain (records_of entries)) old.received new.received connection.received told.received received finds
            (λ plain. subst (λ (ms : List Message). AreShort ms) tells.allowed.of_received (short plain).0) told.heard;
        said = said (ArePlain (records_of entries)) old.sent new.sent connection.sent connection.end told.sent sent also
            (λ plain. subst (λ (ms : List Message). AreShort ms) tells.allowed.of_sent (short plain).1) told.said;
        tells = tells;
        seconds = told.seconds;
      };
      order = recorded.order;
    }
