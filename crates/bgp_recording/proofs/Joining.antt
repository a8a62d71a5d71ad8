-- The messages of the made records, joined, and what is left, are the streams.
use Rattle.std.proofs.Common.{◌≡◌, ◌∙◌, ℕ, List, [], ◌∷◌, Option, None, Some, ◌++◌, length, drop, ap, subst, sym, refl, arith, append_assoc}
use Rattle.std.proofs.lemmas.List.{take-append-drop, length-append, length-take}
use Rattle.std.specs.List.{AllByRecursion}
use Rattle.bgp_prefix.specs.Shown.{ShownRecord}
use Rattle.bgp_wire.specs.Framing.{joined}
use Rattle.bgp_wire.specs.Header.{header_of}
use Rattle.bgp_recording.specs.declared.framing.Framing.{Framing}
use Rattle.bgp_recording.specs.declared.framing.Rest.{Rest}
use Rattle.bgp_recording.specs.declared.framing.Rest.TheVariants.{Short, BehindFault}
use Rattle.bgp_recording.specs.declared.framing.Unshown.{Unshown}
use Rattle.bgp_recording.specs.declared.message.Message.{Message}
use Rattle.bgp_recording.specs.declared.standing.Before.{Before}
use Rattle.bgp_recording.specs.declared.standing.Before.TheVariants.{Other}
use Rattle.bgp_recording.specs.declared.state.State.{State}
use Rattle.bgp_recording.specs.declared.pending.Moment.{Moment}
use Rattle.bgp_recording.specs.Allowed.{Received, Sent, Ended, received_in, sent_in}
use Rattle.bgp_recording.specs.Captured.{records_of}
use Rattle.bgp_recording.specs.Changes.{led_by_received, led_by_sent, led_by_end, led_by_left, is_answered_before_open, just_received, just_sent, are_left, opened_state, state_then}
use Rattle.bgp_recording.specs.Framed.{octets_of, AreFramed, IsRest}
use Rattle.bgp_recording.specs.Joined.{received_octets, sent_octets, IsLeft, IsWhole, MayStand, MadeRecordsAreTheStreams}
use Rattle.bgp_recording.specs.Pieces.{Piece, Kept, PassedOver, stream_of, passed_over, IsPiece}
use Rattle.bgp_recording.specs.Tells.{Numbered, Event, Passed, items_in, numbered_in, change, opening}
use Rattle.bgp_recording.specs.Moments.{end_moment, first_moment, moment_in}
use Rattle.bgp_recording.proofs.Capturing.{shown_in, entries_are}
use Rattle.bgp_recording.proofs.Lists.{all_append, all_weaker}
use Rattle.bgp_recording.proofs.Pieces.{stream_on, kept_on, passed_on}

abbrev messages_joined : List Message → List ℕ
messages_joined messages = joined (octets_of messages)

-- a change has no octets
received_change : (moment : Moment) (second : ℕ) (state : State) (led : Option State) (rest : List Numbered)
    → received_octets (shown_in (change moment second state led ++ rest)) ≡ received_octets (shown_in rest)
received_change moment second state None rest = refl
received_change moment second state (Some led) rest = refl

sent_change : (moment : Moment) (second : ℕ) (state : State) (led : Option State) (rest : List Numbered) → sent_octets (shown_in (change moment second state led ++ rest)) ≡ sent_octets (shown_in rest)
sent_change moment second state None rest = refl
sent_change moment second state (Some led) rest = refl

received_are : (events : List Event) (state : State) (before : Before) → received_octets (shown_in (numbered_in state before events)) ≡ messages_joined (received_in (items_in events))
received_are [] state before = refl
received_are (Passed second (Received m) ∷ later) state before =
    ap (λ (os : List ℕ). m.octets.now ++ os) (received_change (moment_in m) second state (led_by_received state m.kind (is_answered_before_open m.kind (sent_in (items_in later)))) _ ∙ received_are later _ (just_received m.kind))
received_are (Passed second (Sent m) ∷ later) state before = received_change (moment_in m) second state (led_by_sent state m.kind before) _ ∙ received_are later _ (just_sent state m.kind before)
received_are (Passed second (Ended e) ∷ later) state before =
    received_change (end_moment e) second state (led_by_end state) _
    ∙ received_change (end_moment e) second (state_then state (led_by_end state)) (led_by_left state (are_left (received_in (items_in later)))) _ ∙ received_are later _ Other

sent_are : (events : List Event) (state : State) (before : Before) → sent_octets (shown_in (numbered_in state before events)) ≡ messages_joined (sent_in (items_in events))
sent_are [] state before = refl
sent_are (Passed second (Received m) ∷ later) state before =
    sent_change (moment_in m) second state (led_by_received state m.kind (is_answered_before_open m.kind (sent_in (items_in later)))) _ ∙ sent_are later _ (just_received m.kind)
sent_are (Passed second (Sent m) ∷ later) state before =
    ap (λ (os : List ℕ). m.octets.now ++ os) (sent_change (moment_in m) second state (led_by_sent state m.kind before) _ ∙ sent_are later _ (just_sent state m.kind before))
sent_are (Passed second (Ended e) ∷ later) state before =
    sent_change (end_moment e) second state (led_by_end state) _
    ∙ sent_change (end_moment e) second (state_then state (led_by_end state)) (led_by_left state (are_left (received_in (items_in later)))) _ ∙ sent_are later _ Other

-- what is a piece may stand
may_stand : (framing : Framing) (p : Piece) → IsPiece framing p → MayStand framing p
may_stand framing (Kept octets) h = tt
may_stand framing (PassedOver octets) h = h

all_may : (framing : Framing) (pieces : List Piece) → AllByRecursion (IsPiece framing) pieces → AllByRecursion (MayStand framing) pieces
all_may framing pieces h = all_weaker (IsPiece framing) (MayStand framing) (may_stand framing) pieces h

whole_by : (framing : Framing) (stream left : List ℕ) (pieces : List Piece) (messages : List Message) (unshown : Unshown) (rest : Rest) → rest ≡ unshown.rest → stream ≡ stream_of pieces ++ left
    → AllByRecursion (IsPiece framing) pieces → unshown.passed_over ≡ passed_over pieces → IsRest framing pieces left messages rest → IsWhole framing stream (messages_joined messages) unshown
whole_by framing stream left pieces messages unshown (Short count) same whole each passed is = record {
  pieces = pieces;
  left = left;
  whole = whole;
  are_kept = ap (λ (fs : List (List ℕ)). joined fs) is.0;
  each = all_may framing pieces each;
  passed = passed;
  is = subst (λ (r : Rest). IsLeft pieces r left) same is.1;
}
whole_by framing stream left pieces messages unshown (BehindFault place count is_refresh) same whole each passed is =
    let header = header_of left in
    let all = pieces ++ Kept header ∷ [] in
    let long : length header ≡ 19 = omega (arith, length-take 19 left, is.3.faulty.0) in
    record {
      pieces = all;
      left = drop 19 left;
      whole = whole ∙ ap (λ (os : List ℕ). stream_of pieces ++ os) (sym (take-append-drop 19 left)) ∙ sym (append_assoc (stream_of pieces) header (drop 19 left))
          ∙ ap (λ (os : List ℕ). os ++ drop 19 left) (sym (stream_on pieces (Kept header)));
      are_kept = ap (λ (fs : List (List ℕ)). joined fs) (is.0 ∙ sym (kept_on pieces header));
      each = all_append (MayStand framing) pieces (Kept header ∷ []) (all_may framing pieces each) (tt, tt);
      passed = passed ∙ sym (passed_on pieces header);
      is = subst (λ (r : Rest). IsLeft all r (drop 19 left)) same
          (is.2, ap length (stream_on pieces (Kept header)) ∙ length-append (stream_of pieces) header ∙ (omega (arith, is.1, long)));
    }

framed_whole : (framing : Framing) (stream : List ℕ) (pieces : List Piece) (messages : List Message) (unshown : Unshown) → AreFramed framing stream pieces messages unshown
    → IsWhole framing stream (messages_joined messages) unshown
framed_whole framing stream pieces messages unshown h = whole_by framing stream h.left pieces messages unshown unshown.rest refl h.whole h.each h.passed h.is

pub made_are_the_streams : MadeRecordsAreTheStreams
made_are_the_streams framings within connection entries received_unshown sent_unshown made =
    let t = made.tells in
    let opened = opened_state connection.opened_by in
    let records : shown_in (opening connection.opened_by (first_moment connection) ∷ numbered_in opened Other t.events) ≡ records_of entries = entries_are _ entries t.shown in
    let received : messages_joined made.received ≡ received_octets (records_of entries) =
    ap (λ (ms : List Message). messages_joined ms) (sym t.allowed.of_received) ∙ sym (received_are t.events opened Other) ∙ ap (λ (rs : List ShownRecord). received_octets rs) records in
    let sent : messages_joined made.sent ≡ sent_octets (records_of entries) =
    ap (λ (ms : List Message). messages_joined ms) (sym t.allowed.of_sent) ∙ sym (sent_are t.events opened Other) ∙ ap (λ (rs : List ShownRecord). sent_octets rs) records in (
      subst (λ (os : List ℕ). IsWhole framings.received connection.received.octets.now os received_unshown) received
          (framed_whole framings.received connection.received.octets.now made.heard.pieces made.received received_unshown made.heard.framed),
      subst (λ (os : List ℕ). IsWhole framings.sent connection.sent.octets.now os sent_unshown) sent
          (framed_whole framings.sent connection.sent.octets.now made.said.pieces made.sent sent_unshown made.said.framed),
    )
