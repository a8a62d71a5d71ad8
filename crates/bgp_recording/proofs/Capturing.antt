-- The made records are such as a capture can hold.
use Rattle.std.proofs.Common.{◌≡◌, ◌∙◌, ◌<◌, ◌≤◌, ◌+◌, ◌^◌, ◌==◌, ◌||◌, if◌then◌else◌, ℕ, Bool, true, false, List, [], ◌∷◌, ◌++◌, map, length, Option, None, Some, IsTrue, ap, subst, sym, refl, inl, inr, arith}
use Rattle.std.proofs.lemmas.Bool.{cases_lt}
use Rattle.std.specs.List.{AllByRecursion}
use Rattle.byteorder.specs.Endian.{big_bytes}
use Rattle.bgp_prefix.specs.Shown as shown
use Rattle.bgp_prefix.specs.Shown.{ShownRecord, second_of}
use Rattle.bgp_prefix.specs.declared.address.Address.{Address}
use Rattle.bgp_prefix.specs.declared.address.Address.TheVariants.{V4, V6}
use Rattle.bgp_prefix.specs.declared.session.RouteRefresh.{RouteRefresh}
use Rattle.bgp_prefix.specs.declared.session.RouteRefresh.TheVariants.{NotOffered, Refused, PassedOver}
use Rattle.bgp_prefix.specs.declared.session.Session.{Session}
use Rattle.bgp_prefix.specs.Address.{family_of}
use Rattle.bgp_wire.specs.declared.header.Limit.{Limit}
use Rattle.bgp_wire.specs.declared.header.Limit.TheVariants.{Plain, Extended}
use Rattle.bgp_wire.specs.declared.header.MessageType.{MessageType}
use Rattle.bgp_wire.specs.Framing.{IsFrame}
use Rattle.bgp_wire.specs.Header.{header_of, length_of, type_of, greatest_length, limit_with, IsSound}
use Rattle.mrt.specs.Layout.{IsState}
use Rattle.mrt.specs.Reader.{shown_of}
use Rattle.mrt.specs.RefreshLaws.{without_refresh}
use Rattle.mrt.specs.Rules.{IsRouteRefresh, IsWholeRefresh, HasOtherLength, body_limit}
use Rattle.streams.specs.declared.connection.Connection.{Connection}
use Rattle.mrt.specs.Written.{IsWritable, IsAllowed, IsMessageAllowed, CanBeCaptured, AreInOrder, address_octets, content_for, body_len}
use Rattle.mrt.proofs.WrittenCapture.{captures_read_back}
use Rattle.bgp_recording.specs.declared.entry.Entry.{Entry}
use Rattle.bgp_recording.specs.declared.message.Message.{Message}
use Rattle.bgp_recording.specs.Allowed.{Received, Sent, Ended, received_in, sent_in}
use Rattle.bgp_recording.specs.Captured.{records_of, IsNoRefresh, CanBeNamed, MadeRecordsAreRead}
use Rattle.bgp_recording.specs.Framed.{HasKind}
use Rattle.bgp_recording.specs.declared.framing.Framing.{Framing}
use Rattle.bgp_recording.specs.declared.framing.Framings.{Framings}
use Rattle.bgp_recording.specs.declared.framing.Unshown.{Unshown}
use Rattle.bgp_recording.specs.Pieces.{IsFaultyOf, framing_of, framings_of, skips_with}
use Rattle.bgp_recording.specs.Recorded.{IsRecorded}
use Rattle.bgp_recording.proofs.Pieces.{frame_no_refresh, header_no_refresh}
use Rattle.bgp_recording.specs.Changes.{led_by_received, led_by_sent, led_by_end, led_by_left, is_answered_before_open, just_received, just_sent, are_left, opened_state, state_then}
use Rattle.bgp_recording.specs.States.{state_number}
use Rattle.bgp_recording.specs.Tells.{Numbered, numbered_of, Event, Passed, items_in, numbered_in, change, AreTimed, HasSecond}
use Rattle.bgp_recording.specs.declared.standing.Before.{Before}
use Rattle.bgp_recording.specs.declared.standing.Before.TheVariants.{Other}
use Rattle.bgp_recording.specs.declared.state.State.{State}
use Rattle.bgp_recording.specs.declared.state.State.TheVariants.{Idle, Connect, Active, OpenSent, OpenConfirm, Established}
use Rattle.bgp_recording.specs.declared.pending.Moment.{Moment}
use Rattle.bgp_recording.specs.Moments.{end_moment, moment_in}

-- ---- messages

-- the longest message of any type
abbrev longest : Limit → ℕ
longest Plain = 4096
longest Extended = 65535

longest_least : (limit : Limit) → 4096 ≤ longest limit
longest_least Plain = omega arith
longest_least Extended = omega arith

greatest_longest : (limit : Limit) (kind : ℕ) → greatest_length limit kind ≤ longest limit
greatest_longest Plain kind = omega arith
greatest_longest Extended kind =
    elim ((kind == 2) || (kind == 3)) as (λ (b : Bool). (if b then 65535 else 4096) ≤ 65535) [ true ↦ omega arith | false ↦ omega arith ]

-- what a capture asks of a message
record CanBeMessage (framing : Framing) (octets : List ℕ) : Type 0 where
  long : 19 ≤ length octets
  short : length octets ≤ longest framing.limit
  whole : ¬ HasOtherLength framing.limit octets
  stays : IsTrue framing.skips_refresh → ¬ IsWholeRefresh octets

faulty_can : (framing : Framing) (octets : List ℕ) → length octets ≡ 19 → IsFaultyOf framing octets → CanBeMessage framing octets
faulty_can framing octets len h = record {
  long = omega (arith, len);
  short = omega (arith, len, longest_least framing.limit);
  whole = λ other. h.faulty.1 other.1;
  stays = λ skips. header_no_refresh octets (h.stays skips);
}

sound_short : (limit : Limit) (header : List ℕ) → IsSound limit header → length_of header ≤ longest limit
sound_short limit header sound =
    elim (cases_lt (greatest_length limit (type_of header)) (length_of header)) [
      | inl more ↦ absurd (sound 2 (big_bytes 2 (length_of header)) (inr (inl (refl, inr (inl more), refl))))
      | inr enough ↦ omega (arith, enough, greatest_longest limit (type_of header))
    ]

frame_can : (framing : Framing) (octets : List ℕ) → IsFrame framing.limit octets → CanBeMessage framing octets
frame_can framing octets frame = record {
  long = frame.header;
  short = omega (arith, frame.whole, sound_short framing.limit (header_of octets) frame.sound);
  whole = λ h. h.2 (sym frame.whole);
  stays = λ skips. frame_no_refresh framing.limit octets frame;
}

kind_can : (framing : Framing) (m : Message) (kind : Option MessageType) → kind ≡ m.kind → HasKind framing m → CanBeMessage framing m.octets.now
kind_can framing m None is h =
    let g = subst (λ (k : Option MessageType). HasKind framing record { octets = m.octets; kind = k; packet = m.packet; second = m.second; micro = m.micro }) (sym is) h in
    faulty_can framing m.octets.now g.0 g.1
kind_can framing m (Some kind) is h =
    let g = subst (λ (k : Option MessageType). HasKind framing record { octets = m.octets; kind = k; packet = m.packet; second = m.second; micro = m.micro }) (sym is) h in
    frame_can framing m.octets.now g.0

-- ---- records

-- what a capture asks of a record, but for a ROUTE-REFRESH that is refused, and the seconds
abbrev CanBeRecord : Framings → ShownRecord → Type 0
CanBeRecord framings (shown.Received second octets) = CanBeMessage framings.received octets
CanBeRecord framings (shown.Sent second octets) = CanBeMessage framings.sent octets
CanBeRecord framings (shown.Changed second old new) = IsState old × IsState new

address_short : (address : Address) → length (address_octets address) ≤ 16
address_short (V4 number) = omega arith
address_short (V6 number) = omega arith

-- behind the AS numbers and two addresses
body_fits : (extended : Bool) (count : ℕ) → count ≤ 44 + longest (limit_with extended) → count ≤ (if extended then 65583 else 8192)
body_fits true count h = omega (arith, h)
body_fits false count h = omega (arith, h)

body_short : (session : Session) (record' : ShownRecord) → length (content_for record') ≤ longest (limit_with session.extended) → body_len session record' ≤ body_limit session
unfolding body_limit
body_short session record' h = body_fits session.extended (body_len session record') (omega (arith, address_short session.peer, address_short session.local, h))

record_short : (session : Session) (record' : ShownRecord) → CanBeRecord (framings_of session) record' → length (content_for record') ≤ longest (limit_with session.extended)
record_short session (shown.Received second octets) can = can.short
record_short session (shown.Sent second octets) can = can.short
record_short session (shown.Changed second old new) can = omega (arith, longest_least (limit_with session.extended))

writable : (session : Session) (record' : ShownRecord) → family_of session.peer ≡ family_of session.local → CanBeRecord (framings_of session) record' → IsWritable session record'
writable session record' family can = (family, body_short session record' (record_short session record' can))

all_writable : (session : Session) (records : List ShownRecord) → family_of session.peer ≡ family_of session.local → AllByRecursion (CanBeRecord (framings_of session)) records
    → AllByRecursion (IsWritable session) records
all_writable session [] family can = tt
all_writable session (r ∷ rs) family can = (writable session r family can.0, all_writable session rs family can.1)

-- a session passes over its ROUTE-REFRESHes, and so does the framing
skips_by : (refresh : RouteRefresh) → refresh ≡ PassedOver → IsTrue (skips_with refresh)
skips_by NotOffered e = absurd (let no = e in cc)
skips_by Refused e = absurd (let no = e in cc)
skips_by PassedOver e = refl

-- none of them is refused or passed over
may_stand : (session : Session) (octets : List ℕ) → CanBeMessage (framing_of session) octets → (session.refresh ≡ Refused → ¬ IsRouteRefresh octets) → IsMessageAllowed session octets
may_stand session octets can without = (
  can.long,
  λ refused. without refused,
  λ passed whole. can.stays (skips_by session.refresh passed) whole,
  can.whole,
)

captured : (session : Session) (record' : ShownRecord) → CanBeNamed session → CanBeRecord (framings_of session) record' → second_of record' < 2 ^ 32
    → (session.refresh ≡ Refused → IsNoRefresh record') → CanBeCaptured session record'
captured session (shown.Received second octets) named can fits without = record {
  writable = writable session (shown.Received second octets) named.family can;
  fits = record { second = fits; states = tt; peer = named.peer; local = named.local };
  allowed = (may_stand session octets can without, λ none. none);
}
captured session (shown.Sent second octets) named can fits without = record {
  writable = writable session (shown.Sent second octets) named.family can;
  fits = record { second = fits; states = tt; peer = named.peer; local = named.local };
  allowed = (may_stand session octets can without, λ none. none);
}
captured session (shown.Changed second old new) named can fits without = record {
  writable = writable session (shown.Changed second old new) named.family can;
  fits = record { second = fits; states = (omega (arith, can.0.1), omega (arith, can.1.1)); peer = named.peer; local = named.local };
  allowed = (can.0, can.1, λ none. none);
}

all_captured : (session : Session) (records : List ShownRecord) → CanBeNamed session → AllByRecursion (CanBeRecord (framings_of session)) records
    → AllByRecursion (λ r. second_of r < 2 ^ 32) records → (session.refresh ≡ Refused → AllByRecursion IsNoRefresh records) → AllByRecursion (CanBeCaptured session) records
all_captured session [] named can fits without = tt
all_captured session (r ∷ rs) named can fits without =
    (captured session r named can.0 fits.0 (λ t. (without t).0), all_captured session rs named can.1 fits.1 (λ t. (without t).1))

-- a capture of the session may have such a record
allowed : (session : Session) (record' : ShownRecord) → CanBeRecord (framings_of session) record' → (session.refresh ≡ Refused → IsNoRefresh record') → IsAllowed session None record'
allowed session (shown.Received second octets) can without = (may_stand session octets can without, λ none. none)
allowed session (shown.Sent second octets) can without = (may_stand session octets can without, λ none. none)
allowed session (shown.Changed second old new) can without = (can.0, can.1, λ none. none)

all_allowed : (session : Session) (entries : List Entry) → AllByRecursion (CanBeRecord (framings_of session)) (records_of entries)
    → (session.refresh ≡ Refused → AllByRecursion IsNoRefresh (records_of entries)) → AllByRecursion (λ entry. IsAllowed session None (shown_of entry.record)) entries
all_allowed session [] can without = tt
all_allowed session (e ∷ es) can without = (allowed session (shown_of e.record) can.0 (λ t. (without t).0), all_allowed session es can.1 (λ t. (without t).1))

stands_calmly : (session : Session) (octets : List ℕ) → CanBeMessage (framing_of session) octets → IsMessageAllowed (without_refresh session) octets
stands_calmly session octets can = (can.long, λ refused. absurd (let no = refused in cc), λ passed. absurd (let no = passed in cc), can.whole)

allowed_calmly : (session : Session) (record' : ShownRecord) → CanBeRecord (framings_of session) record' → IsAllowed (without_refresh session) None record'
allowed_calmly session (shown.Received second octets) can = (stands_calmly session octets can, λ none. none)
allowed_calmly session (shown.Sent second octets) can = (stands_calmly session octets can, λ none. none)
allowed_calmly session (shown.Changed second old new) can = (can.0, can.1, λ none. none)

all_allowed_calmly : (session : Session) (entries : List Entry) → AllByRecursion (CanBeRecord (framings_of session)) (records_of entries)
    → AllByRecursion (λ entry. IsAllowed (without_refresh session) None (shown_of entry.record)) entries
all_allowed_calmly session [] can = tt
all_allowed_calmly session (e ∷ es) can = (allowed_calmly session (shown_of e.record) can.0, all_allowed_calmly session es can.1)

-- ---- events

abbrev pub shown_in : List Numbered → List ShownRecord
shown_in numbered = map (λ n. n.shown) numbered

is_state : (state : State) → IsState (state_number state)
is_state Idle = (omega arith, omega arith)
is_state Connect = (omega arith, omega arith)
is_state Active = (omega arith, omega arith)
is_state OpenSent = (omega arith, omega arith)
is_state OpenConfirm = (omega arith, omega arith)
is_state Established = (omega arith, omega arith)

change_can : (framings : Framings) (moment : Moment) (second : ℕ) (state : State) (led : Option State) (rest : List Numbered) → AllByRecursion (CanBeRecord framings) (shown_in rest)
    → AllByRecursion (CanBeRecord framings) (shown_in (change moment second state led ++ rest))
change_can framings moment second state None rest h = h
change_can framings moment second state (Some led) rest h = ((is_state state, is_state led), h)

events_can : (framings : Framings) (events : List Event) (state : State) (before : Before) → AllByRecursion (HasKind framings.received) (received_in (items_in events))
    → AllByRecursion (HasKind framings.sent) (sent_in (items_in events)) → AllByRecursion (CanBeRecord framings) (shown_in (numbered_in state before events))
events_can framings [] state before received sent = tt
events_can framings (Passed second (Received m) ∷ later) state before received sent = (
  kind_can framings.received m m.kind refl received.0,
  change_can framings (moment_in m) second state (led_by_received state m.kind (is_answered_before_open m.kind (sent_in (items_in later)))) _ (events_can framings later _ (just_received m.kind) received.1 sent),
)
events_can framings (Passed second (Sent m) ∷ later) state before received sent =
    (kind_can framings.sent m m.kind refl sent.0, change_can framings (moment_in m) second state (led_by_sent state m.kind before) _ (events_can framings later _ (just_sent state m.kind before) received sent.1))
events_can framings (Passed second (Ended e) ∷ later) state before received sent =
    change_can framings (end_moment e) second state (led_by_end state) _
    (change_can framings (end_moment e) second (state_then state (led_by_end state)) (led_by_left state (are_left (received_in (items_in later)))) _ (events_can framings later _ Other received sent))

from_later : (least second : ℕ) (records : List ShownRecord) → least ≤ second → AreInOrder second records → AreInOrder least records
from_later least second [] le h = tt
from_later least second (r ∷ rs) le h = (omega (arith, le, h.0), h.1)

change_order : (least second : ℕ) (moment : Moment) (state : State) (led : Option State) (rest : List Numbered) → least ≤ second → AreInOrder second (shown_in rest)
    → AreInOrder least (shown_in (change moment second state led ++ rest))
change_order least second moment state None rest le h = from_later least second (shown_in rest) le h
change_order least second moment state (Some led) rest le h = (le, h)

same_second : (second : ℕ) → second ≤ second
same_second second = omega arith

events_order : (least : ℕ) (events : List Event) (state : State) (before : Before) → AreTimed least events → AreInOrder least (shown_in (numbered_in state before events))
events_order least [] state before h = tt
events_order least (Passed second (Received m) ∷ later) state before h = (
  h.0,
  change_order second second (moment_in m) state (led_by_received state m.kind (is_answered_before_open m.kind (sent_in (items_in later)))) _ (same_second second)
      (events_order second later _ (just_received m.kind) h.2),
)
events_order least (Passed second (Sent m) ∷ later) state before h =
    (h.0, change_order second second (moment_in m) state (led_by_sent state m.kind before) _ (same_second second) (events_order second later _ (just_sent state m.kind before) h.2))
events_order least (Passed second (Ended e) ∷ later) state before h =
    change_order least second (end_moment e) state (led_by_end state) _ h.0
    (change_order second second (end_moment e) (state_then state (led_by_end state)) (led_by_left state (are_left (received_in (items_in later)))) _ (same_second second)
    (events_order second later _ Other h.2))

same_records : (entries : List Entry) → shown_in (map numbered_of entries) ≡ records_of entries
same_records [] = refl
same_records (e ∷ es) = ap (λ rs. shown_in (numbered_of e ∷ []) ++ rs) (same_records es)

pub entries_are : (numbered : List Numbered) (entries : List Entry) → map numbered_of entries ≡ numbered → shown_in numbered ≡ records_of entries
entries_are numbered entries shown = sym (ap (λ ns. shown_in ns) shown) ∙ same_records entries

made_can : (framings : Framings) (within : ℕ) (connection : Connection) (entries : List Entry) (received_unshown sent_unshown : Unshown) → IsRecorded framings within connection entries received_unshown sent_unshown
    → AllByRecursion (CanBeRecord framings) (records_of entries)
made_can framings within connection entries received_unshown sent_unshown made =
    let t = made.tells in
    let kinds_received = subst (λ (ms : List Message). AllByRecursion (HasKind framings.received) ms) (sym t.allowed.of_received) made.heard.kinds in
    let kinds_sent = subst (λ (ms : List Message). AllByRecursion (HasKind framings.sent) ms) (sym t.allowed.of_sent) made.said.kinds in
    subst (λ (rs : List ShownRecord). AllByRecursion (CanBeRecord framings) rs) (entries_are _ entries t.shown)
    ((is_state Idle, is_state (opened_state connection.opened_by)), events_can framings t.events (opened_state connection.opened_by) Other kinds_received kinds_sent)

-- what is made can be written, where both addresses are of one family
pub made_are_writable : (session : Session) (within : ℕ) (connection : Connection) (entries : List Entry) (received_unshown sent_unshown : Unshown) → family_of session.peer ≡ family_of session.local
    → IsRecorded (framings_of session) within connection entries received_unshown sent_unshown → AllByRecursion (IsWritable session) (records_of entries)
made_are_writable session within connection entries received_unshown sent_unshown family made =
    all_writable session (records_of entries) family (made_can (framings_of session) within connection entries received_unshown sent_unshown made)

-- and a capture of the session may have it
pub made_are_allowed : (session : Session) (within : ℕ) (connection : Connection) (entries : List Entry) (received_unshown sent_unshown : Unshown)
    → (session.refresh ≡ Refused → AllByRecursion IsNoRefresh (records_of entries)) → IsRecorded (framings_of session) within connection entries received_unshown sent_unshown
    → AllByRecursion (λ entry. IsAllowed session None (shown_of entry.record)) entries
made_are_allowed session within connection entries received_unshown sent_unshown without made =
    all_allowed session entries (made_can (framings_of session) within connection entries received_unshown sent_unshown made) without

-- and one that refuses and passes over none
pub made_are_allowed_calmly : (session : Session) (within : ℕ) (connection : Connection) (entries : List Entry) (received_unshown sent_unshown : Unshown)
    → IsRecorded (framings_of session) within connection entries received_unshown sent_unshown → AllByRecursion (λ entry. IsAllowed (without_refresh session) None (shown_of entry.record)) entries
made_are_allowed_calmly session within connection entries received_unshown sent_unshown made =
    all_allowed_calmly session entries (made_can (framings_of session) within connection entries received_unshown sent_unshown made)

of_entries : (entries : List Entry) → AllByRecursion HasSecond entries → AllByRecursion (λ r. second_of r < 2 ^ 32) (records_of entries)
of_entries [] h = tt
of_entries (e ∷ es) h = (h.0, of_entries es h.1)

pub made_are_read : MadeRecordsAreRead
made_are_read session peer_as local_as within connection entries received_unshown sent_unshown named made without =
    let t = made.tells in
    let can = made_can (framings_of session) within connection entries received_unshown sent_unshown made in
    let order = subst (λ (rs : List ShownRecord). AreInOrder 0 rs) (entries_are _ entries t.shown)
    (omega arith, events_order connection.second t.events (opened_state connection.opened_by) Other t.timed) in
    captures_read_back session peer_as local_as (records_of entries) (all_captured session (records_of entries) named can (of_entries entries made.seconds) without) order
