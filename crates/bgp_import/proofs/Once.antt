-- What is made of a recording is one thing.
use Rattle.std.proofs.Common.{◌≡◌, ◌∙◌, ◌<◌, ◌≤◌, ◌+◌, ◌-◌, ◌++◌, ℕ, suc, Bool, List, [], ◌∷◌, Option, None, Some, Result, Ok, length, map, reverse, get_or, refl, sym, ap, subst, arith, inl, inr}
use Rattle.std.proofs.lemmas.Bool.{cases_lt, lt-ltb, le-ltb}
use Rattle.std.proofs.lemmas.Option.{slice_get-get_or}
use Rattle.std.specs.List.{slice_get}
use Rattle.packets.specs.Packet.{Recorded}
use Rattle.segments.specs.Conversation.{IsSelected, IsAnswerIf, Answer}
use Rattle.segments.specs.Found.{found_in}
use Rattle.segments.specs.Segment.{TcpSegment, Finding, Nothing, UnknownLink, Fragment, NoPorts, CutHeader, Whole}
use Rattle.segments.specs.declared.conversation.Conversation.{Conversation}
use Rattle.segments.specs.declared.found.Ends.{Ends}
use Rattle.streams.proofs.Runs.{total-cons}
use Rattle.streams.specs.Choice.{IsStreamOf, Tells, IsAnswered, numbered_one}
use Rattle.streams.specs.Connections.{numbered}
use Rattle.streams.specs.Given.{known_at, giver_at, total}
use Rattle.streams.specs.Passed.{Segment}
use Rattle.streams.specs.declared.connection.Connection.{Connection}
use Rattle.streams.specs.declared.connection.Run.{Run}
use Rattle.streams.specs.declared.connection.Stream.{Stream}
use Rattle.streams.specs.declared.gathered.Given.{Given}
use Rattle.streams.specs.declared.gathered.Giver.{Giver}
use Rattle.streams.specs.declared.fault.Fault.{Fault}
use Rattle.streams.specs.declared.passed.Side.{Side}
use Rattle.streams.specs.declared.passed.Side.TheVariants.{Local, Peer}
use Rattle.bgp_recording.specs.Recorded.{IsRecordedInOrder}
use Rattle.bgp_recording.specs.Once.{AreSame, TellTheSame, ConnectionsAreRecordedOnce}
use Rattle.bgp_recording.specs.Tells.{Numbered, numbered_of}
use Rattle.bgp_recording.specs.declared.entry.Entry.{Entry}
use Rattle.bgp_recording.specs.declared.framing.Framings.{Framings}
use Rattle.bgp_recording.specs.declared.framing.Unshown.{Unshown}
use Rattle.bgp_recording.specs.Pieces.{alike, framings_of, skips_with}
use Rattle.bgp_prefix.specs.declared.session.RouteRefresh.{RouteRefresh}
use Rattle.bgp_prefix.specs.declared.session.RouteRefresh.TheVariants.{NotOffered, Refused, PassedOver}
use Rattle.bgp_prefix.specs.declared.session.Session.{Session}
use Rattle.bgp_wire.specs.Header.{limit_with}
use Rattle.bgp_import.proofs.InOrder.{in_order}
use Rattle.bgp_import.proofs.Telling.{is_clocked}
use Rattle.bgp_import.specs.Captures.{put_off, counted, made_by, shown_by}
use Rattle.bgp_import.specs.Once.{RecordingsAreMadeOnce, calm_refresh, calm_session, calm_selection}
use Rattle.bgp_import.specs.Selecting.{IsSentBy, IsPart, HasPart, AreTaken, part_by}
use Rattle.bgp_import.specs.declared.note.Notes.{Notes}
use Rattle.bgp_import.specs.declared.selection.Selection.{Selection}

-- ---- the segments of packets

one_answer : (Holds : Type 0) (wanted a b : Answer) → IsAnswerIf Holds wanted a → IsAnswerIf Holds wanted b → a ≡ b
one_answer Holds wanted a b (inl h) (inl k) = h.1 ∙ sym k.1
one_answer Holds wanted a b (inl h) (inr k) = absurd (k.0 h.0)
one_answer Holds wanted a b (inr h) (inl k) = absurd (h.0 k.0)
one_answer Holds wanted a b (inr h) (inr k) = h.1 ∙ sym k.1

pub one_selected : (conversation : Conversation) (finding : Finding) (a b : Answer) → IsSelected conversation finding a → IsSelected conversation finding b → a ≡ b
one_selected conversation Nothing a b h k = h ∙ sym k
one_selected conversation (UnknownLink link_type) a b h k = h ∙ sym k
one_selected conversation (Fragment addresses) a b h k = one_answer _ _ a b h k
one_selected conversation (NoPorts addresses) a b h k = one_answer _ _ a b h k
one_selected conversation (CutHeader ends) a b h k = one_answer _ _ a b h k
one_selected conversation (Whole segment) a b h k = one_answer _ _ a b h k

one_sender : (selection : Selection) (ends : Ends) (a b : Option Side) → IsSentBy selection ends a → IsSentBy selection ends b → a ≡ b
one_sender selection ends None None h k = refl
one_sender selection ends None (Some Local) h k = absurd (h.0 k)
one_sender selection ends None (Some Peer) h k = absurd (h.1 k.1)
one_sender selection ends (Some Local) None h k = absurd (k.0 h)
one_sender selection ends (Some Local) (Some Local) h k = refl
one_sender selection ends (Some Local) (Some Peer) h k = absurd (k.0 h)
one_sender selection ends (Some Peer) None h k = absurd (k.1 h.1)
one_sender selection ends (Some Peer) (Some Local) h k = absurd (h.0 k)
one_sender selection ends (Some Peer) (Some Peer) h k = refl

one_part : (selection : Selection) (number : ℕ) (packet : Recorded) (found : Option TcpSegment) (a b : List Segment) → IsPart selection number packet found a → IsPart selection number packet found b → a ≡ b
one_part selection number packet None a b h k = h ∙ sym k
one_part selection number packet (Some segment) a b (side, sent, is) (other, also, too) =
    is ∙ ap (λ (s : Option Side). part_by number packet segment s) (one_sender selection segment.ends side other sent also) ∙ sym too

abbrev ok_found : Option TcpSegment → Answer
ok_found found = Ok found

found_is : (a b : Option TcpSegment) → ok_found a ≡ ok_found b → a ≡ b
found_is a b e = cc

same_part : (selection : Selection) (number : ℕ) (packet : Recorded) (a b : List Segment) → HasPart selection number packet a → HasPart selection number packet b → a ≡ b
same_part selection number packet a b h k =
    let same : h.found ≡ k.found = found_is h.found k.found (one_selected _ (found_in packet.link_type packet.octets) (Ok h.found) (Ok k.found) h.is_found k.is_found) in
    one_part selection number packet k.found a b (subst (λ (f : Option TcpSegment). IsPart selection number packet f a) same h.is_part) k.is_part

pub same_taken : (selection : Selection) (before : ℕ) (packets : List Recorded) (a b : List Segment) → AreTaken selection before packets a → AreTaken selection before packets b → a ≡ b
same_taken selection before [] a b h k = h ∙ sym k
same_taken selection before (packet ∷ later) a b (part, others, has, rest, is) (part', others', has', rest', is') =
    is ∙ ap (λ (p : List Segment). p ++ others) (same_part selection (before + 1) packet part part' has has')
    ∙ ap (λ (o : List Segment). part' ++ o) (same_taken selection (before + 1) later others others' rest rest') ∙ sym is'

-- ---- the streams that are told

giver_past : (runs : List Run) (place : ℕ) → total runs ≤ place → giver_at runs place ≡ None
giver_past [] place le = refl
giver_past (run ∷ runs) place le =
    let there : run.count ≤ place = omega (arith, total-cons run runs, le) in
    rw (le-ltb place run.count there) (giver_past runs (place - run.count) (omega (arith, total-cons run runs, le)))

giver_some : (runs : List Run) (place : ℕ) → place < total runs → (g : Giver) × (giver_at runs place ≡ Some g)
giver_some [] place lt = absurd (omega (arith, lt))
giver_some (run ∷ runs) place lt = elim (cases_lt place run.count) [
  | inl here ↦ (record { packet = run.packet; second = run.second; micro = run.micro }, rw (lt-ltb place run.count here))
  | inr there ↦
      let later = giver_some runs (place - run.count) (omega (arith, total-cons run runs, lt, there)) in
      (later.0, rw (le-ltb place run.count there) later.1)
]

octet_in : Option Given → Option ℕ
octet_in None = None
octet_in (Some given) = Some given.octet

giver_in : Option Given → Option Giver
giver_in None = None
giver_in (Some given) = Some given.giver

known_octet : (octets : List ℕ) (runs : List Run) (place : ℕ) (x : ℕ) (g : Giver) → slice_get octets place ≡ Some x → giver_at runs place ≡ Some g
    → (octet_in (known_at octets runs place) ≡ Some x) × (giver_in (known_at octets runs place) ≡ Some g)
unfolding octet_in giver_in
known_octet octets runs place x g e f = (rw e (rw f), rw e (rw f))

module _ (octets others : List ℕ) (runs more : List Run) (covers : total runs ≡ length octets) (covers' : total more ≡ length others) (count : length octets ≡ length others)
    (known : (place : ℕ) → place < length octets → known_at octets runs place ≡ known_at others more place) where
  same_here : (place : ℕ) → place < length octets → (get_or octets place 0 ≡ get_or others place 0) × (giver_at runs place ≡ giver_at more place)
  same_here place lt =
      let a = slice_get-get_or octets place 0 lt in
      let b = slice_get-get_or others place 0 (omega (arith, lt, count)) in
      let g = giver_some runs place (omega (arith, lt, covers)) in
      let h = giver_some more place (omega (arith, lt, covers', count)) in
      let one = known_octet octets runs place (get_or octets place 0) g.0 a g.1 in
      let other = known_octet others more place (get_or others place 0) h.0 b h.1 in
      let x : Some (get_or octets place 0) ≡ Some (get_or others place 0) = sym one.0 ∙ ap octet_in (known place lt) ∙ other.0 in
      let y : Some g.0 ≡ Some h.0 = sym one.1 ∙ ap giver_in (known place lt) ∙ other.1 in
      (cc, g.1 ∙ y ∙ sym h.1)

  same_givers : (place : ℕ) → giver_at runs place ≡ giver_at more place
  same_givers place = elim (cases_lt place (length octets)) [
    | inl lt ↦ (same_here place lt).1
    | inr le ↦ giver_past runs place (omega (arith, le, covers)) ∙ sym (giver_past more place (omega (arith, le, covers', count)))
  ]

-- lists of one length, octet by octet
by_octets : (xs ys : List ℕ) → length xs ≡ length ys → ((i : ℕ) → i < length xs → get_or xs i 0 ≡ get_or ys i 0) → xs ≡ ys
by_octets [] [] e same = refl
by_octets [] (y ∷ ys) e same = absurd (omega (arith, e))
by_octets (x ∷ xs) [] e same = absurd (omega (arith, e))
by_octets (x ∷ xs) (y ∷ ys) e same =
    ap (λ (z : ℕ). z ∷ xs) (same 0 (omega arith)) ∙ ap (λ (zs : List ℕ). y ∷ zs) (by_octets xs ys (omega (arith, e)) (λ i lt. same (suc i) (omega (arith, lt))))

same_stream : (side : Side) (segments : List Segment) (one other : Stream) → IsStreamOf side segments one → IsStreamOf side segments other → AreSame one other
same_stream side segments one other h k =
    let count : length one.octets.now ≡ length other.octets.now = h.count ∙ sym k.count in
    let known : (place : ℕ) → place < length one.octets.now → known_at one.octets.now one.runs.now place ≡ known_at other.octets.now other.runs.now place =
    λ place lt. h.given place lt ∙ sym (k.given place (omega (arith, lt, count))) in
    record {
      octets = by_octets one.octets.now other.octets.now count
          (λ i lt. (same_here one.octets.now other.octets.now one.runs.now other.runs.now h.covered k.covered count known i lt).0);
      givers = same_givers one.octets.now other.octets.now one.runs.now other.runs.now h.covered k.covered count known;
    }

same_connection : (segments : List Segment) (one other : Connection) → Tells segments one → Tells segments other → TellTheSame one other
same_connection [] one other h k = absurd h
same_connection (s ∷ before) one other h k = record {
  opened_by = h.opened_by ∙ sym k.opened_by;
  packet = h.packet ∙ sym k.packet;
  second = h.second ∙ sym k.second;
  micro = h.micro ∙ sym k.micro;
  received = same_stream Peer (s ∷ before) one.received other.received h.received k.received;
  sent = same_stream Local (s ∷ before) one.sent other.sent h.sent k.sent;
  end = h.end ∙ sym k.end;
}

abbrev ok_number : ℕ → Result ℕ Fault
ok_number n = Ok n

number_is : (a b : ℕ) → ok_number a ≡ ok_number b → a ≡ b
number_is a b e = cc

same_answer : (number : Option ℕ) (count : ℕ) (connections : List (List Segment)) (one other : Connection) → IsAnswered number count connections one → IsAnswered number count connections other
    → TellTheSame one other
same_answer number count connections one other h k =
    let number_same : other.number ≡ one.number = number_is other.number one.number (sym k.chosen ∙ h.chosen) in
    same_connection (numbered_one connections one.number) one other h.tells
    (subst (λ (n : ℕ). Tells (numbered_one connections n) other) number_same k.tells)

-- ---- what is told of them

off_by : ℕ → List Numbered → ℕ
off_by made [] = 0
off_by made (n ∷ later) = counted made n.moment.packet n.shown + off_by (made_by made n.moment.packet n.shown) later

off_same : (made : ℕ) (entries : List Entry) → put_off made entries ≡ off_by made (map numbered_of entries)
unfolding off_by
off_same made [] = refl
off_same made (e ∷ later) = ap (λ (n : ℕ). counted made e.packet (shown_by e) + n) (off_same (made_by made e.packet (shown_by e)) later)

abbrev notes_with : Unshown → Unshown → ℕ → Notes
notes_with received sent count = record { received = received; sent = sent; put_off = count }

same_notes : (a b : Notes) → a.received ≡ b.received → a.sent ≡ b.sent → a.put_off ≡ b.put_off → a ≡ b
same_notes a b e1 e2 e3 =
    ap (λ (r : Unshown). notes_with r a.sent a.put_off) e1 ∙ ap (λ (r : Unshown). notes_with b.received r a.put_off) e2 ∙ ap (λ (n : ℕ). notes_with b.received b.sent n) e3

-- ---- whether the session refuses a ROUTE-REFRESH plays no part

skips_calmly : (refresh : RouteRefresh) → skips_with (calm_refresh refresh) ≡ skips_with refresh
skips_calmly NotOffered = refl
skips_calmly Refused = refl
skips_calmly PassedOver = refl

pub framed_calmly : (session : Session) → framings_of (calm_session session) ≡ framings_of session
framed_calmly session = ap (λ (b : Bool). alike record { limit = limit_with session.extended; skips_refresh = b }) (skips_calmly session.refresh)

calm_sender : (selection : Selection) (ends : Ends) (side : Option Side) → IsSentBy selection ends side → IsSentBy (calm_selection selection) ends side
calm_sender selection ends None h = h
calm_sender selection ends (Some Local) h = h
calm_sender selection ends (Some Peer) h = h

calm_part : (selection : Selection) (number : ℕ) (packet : Recorded) (found : Option TcpSegment) (part : List Segment) → IsPart selection number packet found part
    → IsPart (calm_selection selection) number packet found part
calm_part selection number packet None part h = h
calm_part selection number packet (Some segment) part (side, sent, is) = (side, calm_sender selection segment.ends side sent, is)

calm_taken : (selection : Selection) (before : ℕ) (packets : List Recorded) (segments : List Segment) → AreTaken selection before packets segments
    → AreTaken (calm_selection selection) before packets segments
calm_taken selection before [] segments h = h
calm_taken selection before (packet ∷ later) segments (part, others, has, rest, is) = (
  part,
  others,
  record { found = has.found; is_found = has.is_found; is_part = calm_part selection (before + 1) packet has.found part has.is_part },
  calm_taken selection (before + 1) later others rest,
  is,
)

pub made_once : ConnectionsAreRecordedOnce → RecordingsAreMadeOnce
made_once recorded one other number packets entries others notes told mean h k =
    let taken = calm_taken one.selection 0 packets h.segments h.taken in
    let also = subst (λ (s : Selection). AreTaken s 0 packets k.segments) (sym mean.selection) (calm_taken other.selection 0 packets k.segments k.taken) in
    let segments : k.segments ≡ h.segments = same_taken (calm_selection one.selection) 0 packets k.segments h.segments also taken in
    let answered = subst (λ (s : List Segment). IsAnswered number (length packets) (numbered (reverse s)) k.connection) segments k.answered in
    let same = same_answer number (length packets) (numbered (reverse h.segments)) h.connection k.connection h.answered answered in
    let clocked = is_clocked (reverse h.segments) number (length packets) h.connection (in_order one.selection packets h.segments h.taken) h.answered in
    let framed : framings_of other.selection.session ≡ framings_of one.selection.session =
    sym (framed_calmly other.selection.session) ∙ ap (λ (s : Selection). framings_of s.session) (sym mean.selection) ∙ framed_calmly one.selection.session in
    let as_one : IsRecordedInOrder (framings_of one.selection.session) one.within k.connection others told.received told.sent =
    subst (λ (n : ℕ). IsRecordedInOrder (framings_of one.selection.session) n k.connection others told.received told.sent) (sym mean.within)
    (subst (λ (f : Framings). IsRecordedInOrder f other.within k.connection others told.received told.sent) framed k.made.recorded) in
    let made = recorded _ _ h.connection k.connection entries others notes.received notes.sent told.received told.sent same clocked h.made.recorded as_one in (
      made.0,
      same_notes notes told made.1 made.2
          (h.made.counts ∙ off_same 0 entries ∙ ap (λ (ns : List Numbered). off_by 0 ns) made.0 ∙ sym (off_same 0 others) ∙ sym k.made.counts),
    )
