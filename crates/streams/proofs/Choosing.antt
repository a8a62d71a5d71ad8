-- What is told of a connection that is held.
use Rattle.std.proofs.Common.{◌≡◌, ◌<◌, ◌≤◌, ◌+◌, ◌∙◌, ℕ, Some, None, Option, cond, List, [], ◌∷◌, refl, sym, ap, arith, length, subst}
use Rattle.std.specs.Option.{option_or, unwrap_or, is_none}
use Rattle.std.specs.List.{AllByRecursion}
use Rattle.std.proofs.lemmas.List.Elements.{recursion_from_All}
use Rattle.streams.specs.declared.fault.Fault.{Fault}
use Rattle.streams.specs.declared.passed.Side.{Side}
use Rattle.streams.specs.declared.passed.Side.TheVariants.{Local, Peer}
use Rattle.streams.specs.declared.connection.Connection.{Connection}
use Rattle.streams.specs.declared.connection.Opening.{Opening}
use Rattle.streams.specs.declared.connection.Stream.{Stream}
use Rattle.streams.specs.declared.connection.Run.{Run}
use Rattle.streams.specs.declared.direction.Direction.{Direction}
use Rattle.streams.specs.declared.gathering.Gathering.{Gathering}
use Rattle.streams.specs.Given.{known_at, total}
use Rattle.streams.specs.Passed.{Segment}
use Rattle.streams.specs.History.{start_of, next_of, fin_of}
use Rattle.streams.specs.Refusals.{half_of, missing_of}
use Rattle.streams.specs.Sent.{half_shown, missing, is_fin, first_shown}
use Rattle.streams.specs.Directions.{Holds, half_in, missing_in, first_above}
use Rattle.streams.specs.Connections.{opener_of}
use Rattle.streams.specs.Gatherings.{HoldsConnection, refusal_in, Shows, Opens}
use Rattle.streams.specs.Held.{IsOne}
use Rattle.streams.specs.Choice.{refusal_of, IsStreamOf, Tells, OpensAs}
use Rattle.streams.proofs.Known.{known_within}
use Rattle.streams.proofs.Places.{known_given}
use Rattle.streams.proofs.Histories.{next_is}

missing_is : {Z : Type 0} (side : Side) (segments : List Segment) (d : Direction Z) → Holds side segments d → missing_in d ≡ missing side segments
missing_is side segments d holds =
    let n = length d.gathered.known.octets.items in
    ap (λ (f : Option ℕ). cond (is_fin f n) (first_above d.shown.items (n + 1)) (first_above d.shown.items n)) holds.fin
    ∙ ap (λ (o : Option ℕ). cond (is_fin (fin_of side segments) n) o (first_above d.shown.items n)) (holds.shown (n + 1))
    ∙ ap (λ (o : Option ℕ). cond (is_fin (fin_of side segments) n) (first_shown side segments (n + 1)) o) (holds.shown n)
    ∙ ap (λ (k : ℕ). cond (is_fin (fin_of side segments) k) (first_shown side segments (k + 1)) (first_shown side segments k)) (next_is side segments d holds)

half_is : {Z : Type 0} (side : Side) (segments : List Segment) (d : Direction Z) (start : Option ℕ) → Holds side segments d → start ≡ start_of side segments → half_in start d ≡ half_shown side segments
half_is side segments d start holds is =
    ap (λ (o : Option ℕ). cond (is_none o) d.acknowledged_by None) is
    ∙ ap (λ (o : Option ℕ). cond (is_none (start_of side segments)) o None) holds.acknowledged_by

halves_are : {Z : Type 0} (segments : List Segment) (g : Gathering Z) → HoldsConnection segments g → Holds Peer segments g.received → Holds Local segments g.sent
    → half_of (half_in g.peer_start g.received) (half_in g.local_start g.sent) ≡ half_of (half_shown Peer segments) (half_shown Local segments)
halves_are segments g holds received sent =
    ap (λ (o : Option ℕ). half_of o (half_in g.local_start g.sent)) (half_is Peer segments g.received g.peer_start received holds.peer_start)
    ∙ ap (λ (o : Option ℕ). half_of (half_shown Peer segments) o) (half_is Local segments g.sent g.local_start sent holds.local_start)

rest_is : {Z : Type 0} (segments : List Segment) (g : Gathering Z) → Holds Peer segments g.received → Holds Local segments g.sent
    → missing_of (missing_in g.received) (missing_in g.sent) (length g.received.gathered.known.octets.items) (length g.sent.gathered.known.octets.items)
    ≡ missing_of (missing Peer segments) (missing Local segments) (next_of Peer segments) (next_of Local segments)
rest_is segments g received sent =
    ap (λ (o : Option ℕ). missing_of o (missing_in g.sent) (length g.received.gathered.known.octets.items) (length g.sent.gathered.known.octets.items)) (missing_is Peer segments g.received received)
    ∙ ap (λ (o : Option ℕ). missing_of (missing Peer segments) o (length g.received.gathered.known.octets.items) (length g.sent.gathered.known.octets.items)) (missing_is Local segments g.sent sent)
    ∙ ap (λ (n : ℕ). missing_of (missing Peer segments) (missing Local segments) n (length g.sent.gathered.known.octets.items)) (next_is Peer segments g.received received)
    ∙ ap (λ (n : ℕ). missing_of (missing Peer segments) (missing Local segments) (next_of Peer segments) n) (next_is Local segments g.sent sent)

either : (fault : Option Fault) (one other : Option Fault) → (fault ≡ None → one ≡ other) → option_or fault one ≡ option_or fault other
either None one other h = h refl
either (Some x) one other h = refl

-- the refusal of what is held is that of the segments
refusal_is : {Z : Type 0} (segments : List Segment) (g : Gathering Z) → HoldsConnection segments g → refusal_in g ≡ refusal_of segments
refusal_is segments g holds =
    let missed = missing_of (missing_in g.received) (missing_in g.sent) (length g.received.gathered.known.octets.items) (length g.sent.gathered.known.octets.items) in
    let half = half_of (half_shown Peer segments) (half_shown Local segments) in
    let lacks = missing_of (missing Peer segments) (missing Local segments) (next_of Peer segments) (next_of Local segments) in
    either g.fault (option_or (half_of (half_in g.peer_start g.received) (half_in g.local_start g.sent)) missed) (option_or half lacks) (λ none.
    ap (λ (f : Option Fault). option_or f missed) (halves_are segments g holds (holds.received none) (holds.sent none))
    ∙ ap (option_or half) (rest_is segments g (holds.received none) (holds.sent none)))
    ∙ ap (λ (f : Option Fault). option_or f (option_or half lacks)) holds.fault

pub refused_is : {Z : Type 0} (segments : List Segment) (g : Gathering Z) → IsOne segments g → refusal_in g ≡ refusal_of segments
refused_is [] g one = absurd one
refused_is (s ∷ before) g one = refusal_is (s ∷ before) g one.1

no_fault : (fault rest : Option Fault) → option_or fault rest ≡ None → fault ≡ None
no_fault None rest h = refl
no_fault (Some x) rest h = absurd (grind arith)

stream_is : {Z : Type 0} (side : Side) (segments : List Segment) (d : Direction Z) (stream : Stream) → Holds side segments d
    → stream.octets.now ≡ d.gathered.known.octets.items → stream.runs.now ≡ d.gathered.known.runs.items → IsStreamOf side segments stream
stream_is side segments d stream holds os rs = record {
  count = ap length os ∙ next_is side segments d holds;
  given = λ place lt.
      let within : place < length d.gathered.known.octets.items = omega (arith, lt, ap length os) in
      let known = known_within d.gathered.known.octets.items d.gathered.known.runs.items place holds.sound.covered within in
      ap (λ (xs : List ℕ). known_at xs stream.runs.now place) os ∙ ap (λ (rs' : List Run). known_at d.gathered.known.octets.items rs' place) rs
      ∙ known.1 ∙ sym (known_given d.gathered place _ known.1) ∙ holds.given place;
  covered = ap total rs ∙ holds.sound.covered ∙ sym (ap length os);
  counted = subst (AllByRecursion (λ (run : Run). 1 ≤ run.count)) (sym rs) (recursion_from_All (λ (run : Run). 1 ≤ run.count) d.gathered.known.runs.items holds.sound.counted);
}

-- what is told of a connection that isn't refused
pub told_is : {Z : Type 0} (n : ℕ) (segments : List Segment) (g : Gathering Z) (connection : Connection) → IsOne segments g → refusal_in g ≡ None → Shows n g connection → Tells segments connection
told_is n [] g connection one fine shows = absurd one
told_is n (s ∷ before) g connection one fine shows =
    let none = no_fault g.fault _ fine in
    record {
      local_port = shows.local_port ∙ one.0.local_port;
      peer_port = shows.peer_port ∙ one.0.peer_port;
      opened_by = shows.opened_by ∙ ap (λ o. unwrap_or o g.first_from) one.1.opener ∙ ap (unwrap_or (opener_of (s ∷ before))) one.0.first_from;
      packet = shows.packet ∙ one.0.packet;
      second = shows.second ∙ one.0.second;
      micro = shows.micro ∙ one.0.micro;
      received = stream_is Peer (s ∷ before) g.received connection.received (one.1.received none) shows.received_octets shows.received_runs;
      sent = stream_is Local (s ∷ before) g.sent connection.sent (one.1.sent none) shows.sent_octets shows.sent_runs;
      end = shows.end ∙ one.1.end;
    }

pub opens_is : {Z : Type 0} (n : ℕ) (segments : List Segment) (g : Gathering Z) (opening : Opening) → IsOne segments g → Opens n g opening → OpensAs segments opening
opens_is n [] g opening one opens = absurd one
opens_is n (s ∷ before) g opening one opens = record {
  local_port = opens.local_port ∙ one.0.local_port;
  peer_port = opens.peer_port ∙ one.0.peer_port;
  opened_by = opens.opened_by ∙ ap (λ o. unwrap_or o g.first_from) one.1.opener ∙ ap (unwrap_or (opener_of (s ∷ before))) one.0.first_from;
  packet = opens.packet ∙ one.0.packet;
  second = opens.second ∙ one.0.second;
  micro = opens.micro ∙ one.0.micro;
}
