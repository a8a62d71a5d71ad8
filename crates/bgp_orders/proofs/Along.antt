-- The entries of a walk that leads to a node are those of a run.
use Rattle.std.proofs.Common.{◌≡◌, ◌++◌, ◌+◌, ◌<◌, ◌⊎◌, inl, inr, ℕ, Bool, true, false, List, [], ◌∷◌, Option, None, Some, IfNone, IfSome, IsTrue, IsSomeAnd, drop, length, map, max, refl, sym, ap, subst, ◌∙◌, arith}
use Rattle.std.proofs.lemmas.List.{map-append}
use Rattle.bgp_prefix.specs.Shown as shown
use Rattle.bgp_prefix.specs.Shown.{ShownRecord}
use Rattle.mrt.specs.Reader.{shown_of}
use Rattle.streams.specs.declared.connection.End.{End}
use Rattle.bgp_open.specs.declared.config.Config.{Config}
use Rattle.bgp_machine.specs.Owed.{EachOwedCanBeMet}
use Rattle.bgp_recording.specs.declared.entry.Entry.{Entry}
use Rattle.bgp_recording.specs.declared.message.Message.{Message}
use Rattle.bgp_recording.specs.declared.pending.Moment.{Moment}
use Rattle.bgp_recording.specs.declared.ordering.Exchange.{Exchange}
use Rattle.bgp_recording.specs.declared.state.State.{State}
use Rattle.bgp_recording.specs.Captured.{records_of}
use Rattle.bgp_recording.specs.Changes.{led_by_end, led_by_left, led_by_sent, state_then}
use Rattle.bgp_recording.specs.First.{IsFirst}
use Rattle.bgp_recording.specs.Leads.{IsDone, MayEndNext, MayPass, MayReceiveNext, MaySendNext}
use Rattle.bgp_recording.specs.Tells.{Numbered, change, numbered_of, numbered_with}
use Rattle.bgp_recording.proofs.Lists.{first_is}
use Rattle.bgp_judge.specs.Chains.{BareReaches}
use Rattle.bgp_judge.specs.Member.{Member, fresh_member}
use Rattle.bgp_orders.specs.declared.course.Course.{Course}
use Rattle.bgp_orders.specs.declared.course.Step.{Step}
use Rattle.bgp_orders.specs.declared.node.Spot.{Spot}
use Rattle.bgp_orders.specs.declared.search.Ending.{Ending}
use Rattle.bgp_orders.specs.declared.search.Turn.{Turn}
use Rattle.bgp_orders.specs.Entries.{numbered_of_way}
use Rattle.bgp_orders.specs.Explained.{ShowARun}
use Rattle.bgp_orders.specs.Nodes.{Ends, Hears, IsLast, Node, Says, after_end, after_received, after_sent}
use Rattle.bgp_orders.specs.Rows.{StartsIn, end_left, pending_at}
use Rattle.bgp_orders.specs.Tracks.{GoesAlong, GoesOnBy, IsAlong, IsAt, LeadsAlong, LeadsToLast, StepsTo, node_with, shown_in}
use Rattle.bgp_orders.specs.Turns.{Closing, Hearing, Saying, ended_spot, first_spot, heard_spot, left_at, led_at, said_spot}
use Rattle.bgp_orders.specs.Ways.{MayStart, changed_to, end_records, received_records, sent_records}
use Rattle.bgp_orders.proofs.Entries.{map_map}
use Rattle.bgp_orders.proofs.Reached.{to_complete}
use Rattle.bgp_orders.proofs.Steps.{first_of_list, left_is, same_some, some_and}
use Rattle.bgp_orders.proofs.Ways.{change_shown, join}

-- ---- records and members

shown_more : (numbered new : List Numbered) (moment : Moment) (r : ShownRecord) (second : ℕ) (state : State) (led : Option State) → new ≡ numbered ++ numbered_with moment r ∷ change moment second state led
    → shown_in new ≡ shown_in numbered ++ r ∷ changed_to second state led
shown_more numbered new moment r second state led e =
    ap shown_in e
    ∙ map-append (λ (n : Numbered). n.shown) numbered (numbered_with moment r ∷ change moment second state led)
    ∙ ap (λ (v : List ShownRecord). shown_in numbered ++ r ∷ v) (change_shown moment second state led)

-- what is shown behind leads on
leads_behind : (config : Config) (exchange : Exchange) (spot spot2 : Spot) (numbered new : List Numbered) (records : List ShownRecord) (n n2 : Node) → IsAlong config exchange spot numbered n
    → shown_in new ≡ shown_in numbered ++ records → n2 ≡ node_with exchange spot2 n2.member → BareReaches config n.member records n2.member → IsAlong config exchange spot2 new n2
leads_behind config exchange spot spot2 numbered new records n n2 at e stands k = record {
  stands = stands;
  reaches = subst (λ (v : List ShownRecord). BareReaches config fresh_member v n2.member) (sym e) (join config fresh_member n.member n2.member (shown_in numbered) records at.reaches k);
}

-- a node of this spot and member
standing : (exchange : Exchange) (spot : Spot) (m : Member) (n2 : Node) → n2 ≡ node_with exchange spot m → n2 ≡ node_with exchange spot n2.member
standing exchange spot m n2 e = e ∙ ap (λ (v : Member). node_with exchange spot v) (sym (ap (λ (v : Node). v.member) e))

-- ---- a received message

pub may_hear : (config : Config) (exchange : Exchange) (spot : Spot) (n n2 : Node) (x : Message) → n ≡ node_with exchange spot n.member → Hears config n x n2 → MayReceiveNext (pending_at exchange spot)
may_hear config exchange spot n n2 x stands hears =
    let h : Hears config (node_with exchange spot n.member) x n2 = subst (λ (v : Node). Hears config v x n2) stands hears in
    (x, subst (λ (v : List Message). IsFirst v x) (sym h.1) refl, h.2)

pub heard_along : (config : Config) (exchange : Exchange) (spot : Spot) (turn : Turn) (spot2 : Spot) (numbered new : List Numbered) (n n2 : Node) (x : Message) → Hearing exchange spot turn → spot2 ≡ turn.spot
    → new ≡ numbered ++ numbered_with turn.moment (shown_of turn.record) ∷ change turn.moment turn.spot.last spot.state turn.led
    → IsAlong config exchange spot numbered n → Hears config n x n2 → IsAlong config exchange spot2 new n2
heard_along config exchange spot turn spot2 numbered new n n2 x h there e at hears =
    let y = h.message in
    let n1 : Node = node_with exchange spot n.member in
    let k : Hears config n1 x n2 = subst (λ (v : Node). Hears config v x n2) at.stands hears in
    let left : List Message = drop (spot.place.received + 1) exchange.received.now in
    let is : drop spot.place.received exchange.received.now ≡ y ∷ left = first_is exchange.received.now spot.place.received y h.first in
    let same = first_of_list x y k.0 left (sym k.1 ∙ is) in
    let Then : Message → List Message → Type 0 = λ z rest.
    BareReaches config n.member (received_records (max z.second spot.last) spot.state (led_at exchange spot z) z) k.3 × (n2 ≡ after_received n1 z rest k.3) in
    let then : Then y left = subst (λ (v : List Message). Then y v) same.1 (subst (λ (v : Message). Then v k.0) same.0 (k.4, k.5)) in
    let spot_is : spot2 ≡ heard_spot exchange spot y = there ∙ h.leads in
    let stands : n2 ≡ node_with exchange spot2 n2.member =
    standing exchange spot2 k.3 n2 (then.1 ∙ ap (λ (s : Spot). node_with exchange s k.3) (sym spot_is)) in
    let last : turn.spot.last ≡ max y.second spot.last = ap (λ (s : Spot). s.last) h.leads in
    let records : shown_in new ≡ shown_in numbered ++ received_records (max y.second spot.last) spot.state (led_at exchange spot y) y =
    shown_more numbered new turn.moment (shown_of turn.record) turn.spot.last spot.state turn.led e
    ∙ ap (λ (r : ShownRecord). shown_in numbered ++ r ∷ changed_to turn.spot.last spot.state turn.led) h.shows
    ∙ ap (λ (t : ℕ). shown_in numbered ++ shown.Received (max y.second spot.last) y.octets.now ∷ changed_to t spot.state turn.led) last
    ∙ ap (λ (led : Option State). shown_in numbered ++ received_records (max y.second spot.last) spot.state led y) h.led in
    leads_behind config exchange spot spot2 numbered new _ n n2 at records stands (subst (λ (v : Member). BareReaches config n.member (received_records (max y.second spot.last) spot.state (led_at exchange spot y) y) v)
    (sym (ap (λ (v : Node). v.member) then.1)) then.0)

-- ---- a sent one

pub may_say : (config : Config) (within : ℕ) (exchange : Exchange) (spot : Spot) (n n2 : Node) (x : Message) → n ≡ node_with exchange spot n.member → Says config within n x n2
    → MaySendNext within (pending_at exchange spot)
may_say config within exchange spot n n2 x stands says =
    let h : Says config within (node_with exchange spot n.member) x n2 = subst (λ (v : Node). Says config within v x n2) stands says in
    (x, subst (λ (v : List Message). IsFirst v x) (sym h.1) refl, h.2)

pub said_along : (config : Config) (within : ℕ) (exchange : Exchange) (spot : Spot) (turn : Turn) (spot2 : Spot) (numbered new : List Numbered) (n n2 : Node) (x : Message) → Saying within exchange spot turn
    → spot2 ≡ turn.spot → new ≡ numbered ++ numbered_with turn.moment (shown_of turn.record) ∷ change turn.moment turn.spot.last spot.state turn.led
    → IsAlong config exchange spot numbered n → Says config within n x n2 → IsAlong config exchange spot2 new n2
said_along config within exchange spot turn spot2 numbered new n n2 x h there e at says =
    let y = h.message in
    let n1 : Node = node_with exchange spot n.member in
    let k : Says config within n1 x n2 = subst (λ (v : Node). Says config within v x n2) at.stands says in
    let left : List Message = drop (spot.place.sent + 1) exchange.sent.now in
    let is : drop spot.place.sent exchange.sent.now ≡ y ∷ left = first_is exchange.sent.now spot.place.sent y h.first in
    let same = first_of_list x y k.0 left (sym k.1 ∙ is) in
    let its : Message → List ShownRecord = λ z. sent_records z.second spot.state (led_by_sent spot.state z.kind spot.before) z in
    let Then : Message → List Message → Type 0 = λ z rest. BareReaches config n.member (its z) k.3 × (n2 ≡ after_sent n1 z rest k.3) in
    let then : Then y left = subst (λ (v : List Message). Then y v) same.1 (subst (λ (v : Message). Then v k.0) same.0 (k.4, k.5)) in
    let spot_is : spot2 ≡ said_spot spot y = there ∙ h.leads in
    let stands : n2 ≡ node_with exchange spot2 n2.member =
    standing exchange spot2 k.3 n2 (then.1 ∙ ap (λ (s : Spot). node_with exchange s k.3) (sym spot_is)) in
    let last : turn.spot.last ≡ y.second = ap (λ (s : Spot). s.last) h.leads in
    let records : shown_in new ≡ shown_in numbered ++ its y =
    shown_more numbered new turn.moment (shown_of turn.record) turn.spot.last spot.state turn.led e
    ∙ ap (λ (r : ShownRecord). shown_in numbered ++ r ∷ changed_to turn.spot.last spot.state turn.led) h.shows
    ∙ ap (λ (t : ℕ). shown_in numbered ++ shown.Sent y.second y.octets.now ∷ changed_to t spot.state turn.led) last
    ∙ ap (λ (led : Option State). shown_in numbered ++ sent_records y.second spot.state led y) h.led in
    leads_behind config exchange spot spot2 numbered new (its y) n n2 at records stands
    (subst (λ (v : Member). BareReaches config n.member (its y) v) (sym (ap (λ (v : Node). v.member) then.1)) then.0)

none_first : (xs : List Message) (x : Message) → IsFirst xs x → xs ≡ [] → ⊥
none_first [] x h e = h
none_first (y ∷ ys) x h e = absurd (let k : ⊥ = cc in k)

-- where a sent message is left the end doesn't stand next
pub no_end_yet : (config : Config) (within : ℕ) (exchange : Exchange) (spot : Spot) (turn : Turn) (n n2 : Node) (x : End) → Saying within exchange spot turn → n ≡ node_with exchange spot n.member
    → Ends config within n x n2 → ⊥
no_end_yet config within exchange spot turn n n2 x h stands ends =
    let k : Ends config within (node_with exchange spot n.member) x n2 = subst (λ (v : Node). Ends config within v x n2) stands ends in
    none_first (drop spot.place.sent exchange.sent.now) h.message h.first k.1

-- ---- the end

pub may_end : (config : Config) (within : ℕ) (exchange : Exchange) (spot : Spot) (n n2 : Node) (x : End) → n ≡ node_with exchange spot n.member → Ends config within n x n2
    → MayEndNext within (pending_at exchange spot)
may_end config within exchange spot n n2 x stands ends =
    let h : Ends config within (node_with exchange spot n.member) x n2 = subst (λ (v : Node). Ends config within v x n2) stands ends in
    (h.1, some_and (λ e. MayPass within e.second (drop spot.place.received exchange.received.now)) (end_left spot.has_ended exchange.end) x h.0 h.2)

shown_end : (numbered new : List Numbered) (moment : Moment) (second : ℕ) (state : State) (left : Bool)
    → new ≡ numbered ++ (change moment second state (led_by_end state) ++ change moment second (state_then state (led_by_end state)) (led_by_left state left))
    → shown_in new ≡ shown_in numbered ++ end_records second state left
shown_end numbered new moment second state left e =
    let one : List Numbered = change moment second state (led_by_end state) in
    let other : List Numbered = change moment second (state_then state (led_by_end state)) (led_by_left state left) in
    ap shown_in e
    ∙ map-append (λ (n : Numbered). n.shown) numbered (one ++ other)
    ∙ ap (λ (v : List ShownRecord). shown_in numbered ++ v) (map-append (λ (n : Numbered). n.shown) one other)
    ∙ ap (λ (v : List ShownRecord). shown_in numbered ++ (v ++ shown_in other)) (change_shown moment second state (led_by_end state))
    ∙ ap (λ (v : List ShownRecord). shown_in numbered ++ (changed_to second state (led_by_end state) ++ v))
    (change_shown moment second (state_then state (led_by_end state)) (led_by_left state left))

pub ended_along : (config : Config) (within : ℕ) (exchange : Exchange) (spot : Spot) (ending : Ending) (spot2 : Spot) (numbered new : List Numbered) (n n2 : Node) (x : End) → Closing within exchange spot ending
    → spot2 ≡ ending.spot → new ≡ numbered ++ (change ending.moment ending.spot.last spot.state (led_by_end spot.state)
    ++ change ending.moment ending.spot.last (state_then spot.state (led_by_end spot.state)) (led_by_left spot.state ending.are_left))
    → IsAlong config exchange spot numbered n → Ends config within n x n2 → IsAlong config exchange spot2 new n2
ended_along config within exchange spot ending spot2 numbered new n n2 x h there e at ends =
    let y = h.end in
    let n1 : Node = node_with exchange spot n.member in
    let k : Ends config within n1 x n2 = subst (λ (v : Node). Ends config within v x n2) at.stands ends in
    let its : End → List ShownRecord = λ z. end_records (max z.second spot.last) spot.state (left_at exchange spot) in
    let left = left_is spot.has_ended exchange.end y (λ v. MayPass within v.second (drop spot.place.received exchange.received.now)) h.is h.may.1 in
    let Then : End → Type 0 = λ z. BareReaches config n.member (its z) k.3 × (n2 ≡ after_end n1 z k.3) in
    let then : Then y = subst Then (same_some x y (sym k.0 ∙ left.0)) (k.4, k.5) in
    let spot_is : spot2 ≡ ended_spot exchange spot y = there ∙ h.leads in
    let stands : n2 ≡ node_with exchange spot2 n2.member =
    standing exchange spot2 k.3 n2 (then.1 ∙ ap (λ (s : Spot). node_with exchange s k.3) (sym spot_is)) in
    let last : ending.spot.last ≡ max y.second spot.last = ap (λ (s : Spot). s.last) h.leads in
    let records : shown_in new ≡ shown_in numbered ++ its y =
    shown_end numbered new ending.moment ending.spot.last spot.state ending.are_left e
    ∙ ap (λ (t : ℕ). shown_in numbered ++ end_records t spot.state ending.are_left) last
    ∙ ap (λ (b : Bool). shown_in numbered ++ end_records (max y.second spot.last) spot.state b) h.left in
    leads_behind config exchange spot spot2 numbered new (its y) n n2 at records stands
    (subst (λ (v : Member). BareReaches config n.member (its y) v) (sym (ap (λ (v : Node). v.member) then.1)) then.0)

-- ---- from the first step to the last

-- the steps that are left lead from where the entries are to each node to which all lead
abbrev pub LeadsOn : Config → ℕ → Exchange → State → List Step → Spot → List Numbered → List Step → Type 0
LeadsOn config within exchange start walked spot numbered rest =
    (n : Node) → LeadsAlong config within exchange start walked n
    → (mid : Node) × IsAlong config exchange spot numbered mid × GoesAlong config within mid rest n

pub first_on : (config : Config) (within : ℕ) (exchange : Exchange) (start : State) (walked : List Step) (spot : Spot) (numbered : List Numbered) → spot ≡ first_spot exchange start
    → numbered ≡ numbered_of_way exchange start [] → LeadsOn config within exchange start walked spot numbered walked
first_on config within exchange start walked spot numbered there e = λ n along.
    let first : Node = along.0 in
    let starts = along.1 in
    let m : Member = starts.1 in
    let stands : first ≡ node_with exchange spot m = starts.3 ∙ ap (λ (s : Spot). node_with exchange s m) (sym there) in
    let is : first.member ≡ m = ap (λ (v : Node). v.member) stands in (
      first,
      record {
        stands = standing exchange spot m first stands;
        reaches = subst (λ (v : List Numbered). BareReaches config fresh_member (shown_in v) first.member) (sym e) (m, starts.2, sym is);
      },
      along.2,
    )

pub step_on : {X : Type 0} (config : Config) (within : ℕ) (exchange : Exchange) (start : State) (walked : List Step) (old new : Course X) (step : Step) (may : Bool) (left rest : List Step)
    → LeadsOn config within exchange start walked old.spot (map numbered_of old.entries.items) left → left ≡ step ∷ rest → GoesOnBy config within exchange step may old new
    → (n : Node) → LeadsAlong config within exchange start walked n → IsTrue may × ((mid : Node) × IsAlong config exchange new.spot (map numbered_of new.entries.items) mid × GoesAlong config within mid rest n)
step_on config within exchange start walked old new step may left rest so_far e goes n along =
    let k = so_far n along in
    let then : GoesAlong config within k.0 (step ∷ rest) n = subst (λ (v : List Step). GoesAlong config within k.0 v n) e k.2 in
    let next = goes k.0 then.0 k.1 then.1 in
    (next.0, (then.0, next.1, then.2))

-- where no step is left, nothing of the exchange is
last_at : (config : Config) (within : ℕ) (exchange : Exchange) (start : State) (walked : List Step) (spot : Spot) (numbered : List Numbered) (rest : List Step)
    → LeadsOn config within exchange start walked spot numbered rest → rest ≡ [] → (n : Node) → LeadsAlong config within exchange start walked n → IsAlong config exchange spot numbered n
last_at config within exchange start walked spot numbered rest so_far none n along =
    let k = so_far n along in
    let is : k.0 ≡ n = subst (λ (v : List Step). GoesAlong config within k.0 v n) none k.2 in
    subst (λ (v : Node). IsAlong config exchange spot numbered v) is k.1

pub done_there : (config : Config) (within : ℕ) (exchange : Exchange) (start : State) (walked : List Step) (spot : Spot) (numbered : List Numbered) (rest : List Step)
    → LeadsOn config within exchange start walked spot numbered rest → rest ≡ [] → LeadsToLast config within exchange start walked → IsDone (pending_at exchange spot)
done_there config within exchange start walked spot numbered rest so_far none to =
    let n : Node = to.0 in
    let at = last_at config within exchange start walked spot numbered rest so_far none n to.1 in
    let last = to.2 in
    record {
      received = sym (ap (λ (v : Node). v.received) at.stands) ∙ last.received;
      sent = sym (ap (λ (v : Node). v.sent) at.stands) ∙ last.sent;
      end = sym (ap (λ (v : Node). v.end) at.stands) ∙ last.end;
    }

pub run_there : EachOwedCanBeMet → (config : Config) (within : ℕ) (exchange : Exchange) (start : State) (walked : List Step) (spot : Spot) (entries : List Entry) (rest : List Step)
    → LeadsOn config within exchange start walked spot (map numbered_of entries) rest → rest ≡ [] → LeadsToLast config within exchange start walked → ShowARun config (records_of entries)
run_there law config within exchange start walked spot entries rest so_far none to =
    let n : Node = to.0 in
    let at = last_at config within exchange start walked spot (map numbered_of entries) rest so_far none n to.1 in
    let reaches : BareReaches config fresh_member (records_of entries) n.member =
    subst (λ (v : List ShownRecord). BareReaches config fresh_member v n.member) (map_map entries) at.reaches in
    let last = to.2 in
    let k = to_complete law config (records_of entries) n.member reaches last.free in
    (k.0, k.1)

pub starts_so : (config : Config) (within : ℕ) (exchange : Exchange) (start : State) (walked : List Step) → LeadsToLast config within exchange start walked → MayStart exchange start
starts_so config within exchange start walked to = to.1.1.0

-- ---- what is found

pub some_so : {T : Type 0} (o : Option T) (P : T → Type 0) → IsSomeAnd o P → IfSome o P
some_so None P h = absurd h
some_so (Some x) P h = h

pub not_none : {T : Type 0} (o : Option T) (P : T → Type 0) (Q : Type 0) → IsSomeAnd o P → IfNone o Q
not_none None P Q h = absurd h
not_none (Some x) P Q h = tt

pub none_is : {T : Type 0} (o : Option T) (Q : Type 0) → o ≡ None → IfNone o Q → Q
none_is o Q e h = subst (λ (v : Option _). IfNone v Q) e h
