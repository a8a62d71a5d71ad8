-- An order while it is made: whatever tells what is left, tells all behind the records so far.
use Rattle.std.proofs.Common.{◌≡◌, ◌∙◌, ◌<◌, ◌≤◌, ◌+◌, ℕ, Bool, true, false, List, [], ◌∷◌, ◌++◌, Option, None, Some, IfSome, ap, subst, sym, refl, arith, max, length, append_assoc, append-nil}
use Rattle.std.proofs.lemmas.Bool.{false≢true}
use Rattle.std.proofs.Math.Nat.{le-max_right, max-le}
use Rattle.std.specs.List.{AllByRecursion}
use Rattle.bgp_prefix.specs.Shown as shown
use Rattle.streams.specs.declared.connection.End.{End}
use Rattle.bgp_recording.specs.declared.standing.Before.{Before}
use Rattle.bgp_recording.specs.declared.standing.Before.TheVariants.{Other}
use Rattle.bgp_recording.specs.declared.state.State.{State}
use Rattle.bgp_recording.specs.declared.message.Message.{Message}
use Rattle.bgp_recording.specs.declared.ordering.Exchange.{Exchange}
use Rattle.bgp_recording.specs.declared.pending.Turn.{Turn}
use Rattle.bgp_recording.specs.declared.pending.Turn.TheVariants as turns
use Rattle.bgp_recording.specs.Allowed.{ends_of}
use Rattle.bgp_recording.specs.Leads.{Pending, LeadsReceived, LeadsSent, LeadsEnd, Leads, IsDone, MayKeep, own_of}
use Rattle.bgp_recording.specs.Changes.{led_by_received, led_by_sent, is_answered_before_open, just_received, just_sent, opened_state, state_then}
use Rattle.bgp_recording.specs.Steps.{Making, ShowsReceived, ShowsSent, ShowsEnd, Shows, Steps, StepsOrEnds, Begins}
use Rattle.bgp_recording.specs.Tells.{Numbered, numbered_with, change, opening, Tells}
use Rattle.bgp_recording.specs.Told.{IsClock, GoesBy, Rises, IsLast, AreClocked, IsTold}
use Rattle.bgp_recording.specs.Moments.{end_moment, moment_in, opening_moment}
use Rattle.bgp_recording.proofs.Orders.{before_all, before_end, not_later, in_time_all}
use Rattle.bgp_recording.proofs.Telling.{Follows, follows_received, follows_sent, follows_end, ended_with, changes_at_end}

-- what is left goes by the clock
abbrev pub IsOnTime : (ℕ → ℕ) → Pending → Type 0
IsOnTime clock pending = AreClocked clock pending.received pending.sent pending.end

-- these records tell what is exchanged
abbrev pub TellsIt : ℕ → Exchange → List Numbered → Type 0
TellsIt within exchange numbered =
    Tells within exchange.opened_by (opening_moment exchange) exchange.received.now exchange.sent.now exchange.end numbered

-- whatever may follow the records so far
abbrev pub Goes : ℕ → Exchange → Making → Type 0
Goes within exchange making =
    (rest : List Numbered) → Follows within making.last making.state making.before making.pending.received making.pending.sent making.pending.end rest
    → TellsIt within exchange (making.numbered ++ rest)

pub record IsUnderWay (within : ℕ) (exchange : Exchange) (making : Making) : Type 0 where
  pub clock : ℕ → ℕ
  pub go_by : IsOnTime clock making.pending
  pub ahead : AllByRecursion (λ s. making.last ≤ s.second) making.pending.sent
  pub so_far : Goes within exchange making

-- ---- what is left after a step

tail_by : (P : Message → Type 0) (xs ys : List Message) (m : Message) → xs ≡ m ∷ ys → AllByRecursion P xs → P m × AllByRecursion P ys
tail_by P xs ys m e h = subst (λ (zs : List Message). AllByRecursion P zs) e h

tail_rises : (xs ys : List Message) (m : Message) → xs ≡ m ∷ ys → Rises xs → AllByRecursion (λ n. m.packet ≤ n.packet) ys × Rises ys
tail_rises xs ys m e h = subst (λ (zs : List Message). Rises zs) e h

last_tail : (xs ys : List Message) (m : Message) (end : Option End) → xs ≡ m ∷ ys → IfSome end (IsLast xs) → IfSome end (IsLast ys)
last_tail xs ys m None e h = tt
last_tail xs ys m (Some end) e h = λ own. (subst (λ (zs : List Message). AllByRecursion (λ m. m.packet ≤ end.packet) zs) e (h own)).1

clocked_received : (clock : ℕ → ℕ) (old new : Pending) (r : Message) → LeadsReceived old r new → IsOnTime clock old → IsOnTime clock new
clocked_received clock old new r leads h = record {
  clocked = h.clocked;
  received_by = (tail_by _ _ _ _ leads.received h.received_by).1;
  sent_by = subst (λ (xs : List Message). AllByRecursion (GoesBy clock) xs) (sym leads.sent) h.sent_by;
  end_by = subst (λ (e : Option End). IfSome e (λ e. e.second ≡ clock e.packet)) (sym leads.end) h.end_by;
  received_rise = (tail_rises _ _ _ leads.received h.received_rise).1;
  sent_rise = subst (λ (xs : List Message). Rises xs) (sym leads.sent) h.sent_rise;
  sent_last = subst (λ (e : Option End). IfSome e (IsLast new.sent)) (sym leads.end)
      (subst (λ (xs : List Message). IfSome old.end (IsLast xs)) (sym leads.sent) h.sent_last);
}

clocked_sent : (within : ℕ) (clock : ℕ → ℕ) (old new : Pending) (s : Message) → LeadsSent within old s new → IsOnTime clock old → IsOnTime clock new
clocked_sent within clock old new s leads h = record {
  clocked = h.clocked;
  received_by = subst (λ (xs : List Message). AllByRecursion (GoesBy clock) xs) (sym leads.received) h.received_by;
  sent_by = (tail_by _ _ _ _ leads.sent h.sent_by).1;
  end_by = subst (λ (e : Option End). IfSome e (λ e. e.second ≡ clock e.packet)) (sym leads.end) h.end_by;
  received_rise = subst (λ (xs : List Message). Rises xs) (sym leads.received) h.received_rise;
  sent_rise = (tail_rises _ _ _ leads.sent h.sent_rise).1;
  sent_last = subst (λ (e : Option End). IfSome e (IsLast new.sent)) (sym leads.end) (last_tail _ _ _ old.end leads.sent h.sent_last);
}

clocked_end : (within : ℕ) (clock : ℕ → ℕ) (old new : Pending) (e : End) → LeadsEnd within old e new → IsOnTime clock old → IsOnTime clock new
clocked_end within clock old new e leads h = record {
  clocked = h.clocked;
  received_by = subst (λ (xs : List Message). AllByRecursion (GoesBy clock) xs) (sym leads.received) h.received_by;
  sent_by = subst (λ (xs : List Message). AllByRecursion (GoesBy clock) xs) (sym leads.sent) tt;
  end_by = subst (λ (o : Option End). IfSome o (λ e. e.second ≡ clock e.packet)) (sym leads.end_after) tt;
  received_rise = subst (λ (xs : List Message). Rises xs) (sym leads.received) h.received_rise;
  sent_rise = subst (λ (xs : List Message). Rises xs) (sym leads.sent) tt;
  sent_last = subst (λ (o : Option End). IfSome o (IsLast new.sent)) (sym leads.end_after) tt;
}

-- ---- the records so far, and those of a step

put_then : (within : ℕ) (exchange : Exchange) (before after more rest : List Numbered) → after ≡ before ++ more → TellsIt within exchange (before ++ (more ++ rest))
    → TellsIt within exchange (after ++ rest)
put_then within exchange before after more rest e h =
    subst (λ (ns : List Numbered). TellsIt within exchange ns) (sym (ap (λ (ns : List Numbered). ns ++ rest) e ∙ append_assoc before more rest)) h

same_state : (within least : ℕ) (state state' : State) (before before' : Before) (rs ss : List Message) (end : Option End) (rest : List Numbered) → state ≡ state' → before ≡ before'
    → Follows within least state before rs ss end rest → Follows within least state' before' rs ss end rest
same_state within least state state' before before' rs ss end rest p q h =
    subst (λ (b : Before). Follows within least state' b rs ss end rest) q (subst (λ (s : State). Follows within least s before rs ss end rest) p h)

same_left : (within least : ℕ) (state state' : State) (before : Before) (rs rs' ss ss' : List Message) (end end' : Option End) (rest : List Numbered) → state ≡ state' → rs ≡ rs' → ss ≡ ss'
    → end ≡ end' → Follows within least state before rs ss end rest → Follows within least state' before rs' ss' end' rest
same_left within least state state' before rs rs' ss ss' end end' rest p q r e h =
    subst (λ (o : Option End). Follows within least state' before rs' ss' o rest) e
    (subst (λ (xs : List Message). Follows within least state' before rs' xs end rest) r
    (subst (λ (xs : List Message). Follows within least state' before xs ss end rest) q
    (subst (λ (s : State). Follows within least s before rs ss end rest) p h)))

-- seconds of what is still to be sent
ahead_received : (clock : ℕ → ℕ) (r : Message) (last : ℕ) (ss : List Message) → IsClock clock → GoesBy clock r → AllByRecursion (GoesBy clock) ss
    → AllByRecursion (λ s. r.packet < s.packet) ss → AllByRecursion (λ s. last ≤ s.second) ss → AllByRecursion (λ s. max r.second last ≤ s.second) ss
ahead_received clock r last [] clocked by sent before h = tt
ahead_received clock r last (s ∷ ss) clocked by sent before h = (
  max-le (not_later clock r.packet r.second s.packet s.second clocked by sent.0 (omega (arith, before.0))) h.0,
  ahead_received clock r last ss clocked by sent.1 before.1 h.1,
)

keeps_sent : (within : ℕ) (rs ss later : List Message) (s : Message) (end : Option End) → ss ≡ s ∷ later → MayKeep within rs (own_of ss end)
    → MayKeep within rs (Some (moment_in s))
keeps_sent within rs ss later s end e h = subst (λ (xs : List Message). MayKeep within rs (own_of xs end)) e h

keeps_end : (within : ℕ) (rs ss : List Message) (end : End) (o : Option End) → ss ≡ [] → o ≡ Some end → MayKeep within rs (own_of ss o)
    → MayKeep within rs (Some (end_moment end))
keeps_end within rs ss end o e p h =
    subst (λ (q : Option End). MayKeep within rs (own_of [] q)) p (subst (λ (xs : List Message). MayKeep within rs (own_of xs o)) e h)

from_first : (clock : ℕ → ℕ) (packet second : ℕ) (ss : List Message) → IsClock clock → second ≡ clock packet → AllByRecursion (GoesBy clock) ss
    → AllByRecursion (λ s. packet ≤ s.packet) ss → AllByRecursion (λ s. second ≤ s.second) ss
from_first clock packet second [] clocked by sent first = tt
from_first clock packet second (s ∷ ss) clocked by sent first =
    (not_later clock packet second s.packet s.second clocked by sent.0 first.0, from_first clock packet second ss clocked by sent.1 first.1)

-- ---- the steps

after_received : (within : ℕ) (exchange : Exchange) (old new : Making) (r : Message) → LeadsReceived old.pending r new.pending → ShowsReceived old r new
    → IsUnderWay within exchange old → IsUnderWay within exchange new
after_received within exchange old new r leads shows h =
    let ahead = before_all r old.pending.sent old.pending.end leads.before h.go_by.sent_rise in
    let ended = before_end r old.pending.sent old.pending.end leads.before h.go_by.sent_last in
    let by = (tail_by _ _ _ _ leads.received h.go_by.received_by).0 in
    record {
      clock = h.clock;
      go_by = clocked_received h.clock old.pending new.pending r leads h.go_by;
      ahead = subst (λ (n : ℕ). AllByRecursion (λ s. n ≤ s.second) new.pending.sent) (sym shows.second)
          (subst (λ (xs : List Message). AllByRecursion (λ s. max r.second old.last ≤ s.second) xs) (sym leads.sent)
          (ahead_received h.clock r old.last old.pending.sent h.go_by.clocked by h.go_by.sent_by ahead h.ahead));
      so_far = λ rest follows.
          let led = led_by_received old.state r.kind (is_answered_before_open r.kind old.pending.sent) in
          let n = numbered_with (moment_in r) (shown.Received new.last r.octets.now) in
          let after : Follows within new.last (state_then old.state led) (just_received r.kind) new.pending.received old.pending.sent old.pending.end rest =
          same_left within new.last (state_then old.state (led_by_received old.state r.kind (is_answered_before_open r.kind new.pending.sent))) (state_then old.state led) (just_received r.kind)
          new.pending.received new.pending.received new.pending.sent old.pending.sent new.pending.end old.pending.end rest
          (ap (λ (xs : List Message). state_then old.state (led_by_received old.state r.kind (is_answered_before_open r.kind xs))) leads.sent) refl leads.sent leads.end
          (same_state within new.last new.state (state_then old.state (led_by_received old.state r.kind (is_answered_before_open r.kind new.pending.sent))) new.before (just_received r.kind)
          new.pending.received new.pending.sent new.pending.end rest shows.state shows.before follows) in
          let with_it = follows_received within old.last new.last old.state old.before r new.pending.received old.pending.sent old.pending.end rest ahead ended
          (omega (arith, le-max_right r.second old.last, shows.second)) shows.second after in
          let put : new.numbered ≡ old.numbered ++ (n ∷ change (moment_in r) new.last old.state led) =
          shows.put ∙ ap (λ (xs : List Message). old.numbered ++ (n ∷ change (moment_in r) new.last old.state (led_by_received old.state r.kind (is_answered_before_open r.kind xs)))) leads.sent in
          put_then within exchange old.numbered new.numbered (n ∷ change (moment_in r) new.last old.state led) rest put
          (h.so_far _ (subst (λ (xs : List Message). Follows within old.last old.state old.before xs old.pending.sent old.pending.end
          (n ∷ (change (moment_in r) new.last old.state led ++ rest))) (sym leads.received) with_it));
    }

after_sent : (within : ℕ) (exchange : Exchange) (old new : Making) (s : Message) → LeadsSent within old.pending s new.pending → ShowsSent old s new
    → IsUnderWay within exchange old → IsUnderWay within exchange new
after_sent within exchange old new s leads shows h =
    let by = tail_by _ _ _ _ leads.sent h.go_by.sent_by in
    let rises = tail_rises _ _ _ leads.sent h.go_by.sent_rise in
    let le = (tail_by _ _ _ _ leads.sent h.ahead).0 in
    let in_time = in_time_all within h.clock (moment_in s) old.pending.received h.go_by.clocked by.0 h.go_by.received_by h.go_by.received_rise
    (keeps_sent within old.pending.received old.pending.sent new.pending.sent s old.pending.end leads.sent leads.in_time) in
    record {
      clock = h.clock;
      go_by = clocked_sent within h.clock old.pending new.pending s leads h.go_by;
      ahead = subst (λ (n : ℕ). AllByRecursion (λ t. n ≤ t.second) new.pending.sent) (sym shows.second)
          (from_first h.clock s.packet s.second new.pending.sent h.go_by.clocked by.0 by.1 rises.0);
      so_far = λ rest follows.
          let led = led_by_sent old.state s.kind old.before in
          let n = numbered_with (moment_in s) (shown.Sent new.last s.octets.now) in
          let after : Follows within new.last (state_then old.state led) (just_sent old.state s.kind old.before) old.pending.received new.pending.sent old.pending.end rest =
          same_left within new.last (state_then old.state led) (state_then old.state led) (just_sent old.state s.kind old.before) new.pending.received old.pending.received new.pending.sent new.pending.sent
          new.pending.end old.pending.end rest refl leads.received refl leads.end
          (same_state within new.last new.state (state_then old.state led) new.before (just_sent old.state s.kind old.before) new.pending.received new.pending.sent new.pending.end rest shows.state shows.before follows) in
          let with_it = follows_sent within old.last new.last old.state old.before s old.pending.received new.pending.sent old.pending.end rest in_time
          (omega (arith, le, shows.second)) shows.second after in
          put_then within exchange old.numbered new.numbered (n ∷ change (moment_in s) new.last old.state led) rest shows.put
          (h.so_far _ (subst (λ (xs : List Message). Follows within old.last old.state old.before old.pending.received xs old.pending.end
          (n ∷ (change (moment_in s) new.last old.state led ++ rest))) (sym leads.sent) with_it));
    }

after_end : (within : ℕ) (exchange : Exchange) (old new : Making) (e : End) → LeadsEnd within old.pending e new.pending → ShowsEnd old e new
    → IsUnderWay within exchange old → IsUnderWay within exchange new
after_end within exchange old new e leads shows h =
    let by : e.second ≡ h.clock e.packet = subst (λ (o : Option End). IfSome o (λ e. e.second ≡ h.clock e.packet)) leads.end_before h.go_by.end_by in
    let in_time = in_time_all within h.clock (end_moment e) old.pending.received h.go_by.clocked by h.go_by.received_by h.go_by.received_rise
    (keeps_end within old.pending.received old.pending.sent e old.pending.end leads.sent_before leads.end_before leads.in_time) in
    record {
      clock = h.clock;
      go_by = clocked_end within h.clock old.pending new.pending e leads h.go_by;
      ahead = subst (λ (xs : List Message). AllByRecursion (λ s. new.last ≤ s.second) xs) (sym leads.sent) tt;
      so_far = λ rest follows.
          let left = new.pending.received in
          let after : Follows within new.last (ended_with old.state old.pending.received) Other old.pending.received [] None rest =
          same_left within new.last (ended_with old.state left) (ended_with old.state old.pending.received) Other left old.pending.received new.pending.sent [] new.pending.end None rest
          (ap (λ (xs : List Message). ended_with old.state xs) leads.received) leads.received leads.sent leads.end_after
          (same_state within new.last new.state (ended_with old.state left) new.before Other left new.pending.sent new.pending.end rest shows.state shows.before follows) in
          let with_it = follows_end within old.last new.last old.state old.before e old.pending.received rest in_time
          (omega (arith, le-max_right e.second old.last, shows.second)) shows.second after in
          let put : new.numbered ≡ old.numbered ++ changes_at_end (end_moment e) new.last old.state old.pending.received =
          shows.put ∙ ap (λ (xs : List Message). old.numbered ++ changes_at_end (end_moment e) new.last old.state xs) leads.received in
          put_then within exchange old.numbered new.numbered (changes_at_end (end_moment e) new.last old.state old.pending.received) rest put
          (h.so_far _ (subst (λ (o : Option End). Follows within old.last old.state old.before old.pending.received old.pending.sent o
          (changes_at_end (end_moment e) new.last old.state old.pending.received ++ rest)) (sym leads.end_before)
          (subst (λ (xs : List Message). Follows within old.last old.state old.before old.pending.received xs (Some e)
          (changes_at_end (end_moment e) new.last old.state old.pending.received ++ rest)) (sym leads.sent_before) with_it)));
    }

by_turn : (within : ℕ) (exchange : Exchange) (old new : Making) (turn : Turn) → Leads within old.pending turn new.pending → Shows old turn new
    → IsUnderWay within exchange old → IsUnderWay within exchange new
by_turn within exchange old new (turns.Received r) leads shows h = after_received within exchange old new r leads shows h
by_turn within exchange old new (turns.Sent s) leads shows h = after_sent within exchange old new s leads shows h
by_turn within exchange old new (turns.End e) leads shows h = after_end within exchange old new e leads shows h

pub steps_on : (within : ℕ) (exchange : Exchange) (old new : Making) → Steps within old new → IsUnderWay within exchange old → IsUnderWay within exchange new
steps_on within exchange old new steps h = by_turn within exchange old new steps.turn steps.leads steps.shows h

pub begins_under_way : (within : ℕ) (exchange : Exchange) (making : Making) → Begins exchange making → IsTold exchange → IsUnderWay within exchange making
begins_under_way within exchange making begun told =
    let ahead : AllByRecursion (λ s. exchange.second ≤ s.second) exchange.sent.now =
    from_first told.clock exchange.packet exchange.second exchange.sent.now told.go_by.clocked told.begins told.go_by.sent_by told.first in
    record {
      clock = told.clock;
      go_by =
          subst (λ (o : Option End). AreClocked told.clock making.pending.received making.pending.sent o) (sym begun.end)
          (subst (λ (xs : List Message). AreClocked told.clock making.pending.received xs exchange.end) (sym begun.sent)
          (subst (λ (xs : List Message). AreClocked told.clock xs exchange.sent.now exchange.end) (sym begun.received) told.go_by));
      ahead = subst (λ (n : ℕ). AllByRecursion (λ s. n ≤ s.second) making.pending.sent) (sym begun.last)
          (subst (λ (xs : List Message). AllByRecursion (λ s. exchange.second ≤ s.second) xs) (sym begun.sent) ahead);
      so_far = λ rest follows.
          let all : Follows within exchange.second (opened_state exchange.opened_by) Other exchange.received.now exchange.sent.now exchange.end rest =
          same_left within exchange.second making.state (opened_state exchange.opened_by) Other making.pending.received exchange.received.now making.pending.sent exchange.sent.now
          making.pending.end exchange.end rest begun.state begun.received begun.sent begun.end
          (subst (λ (n : ℕ). Follows within n making.state Other making.pending.received making.pending.sent making.pending.end rest) begun.last
          (subst (λ (b : Before). Follows within making.last making.state b making.pending.received making.pending.sent making.pending.end rest) begun.before follows)) in
          subst (λ (ns : List Numbered). TellsIt within exchange (ns ++ rest)) (sym begun.opens) record {
            events = all.events;
            allowed = all.allowed;
            timed = all.timed;
            shown = ap (λ (ns : List Numbered). opening exchange.opened_by (opening_moment exchange) ∷ ns) (sym all.shown);
          };
    }

nothing_follows : (within last : ℕ) (state : State) (before : Before) (rs ss : List Message) (end : Option End) → rs ≡ [] → ss ≡ [] → end ≡ None
    → Follows within last state before rs ss end []
nothing_follows within last state before rs ss end p q r = record {
  events = [];
  allowed = record { of_received = sym p; of_sent = sym q; of_end = sym (ap ends_of r); each = tt };
  timed = tt;
  shown = refl;
}

pub all_made : (within : ℕ) (exchange : Exchange) (making : Making) → IsDone making.pending → IsUnderWay within exchange making → TellsIt within exchange making.numbered
all_made within exchange making done h =
    subst (λ (ns : List Numbered). TellsIt within exchange ns) (append-nil making.numbered)
    (h.so_far [] (nothing_follows within making.last making.state making.before making.pending.received making.pending.sent making.pending.end done.received done.sent done.end))

-- ---- by what a step answers

pub steps_where : (within : ℕ) (exchange : Exchange) (old new : Making) (more : Bool) → more ≡ true → StepsOrEnds within old more new → IsUnderWay within exchange old
    → IsUnderWay within exchange new
steps_where within exchange old new true is steps h = steps_on within exchange old new steps h
steps_where within exchange old new false is steps h = absurd (false≢true is)

pub made_where : (within : ℕ) (exchange : Exchange) (old new inside : Making) (more : Bool) → more ≡ false → StepsOrEnds within old more new → inside ≡ new
    → IsUnderWay within exchange old → TellsIt within exchange inside.numbered
made_where within exchange old new inside true is ends view h = absurd (false≢true (sym is))
made_where within exchange old new inside false is ends view h =
    subst (λ (m : Making). TellsIt within exchange m.numbered) (sym (view ∙ ends.1)) (all_made within exchange old ends.0 h)

-- ---- each step leaves less

-- how much is left
abbrev pub left_in : Pending → ℕ
left_in pending = length pending.received + length pending.sent + length (ends_of pending.end)

fewer : (old new : Pending) (turn : Turn) (within : ℕ) → Leads within old turn new → left_in new < left_in old
fewer old new (turns.Received r) within leads =
    omega (arith, ap length leads.received, ap length leads.sent, ap (λ (o : Option End). length (ends_of o)) leads.end)
fewer old new (turns.Sent s) within leads =
    omega (arith, ap length leads.received, ap length leads.sent, ap (λ (o : Option End). length (ends_of o)) leads.end)
fewer old new (turns.End e) within leads =
    omega (
      arith,
      ap length leads.received,
      ap length leads.sent,
      ap length leads.sent_before,
      ap (λ (o : Option End). length (ends_of o)) leads.end_before,
      ap (λ (o : Option End). length (ends_of o)) leads.end_after,
    )

pub leaves_less : (within : ℕ) (old new : Making) (more : Bool) → more ≡ true → StepsOrEnds within old more new → left_in new.pending < left_in old.pending
leaves_less within old new true is steps = fewer old.pending new.pending steps.turn within steps.leads
leaves_less within old new false is steps = absurd (false≢true is)
