-- The packets of messages, by their runs and by the clock.
use Rattle.std.proofs.Common.{◌≡◌, ◌<◌, ◌≤◌, ◌+◌, ◌-◌, ℕ, List, [], ◌∷◌, length, Option, None, Some, IfSome, subst, sym, refl, inl, inr, arith}
use Rattle.std.proofs.lemmas.Bool.{cases_lt}
use Rattle.std.specs.List.{AllByRecursion}
use Rattle.bgp_wire.specs.declared.header.MessageType.{MessageType}
use Rattle.streams.specs.declared.connection.End.{End}
use Rattle.streams.specs.declared.connection.Run.{Run}
use Rattle.streams.specs.declared.passed.Side.{Side}
use Rattle.streams.specs.declared.passed.Side.TheVariants.{Local, Peer}
use Rattle.bgp_recording.specs.declared.framing.Direction.TheVariants.{Received, Sent}
use Rattle.bgp_recording.specs.declared.framing.Framing.{Framing}
use Rattle.bgp_recording.specs.declared.message.Message.{Message}
use Rattle.bgp_recording.specs.declared.pending.Moment.{Moment}
use Rattle.bgp_recording.specs.Framed.{EachAt, HasKind, IsStamped}
use Rattle.bgp_recording.specs.Gathered.{GoesFrom, AreCame, AreMade}
use Rattle.bgp_recording.specs.Givers.{giver, IsLatest, IsEarliest, AreLatest, AreEarliest, IsCame, IsMade, own_end, own_end_by}
use Rattle.bgp_recording.specs.Pieces.{Piece, Kept, PassedOver}
use Rattle.bgp_recording.specs.Told.{GoesBy, Rises, IsLast}
use Rattle.bgp_recording.specs.Moments.{end_moment, moment_in, moment_of}
use Rattle.bgp_recording.proofs.Gave.{giver_here, giver_there}

-- ---- each message at its place

pub each_at_weaker : (P Q : ℕ → Message → Type 0) (K : Message → Type 0) → ((place : ℕ) (m : Message) → K m → P place m → Q place m) → (from : ℕ) (pieces : List Piece) (messages : List Message)
    → AllByRecursion K messages → EachAt P from pieces messages → EachAt Q from pieces messages
each_at_weaker P Q K f from [] [] k h = tt
each_at_weaker P Q K f from [] (m ∷ later) k h = (f from m k.0 h.0, h.1)
each_at_weaker P Q K f from (Kept octets ∷ pieces) [] k h = h
each_at_weaker P Q K f from (Kept octets ∷ pieces) (m ∷ later) k h = (f from m k.0 h.0, each_at_weaker P Q K f (from + length m.octets.now) pieces later k.1 h.1)
each_at_weaker P Q K f from (PassedOver octets ∷ pieces) messages k h = each_at_weaker P Q K f (from + length octets) pieces messages k h

alone : (Q : Message → Type 0) (later : List Message) → later ≡ [] → AllByRecursion Q later
alone Q [] e = tt
alone Q (m ∷ later) e = absurd (let no = e in cc)

-- from a place on, what holds of each at its place
pub each_at_all : (P : ℕ → Message → Type 0) (Q : Message → Type 0) (start : ℕ) → ((place : ℕ) (m : Message) → start ≤ place → P place m → Q m) → (from : ℕ) (pieces : List Piece)
    (messages : List Message) → start ≤ from → EachAt P from pieces messages → AllByRecursion Q messages
each_at_all P Q start f from [] [] le h = tt
each_at_all P Q start f from [] (m ∷ later) le h = (f from m le h.0, alone Q later h.1)
each_at_all P Q start f from (Kept octets ∷ pieces) [] le h = absurd h
each_at_all P Q start f from (Kept octets ∷ pieces) (m ∷ later) le h =
    (f from m le h.0, each_at_all P Q start f (from + length m.octets.now) pieces later (omega (arith, le)) h.1)
each_at_all P Q start f from (PassedOver octets ∷ pieces) messages le h = each_at_all P Q start f (from + length octets) pieces messages (omega (arith, le)) h

-- ---- stamped messages

kind_long : (framing : Framing) (m : Message) (kind : Option MessageType) → kind ≡ m.kind → HasKind framing m → 19 ≤ length m.octets.now
kind_long framing m None is h = (subst (λ (k : Option MessageType). HasKind framing record { octets = m.octets; kind = k; packet = m.packet; second = m.second; micro = m.micro }) (sym is) h).1.faulty.0
kind_long framing m (Some kind) is h = (subst (λ (k : Option MessageType). HasKind framing record { octets = m.octets; kind = k; packet = m.packet; second = m.second; micro = m.micro }) (sym is) h).0.header

latest_at : (runs latest : List Run) (place : ℕ) (moment : Moment) → AreLatest runs latest → giver latest place ≡ Some moment → IsCame runs (place + 1) moment
latest_at runs latest place moment h e = subst (λ (o : Option Moment). IsLatest runs place o) e (h place)

came_at : (framing : Framing) (runs latest : List Run) → AreLatest runs latest → (from : ℕ) (m : Message) → HasKind framing m → IsStamped Received latest from m
    → IsCame runs (from + length m.octets.now) (moment_in m)
came_at framing runs latest h from m kind stamped =
    let long = kind_long framing m m.kind refl kind in
    let same : from + length m.octets.now - 1 + 1 ≡ from + length m.octets.now = omega (arith, long) in
    subst (λ (n : ℕ). IsCame runs n (moment_in m)) same (latest_at runs latest (from + length m.octets.now - 1) (moment_in m) h stamped)

pub stamped_came : (framing : Framing) (runs latest : List Run) (from : ℕ) (pieces : List Piece) (messages : List Message) → AreLatest runs latest → AllByRecursion (HasKind framing) messages
    → EachAt (IsStamped Received latest) from pieces messages → AreCame runs from pieces messages
stamped_came framing runs latest from pieces messages h kinds stamped =
    each_at_weaker (IsStamped Received latest) (λ place m. IsCame runs (place + length m.octets.now) (moment_in m)) (HasKind framing) (came_at framing runs latest h) from pieces messages kinds stamped

pub stamped_made : (framing : Framing) (runs earliest : List Run) (end : Option Moment) (from : ℕ) (pieces : List Piece) (messages : List Message) → AreEarliest runs end earliest
    → AllByRecursion (HasKind framing) messages → EachAt (IsStamped Sent earliest) from pieces messages → AreMade runs end from pieces messages
stamped_made framing runs earliest end from pieces messages h kinds stamped =
    each_at_weaker (IsStamped Sent earliest) (λ place m. IsMade runs end place (moment_in m)) (HasKind framing)
    (λ place m kind is. subst (λ (o : Option Moment). IsEarliest runs end place o) is (h place)) from pieces messages kinds stamped

-- ---- by the clock

all_given : (P : Moment → Type 0) (runs : List Run) (place : ℕ) → AllByRecursion (λ run. P (moment_of run)) runs → IfSome (giver runs place) P
all_given P [] place h = tt
all_given P (run ∷ later) place h =
    elim (cases_lt place run.count) [
      | inl here ↦ subst (λ (o : Option Moment). IfSome o P) (sym (giver_here run later place here)) h.0
      | inr there ↦ subst (λ (o : Option Moment). IfSome o P) (sym (giver_there run later place there)) (all_given P later (place - run.count) h.1)
    ]

pub at_giver : (P : Moment → Type 0) (runs : List Run) (place : ℕ) (moment : Moment) → IfSome (giver runs place) P → giver runs place ≡ Some moment → P moment
at_giver P runs place moment h e = subst (λ (o : Option Moment). IfSome o P) e h

pub came_each : (P : Moment → Type 0) (runs : List Run) (from : ℕ) (pieces : List Piece) (messages : List Message) → AllByRecursion (λ run. P (moment_of run)) runs
    → AreCame runs from pieces messages → AllByRecursion (λ m. P (moment_in m)) messages
came_each P runs from pieces messages each h =
    each_at_all (λ place m. IsCame runs (place + length m.octets.now) (moment_in m)) (λ m. P (moment_in m)) 0
    (λ place m le came. at_giver P runs came.place (moment_in m) (all_given P runs came.place each) came.gave) from pieces messages (omega arith) h

pub came_by : (clock : ℕ → ℕ) (first : ℕ) (runs : List Run) (from : ℕ) (pieces : List Piece) (messages : List Message)
    → AllByRecursion (λ run. GoesFrom clock first run.packet run.second) runs → AreCame runs from pieces messages → AllByRecursion (GoesBy clock) messages
came_by clock first runs from pieces messages each h =
    each_at_all (λ place m. IsCame runs (place + length m.octets.now) (moment_in m)) (GoesBy clock) 0
    (λ place m le came. (at_giver (λ x. GoesFrom clock first x.packet x.second) runs came.place (moment_in m) (all_given _ runs came.place each) came.gave).0) from pieces messages (omega arith) h

came_later : (runs : List Run) (place bound : ℕ) (moment : Moment) (pieces : List Piece) (messages : List Message) → giver runs place ≡ Some moment → place < bound → AreCame runs bound pieces messages
    → AllByRecursion (λ n. moment.packet ≤ n.packet) messages
came_later runs place bound moment pieces messages gave below h =
    each_at_all (λ at n. IsCame runs (at + length n.octets.now) (moment_in n)) (λ n. moment.packet ≤ n.packet) bound
    (λ at n le came. at_giver (λ x. x.packet ≤ n.packet) runs place moment (came.greatest place (omega (arith, below, le))) gave) bound pieces messages (omega arith) h

pub came_rise : (runs : List Run) (from : ℕ) (pieces : List Piece) (messages : List Message) → AreCame runs from pieces messages → Rises messages
came_rise runs from [] [] h = tt
came_rise runs from [] (m ∷ []) h = (tt, tt)
came_rise runs from [] (m ∷ n ∷ later) h = absurd (let no = h.1 in cc)
came_rise runs from (Kept octets ∷ pieces) [] h = tt
came_rise runs from (Kept octets ∷ pieces) (m ∷ later) h =
    (came_later runs h.0.place (from + length m.octets.now) (moment_in m) pieces later h.0.gave h.0.below h.1, came_rise runs (from + length m.octets.now) pieces later h.1)
came_rise runs from (PassedOver octets ∷ pieces) messages h = came_rise runs (from + length octets) pieces messages h

made_is : (P : Moment → Type 0) (runs : List Run) (end : Option Moment) (start : ℕ) (moment : Moment) → ((place : ℕ) → start ≤ place → IfSome (giver runs place) P) → IfSome end P
    → IsMade runs end start moment → P moment
made_is P runs end start moment each ends h =
    elim h.shows [ inl g ↦ at_giver P runs g.0 moment (each g.0 g.1) g.2 | inr e ↦ subst (λ (o : Option Moment). IfSome o P) e ends ]

pub made_all : (P : Moment → Type 0) (runs : List Run) (end : Option Moment) (start from : ℕ) (pieces : List Piece) (messages : List Message) → start ≤ from
    → ((place : ℕ) → start ≤ place → IfSome (giver runs place) P) → IfSome end P → AreMade runs end from pieces messages → AllByRecursion (λ m. P (moment_in m)) messages
made_all P runs end start from pieces messages le each ends h =
    each_at_all (λ place m. IsMade runs end place (moment_in m)) (λ m. P (moment_in m)) start
    (λ at m le made. made_is P runs end at (moment_in m) (λ place behind. each place (omega (arith, le, behind))) ends made) from pieces messages le h

pub made_each : (P : Moment → Type 0) (runs : List Run) (end : Option Moment) (pieces : List Piece) (messages : List Message) → AllByRecursion (λ run. P (moment_of run)) runs → IfSome end P
    → AreMade runs end 0 pieces messages → AllByRecursion (λ m. P (moment_in m)) messages
made_each P runs end pieces messages each ends h = made_all P runs end 0 0 pieces messages (omega arith) (λ place le. all_given P runs place each) ends h

pub made_rise : (runs : List Run) (end : Option Moment) (from : ℕ) (pieces : List Piece) (messages : List Message) → AreMade runs end from pieces messages → Rises messages
made_rise runs end from [] [] h = tt
made_rise runs end from [] (m ∷ []) h = (tt, tt)
made_rise runs end from [] (m ∷ n ∷ later) h = absurd (let no = h.1 in cc)
made_rise runs end from (Kept octets ∷ pieces) [] h = tt
made_rise runs end from (Kept octets ∷ pieces) (m ∷ later) h = (
  made_all (λ x. m.packet ≤ x.packet) runs end from (from + length m.octets.now) pieces later (omega arith) (λ place le. h.0.least place le) h.0.not_after h.1,
  made_rise runs end (from + length m.octets.now) pieces later h.1,
)
made_rise runs end from (PassedOver octets ∷ pieces) messages h = made_rise runs end (from + length octets) pieces messages h

own_is : (end : End) (side : Side) → side ≡ Local → own_end_by end side ≡ Some (end_moment end)
own_is end Local e = refl
own_is end Peer e = cc

not_after_end : (runs : List Run) (end : Option Moment) (last : Moment) (from : ℕ) (pieces : List Piece) (messages : List Message) → end ≡ Some last → AreMade runs end from pieces messages
    → AllByRecursion (λ m. m.packet ≤ last.packet) messages
not_after_end runs end last from pieces messages e h =
    each_at_all (λ place m. IsMade runs end place (moment_in m)) (λ m. m.packet ≤ last.packet) 0
    (λ place m le made. subst (λ (o : Option Moment). IfSome o (λ x. m.packet ≤ x.packet)) e made.not_after) from pieces messages (omega arith) h

pub made_last : (runs : List Run) (end : Option End) (pieces : List Piece) (messages : List Message) → AreMade runs (own_end end) 0 pieces messages → IfSome end (IsLast messages)
made_last runs None pieces messages h = tt
made_last runs (Some end) pieces messages h =
    λ own. not_after_end runs (own_end_by end end.side) (end_moment end) 0 pieces messages (own_is end end.side own) h

own_by : (P : Moment → Type 0) (end : End) (side : Side) → P (end_moment end) → IfSome (own_end_by end side) P
own_by P end Local h = h
own_by P end Peer h = tt

pub own_end_is : (P : Moment → Type 0) (end : Option End) → IfSome end (λ e. P (end_moment e)) → IfSome (own_end end) P
own_end_is P None h = tt
own_end_is P (Some end) h = own_by P end end.side h
