-- A connection that has taken a segment.
use Rattle.std.proofs.Common.{◌≡◌, ◌∙◌, ℕ, Some, None, Option, Bool, true, false, cond, List, [], ◌∷◌, refl, sym, ap, length, not, ◌||◌, ◌&&◌, subst}
use Rattle.std.specs.Option.{option_or, is_some}
use Rattle.streams.specs.declared.fault.Fault.{Fault}
use Rattle.streams.specs.declared.fault.Fault.TheVariants as faults
use Rattle.streams.specs.declared.passed.Side.{Side}
use Rattle.streams.specs.declared.passed.Side.TheVariants.{Local, Peer}
use Rattle.streams.specs.declared.direction.Direction.{Direction}
use Rattle.streams.specs.declared.gathering.Gathering.{Gathering}
use Rattle.streams.specs.Passed.{Segment, is_side}
use Rattle.streams.specs.History.{start_of, piece_in}
use Rattle.streams.specs.Refusals.{cut, time_back, no_start, fault_at, first_fault}
use Rattle.std.proofs.lemmas.Bool.{le-ltb}
use Rattle.std.proofs.Common.{arith}
use Rattle.streams.specs.Places.{shown_by_acknowledgment}
use Rattle.streams.specs.Directions.{Holds, Adds, Acknowledges}
use Rattle.streams.specs.Connections.{opener_by, end_by, has_data}
use Rattle.streams.specs.Gatherings.{AreSound, start_in, late, unstarted, direction_in, direction_faults, gathering_faults, HoldsConnection, last_second_of, noted, HasGathered, Gathers, start_with}
use Rattle.streams.proofs.Histories.{own_side}
use Rattle.streams.proofs.Histories as histories

pub start_is : {Z : Type 0} (side : Side) (before : List Segment) (g : Gathering Z) → HoldsConnection before g → start_in side g ≡ start_of side before
start_is Local before g holds = holds.local_start
start_is Peer before g holds = holds.peer_start

pub start_known : {Z : Type 0} (s : Segment) (before : List Segment) (g : Gathering Z) → HoldsConnection before g → start_with (start_in s.sender g) s ≡ start_of s.sender (s ∷ before)
start_known s before g holds =
    ap (λ o. start_with o s) (start_is s.sender before g holds)
    ∙ sym (ap (λ (t : Bool). option_or (start_of s.sender before) (cond (t && s.syn) (Some s.sequence) None)) (own_side s.sender))

holds_in : {Z : Type 0} (side : Side) (before : List Segment) (g : Gathering Z) → HoldsConnection before g → g.fault ≡ None → Holds side before (direction_in side g)
holds_in Local before g holds none = holds.sent none
holds_in Peer before g holds none = holds.received none

late_is : (s : Segment) (before : List Segment) → late s (last_second_of before) ≡ time_back s before
late_is s [] = ap (λ (t : Bool). cond t (Some (faults.TimeBack s.packet)) None) (le-ltb s.second 0 (omega arith))
late_is s (last ∷ before) = refl

-- the refusal of a segment is the first rule that holds
pub fault_known : {Z : Type 0} (s : Segment) (before : List Segment) (g : Gathering Z) → HoldsConnection before g → g.fault ≡ None → gathering_faults s (start_of s.sender (s ∷ before)) g ≡ fault_at s before
fault_known s before g holds none =
    let start = start_of s.sender (s ∷ before) in
    ap (λ (n : ℕ). option_or (cut s) (option_or (late s n) (option_or (unstarted s start) (direction_faults s start (direction_in s.sender g))))) holds.last_second
    ∙ ap (λ (f : Option Fault). option_or (cut s) (option_or f (option_or (unstarted s start) (direction_faults s start (direction_in s.sender g))))) (late_is s before)
    ∙ ap (λ (f : Option Fault). option_or (cut s) (option_or (time_back s before) (option_or (no_start s before) f))) (histories.faults s before (direction_in s.sender g) (holds_in s.sender before g holds none))

local_start_known : {Z : Type 0} (side : Side) (s : Segment) (before : List Segment) (g : Gathering Z) → HoldsConnection before g → s.sender ≡ side → cond (is_side side Local) (start_of side (s ∷ before)) g.local_start ≡ start_of Local (s ∷ before)
local_start_known Local s before g holds e = refl
local_start_known Peer s before g holds e = holds.local_start ∙ sym (ap (λ (t : Side). option_or (start_of Local before) (cond (is_side t Local && s.syn) (Some s.sequence) None)) e ∙ histories.none_more (start_of Local before))

peer_start_known : {Z : Type 0} (side : Side) (s : Segment) (before : List Segment) (g : Gathering Z) → HoldsConnection before g → s.sender ≡ side → cond (is_side side Peer) (start_of side (s ∷ before)) g.peer_start ≡ start_of Peer (s ∷ before)
peer_start_known Peer s before g holds e = refl
peer_start_known Local s before g holds e = holds.peer_start ∙ sym (ap (λ (t : Side). option_or (start_of Peer before) (cond (is_side t Peer && s.syn) (Some s.sequence) None)) e ∙ histories.none_more (start_of Peer before))

-- what of a connection doesn't change where a segment is gathered
abbrev pub with_directions : {Z : Type 0} → Gathering Z → Option Fault → Direction Z → Direction Z → Gathering Z
with_directions g fault sent received = record g { fault = fault; sent = sent; received = received }

-- the connection, once a segment is noted, and gathered or refused
pub taken : {Z : Type 0} (s : Segment) (before : List Segment) (g : Gathering Z) (fault : Option Fault) (sent received : Direction Z) → HoldsConnection before g
    → AreSound (with_directions g fault sent received)
    → fault ≡ first_fault (s ∷ before)
    → (fault ≡ None → Holds Local (s ∷ before) sent × Holds Peer (s ∷ before) received)
    → HoldsConnection (s ∷ before) (noted s (start_of s.sender (s ∷ before)) (with_directions g fault sent received))
taken s before g fault sent received holds sound is directions = record {
  sound = record { sent = sound.sent; received = sound.received };
  opener = ap (λ o. option_or o (opener_by s)) holds.opener;
  local_start = local_start_known s.sender s before g holds refl;
  peer_start = peer_start_known s.sender s before g holds refl;
  last_second = refl;
  has_octets = ap (λ (t : Bool). t || has_data s) holds.has_octets;
  has_others = ap (λ (t : Bool). t || not s.syn) holds.has_others;
  end = ap (λ o. option_or o (end_by s)) holds.end;
  fault = is;
  sent = λ none. (directions none).0;
  received = λ none. (directions none).1;
}

own : {Z : Type 0} (side : Side) (s : Segment) (before : List Segment) (old new : Direction Z) → s.sender ≡ side → Holds side before old
    → Adds s (piece_in s (start_of s.sender (s ∷ before)) (length old.gathered.known.octets.items) old.acknowledged) old new → Holds side (s ∷ before) new
own side s before old new e holds adds =
    subst (λ (t : Side). Holds t (s ∷ before) new) e (histories.added s before old new (subst (λ (t : Side). Holds t before old) (sym e) holds) adds)

other : {Z : Type 0} (side : Side) (s : Segment) (before : List Segment) (old new : Direction Z) (start : Option ℕ) → is_side s.sender side ≡ false → start ≡ start_of side before → Holds side before old
    → Acknowledges s (shown_by_acknowledgment start (length old.gathered.known.octets.items) s.acknowledgment s.rst) old new → Holds side (s ∷ before) new
other side s before old new start no_side e holds acks =
    histories.acknowledged s side before old new no_side holds (subst (λ (o : Option ℕ). Acknowledges s (shown_by_acknowledgment o (length old.gathered.known.octets.items) s.acknowledgment s.rst) old new) e acks)

-- what both directions hold, once a segment is gathered
pub gathered : {Z : Type 0} (side : Side) (s : Segment) (before : List Segment) (g : Gathering Z) (sent received : Direction Z) → s.sender ≡ side → HoldsConnection before g → g.fault ≡ None
    → HasGathered side s (start_of s.sender (s ∷ before)) g sent received
    → Holds Local (s ∷ before) sent × Holds Peer (s ∷ before) received
gathered Local s before g sent received e holds none has = (
  own Local s before g.sent sent e (holds.sent none) has.adds,
  other Peer s before g.received received g.peer_start (ap (λ (t : Side). is_side t Peer) e) holds.peer_start (holds.received none) has.acknowledges,
)
gathered Peer s before g sent received e holds none has = (
  other Local s before g.sent sent g.local_start (ap (λ (t : Side). is_side t Local) e) holds.local_start (holds.sent none) has.acknowledges,
  own Peer s before g.received received e (holds.received none) has.adds,
)

pub fault_more : (s : Segment) (before : List Segment) → first_fault (s ∷ before) ≡ option_or (first_fault before) (fault_at s before)
unfolding first_fault
fault_more s before = refl

pub no_fault_yet : first_fault [] ≡ None
unfolding first_fault
no_fault_yet = refl

-- a first refusal stays
kept_fault : (f : Option Fault) (more : Option Fault) → is_some f ≡ true → f ≡ option_or f more
kept_fault None more h = absurd (grind arith)
kept_fault (Some x) more h = refl

some_none : (f : Option Fault) → is_some f ≡ true → f ≡ None → ⊥
some_none None h e = grind arith
some_none (Some x) h e = grind arith

pub none_is : (f : Option Fault) → is_some f ≡ false → f ≡ None
none_is None h = refl
none_is (Some x) h = absurd (grind arith)

new_fault : {Z : Type 0} (s : Segment) (before : List Segment) (g : Gathering Z) (start : Option ℕ) (f : Option Fault) → HoldsConnection before g → g.fault ≡ None
    → start ≡ start_of s.sender (s ∷ before) → f ≡ gathering_faults s start g → f ≡ first_fault (s ∷ before)
new_fault s before g start f holds none e is =
    is ∙ ap (λ o. gathering_faults s o g) e ∙ fault_known s before g holds none
    ∙ sym (fault_more s before ∙ ap (λ o. option_or o (fault_at s before)) (sym holds.fault ∙ none))

noted_as : {Z : Type 0} (s : Segment) (before : List Segment) (new g h : Gathering Z) (start : Option ℕ) → start ≡ start_of s.sender (s ∷ before) → new ≡ noted s start g → g ≡ h
    → HoldsConnection (s ∷ before) (noted s (start_of s.sender (s ∷ before)) h) → HoldsConnection (s ∷ before) new
noted_as s before new g h start e is same holds =
    subst (HoldsConnection (s ∷ before)) (sym (is ∙ ap (noted s start) same ∙ ap (λ o. noted s o h) e)) holds

has_same : {Z : Type 0} (side : Side) (s : Segment) (start : Option ℕ) (g : Gathering Z) (f : Option Fault) (sent received : Direction Z) {known : Option ℕ} → start ≡ known → HasGathered side s start (record g { fault = f }) sent received → HasGathered side s known g sent received
has_same Local s start g f sent received e has = subst (λ o. Gathers s o g.peer_start g.sent g.received sent received) e has
has_same Peer s start g f sent received e has = subst (λ o. Gathers s o g.local_start g.received g.sent received sent) e has

-- the segment was gathered
pub when_gathered : {Z : Type 0} (s : Segment) (before : List Segment) (g g' new : Gathering Z) (start : Option ℕ) (f : Option Fault) → HoldsConnection before g
    → start ≡ start_with (start_in s.sender g) s → new ≡ noted s start g'
    → g.fault ≡ None → f ≡ gathering_faults s start g → f ≡ None
    → g' ≡ with_directions g f g'.sent g'.received
    → HasGathered s.sender s start (record g { fault = f }) g'.sent g'.received
    → HoldsConnection (s ∷ before) new
when_gathered s before g g' new start f holds e is none found fine same has =
    let known = e ∙ start_known s before g holds in
    let both = gathered s.sender s before g g'.sent g'.received refl holds none (has_same s.sender s start g f g'.sent g'.received known has) in
    noted_as s before new g' (with_directions g f g'.sent g'.received) start known is same
    (taken s before g f g'.sent g'.received holds (record { sent = both.0.sound; received = both.1.sound })
    (new_fault s before g start f holds none known found) (λ _. both))

-- the segment is refused, or another one before it was
pub when_refused : {Z : Type 0} (s : Segment) (before : List Segment) (g new : Gathering Z) (start : Option ℕ) (f : Option Fault) → HoldsConnection before g
    → start ≡ start_with (start_in s.sender g) s → new ≡ noted s start (record g { fault = f })
    → g.fault ≡ None → f ≡ gathering_faults s start g → is_some f ≡ true
    → HoldsConnection (s ∷ before) new
when_refused s before g new start f holds e is none found refused =
    let known = e ∙ start_known s before g holds in
    noted_as s before new (record g { fault = f }) (with_directions g f g.sent g.received) start known is refl
    (taken s before g f g.sent g.received holds (record { sent = holds.sound.sent; received = holds.sound.received })
    (new_fault s before g start f holds none known found) (λ fine. absurd (some_none f refused fine)))

pub when_over : {Z : Type 0} (s : Segment) (before : List Segment) (g new : Gathering Z) (start : Option ℕ) → HoldsConnection before g
    → start ≡ start_with (start_in s.sender g) s → new ≡ noted s start g
    → is_some g.fault ≡ true
    → HoldsConnection (s ∷ before) new
when_over s before g new start holds e is refused =
    let known = e ∙ start_known s before g holds in
    noted_as s before new g (with_directions g g.fault g.sent g.received) start known is refl
    (taken s before g g.fault g.sent g.received holds (record { sent = holds.sound.sent; received = holds.sound.received })
    (kept_fault g.fault (fault_at s before) refused ∙ ap (λ o. option_or o (fault_at s before)) holds.fault ∙ sym (fault_more s before)) (λ fine. absurd (some_none g.fault refused fine)))
