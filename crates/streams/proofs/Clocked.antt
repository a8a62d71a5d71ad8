-- A connection that is answered goes by a clock.
use Rattle.std.proofs.Common.{◌≡◌, ◌<◌, ◌≤◌, ◌+◌, ◌-◌, ◌∙◌, ℕ, Some, None, Option, Bool, cond, nat_le, List, [], ◌∷◌, ◌++◌, refl, sym, ap, arith, inl, inr, ◌⊎◌, length, get_or, set, ◌||◌, subst}
use Rattle.std.specs.Prelude.{All, IfSome}
use Rattle.std.specs.List.{AllByRecursion}
use Rattle.std.proofs.lemmas.Bool.{cases_lt, cases_Bool, lt-ltb, le-ltb, le-leb, lt-leb}
use Rattle.std.proofs.lemmas.List.{get_or_past}
use Rattle.std.proofs.lemmas.List.Elements.{All-nil, All-push, All-set, All-weaker, All-filter}
use Rattle.std.proofs.lemmas.Option.{none-some, cond_some, slice_get-get_or}
use Rattle.streams.specs.declared.connection.Connection.{Connection}
use Rattle.streams.specs.declared.connection.End.{End}
use Rattle.streams.specs.declared.connection.Run.{Run}
use Rattle.streams.specs.declared.connection.Stream.{Stream}
use Rattle.streams.specs.declared.fault.Fault.TheVariants as faults
use Rattle.streams.specs.declared.gathered.Given.{Given}
use Rattle.streams.specs.declared.gathered.Giver.{Giver}
use Rattle.streams.specs.declared.passed.Side.{Side}
use Rattle.streams.specs.declared.passed.Side.TheVariants.{Local, Peer}
use Rattle.streams.specs.Given.{total, giver_at, run_giver}
use Rattle.streams.specs.Passed.{Segment, giver_of}
use Rattle.streams.specs.History.{given_of, start_of}
use Rattle.streams.specs.Refusals.{cut, time_back, fault_at, first_fault}
use Rattle.streams.specs.Connections.{connections_of, numbered, put_at, last_index, is_between, begins, has_octets, has_others, first_in, closing_by, end_by, end_of_connection}
use Rattle.streams.specs.Choice.{IsStreamOf, Tells, TellsOf, refusal_of, numbered_one, IsAnswered}
use Rattle.streams.specs.Clock.{AreInOrder, GoesFrom, HasFractions, IsClocked}
use Rattle.streams.proofs.Runs.{total-cons}
use Rattle.streams.proofs.Known.{joined}
use Rattle.streams.proofs.Histories.{given_other}
use Rattle.streams.proofs.Moments.{cases_side, nothing, own_given, either_gives, neither, of_piece}
use Rattle.streams.proofs.Taking.{fault_more}
use Rattle.streams.proofs.Connecting.{connections_more, no_connections}

-- one of the segments has this packet, with its time
abbrev pub Has : List Segment → Giver → Type 0
Has [] giver = ⊥
Has (s ∷ before) giver = (giver_of s ≡ giver) ⊎ Has before giver

-- what the last packet has that isn't after this one
abbrev pub value_of : {X : Type 0} → (Giver → X) → X → List Segment → ℕ → X
value_of of none [] packet = none
value_of of none (s ∷ before) packet = cond (nat_le s.packet packet) (of (giver_of s)) (value_of of none before packet)

-- its second
abbrev pub clock_of : List Segment → ℕ → ℕ
clock_of segments packet = value_of (λ (giver : Giver). giver.second) 0 segments packet

-- the fraction of that
abbrev pub fraction_of : List Segment → ℕ → Option ℕ
fraction_of segments packet = value_of (λ (giver : Giver). giver.micro) None segments packet

-- the segments' seconds are at most this
abbrev pub AtMost : ℕ → List Segment → Type 0
AtMost second [] = Unit {0}
AtMost second (s ∷ before) = (s.second ≤ second) × AtMost second before

abbrev pub NeverFall : List Segment → Type 0
NeverFall [] = Unit {0}
NeverFall (s ∷ before) = AtMost s.second before × NeverFall before

up : (a b : ℕ) (segments : List Segment) → a ≤ b → AtMost a segments → AtMost b segments
up a b [] le h = tt
up a b (s ∷ before) le h = (omega (arith, le, h.0), up a b before le h.1)

below : (second packet : ℕ) (segments : List Segment) → AtMost second segments → clock_of segments packet ≤ second
below second packet [] h = omega arith
below second packet (s ∷ before) h = elim (cases_Bool (nat_le s.packet packet)) [
  | inl e ↦ omega (arith, ap (λ (t : Bool). cond t s.second (clock_of before packet)) e, h.0)
  | inr e ↦ omega (arith, ap (λ (t : Bool). cond t s.second (clock_of before packet)) e, below second packet before h.1)
]

rises : (segments : List Segment) → NeverFall segments → (packet later : ℕ) → packet ≤ later → clock_of segments packet ≤ clock_of segments later
rises [] h packet later le = omega arith
rises (s ∷ before) h packet later le =
    let at = λ (p : ℕ) (t : Bool). cond t s.second (clock_of before p) in
    elim (cases_lt packet s.packet) [
      | inr ge ↦ omega (arith, ap (at packet) (le-leb s.packet packet ge), ap (at later) (le-leb s.packet later (omega (arith, ge, le))))
      | inl lt ↦ elim (cases_lt later s.packet) [
        | inr ge ↦ omega (arith, ap (at packet) (lt-leb s.packet packet lt), ap (at later) (le-leb s.packet later ge), below s.second packet before h.0)
        | inl lt' ↦ omega (arith, ap (at packet) (lt-leb s.packet packet lt), ap (at later) (lt-leb s.packet later lt'), rises before h.1 packet later le)
      ]
    ]

has_below : (segments : List Segment) (bound : ℕ) (giver : Giver) → AllByRecursion (λ (earlier : Segment). earlier.packet < bound) segments → Has segments giver → giver.packet < bound
has_below [] bound giver all has = absurd has
has_below (s ∷ before) bound giver all has = elim has [
  | inl here ↦ omega (arith, all.0, ap (λ (g : Giver). g.packet) here)
  | inr more ↦ has_below before bound giver all.1 more
]

value_at : {X : Type 0} (of : Giver → X) (none : X) (segments : List Segment) (giver : Giver) → AreInOrder segments → Has segments giver → of giver ≡ value_of of none segments giver.packet
value_at of none [] giver order has = absurd has
value_at of none (s ∷ before) giver order has =
    let at = λ (t : Bool). cond t (of (giver_of s)) (value_of of none before giver.packet) in
    elim has [
      | inl here ↦ sym (ap at (le-leb s.packet giver.packet (omega (arith, ap (λ (g : Giver). g.packet) here))) ∙ ap of here)
      | inr more ↦ value_at of none before giver order.1 more ∙ sym (ap at (lt-leb s.packet giver.packet (has_below before s.packet giver order.0 more)))
    ]

first_has : (s : Segment) (before : List Segment) → Has (s ∷ before) (giver_of (first_in s before))
first_has s [] = inl refl
first_has s (last ∷ before) = inr (first_has last before)

first_least : (s : Segment) (before : List Segment) (giver : Giver) → AreInOrder (s ∷ before) → Has (s ∷ before) giver → (first_in s before).packet ≤ giver.packet
first_least s [] giver order has = elim has [
  | inl here ↦ omega (arith, ap (λ (g : Giver). g.packet) here)
  | inr more ↦ absurd more
]
first_least s (last ∷ before) giver order has = elim has [
  | inr more ↦ first_least last before giver order.1 more
  | inl here ↦
      let lt = has_below (last ∷ before) s.packet (giver_of (first_in last before)) order.0 (first_has last before) in
      omega (arith, lt, ap (λ (g : Giver). g.packet) here)
]

-- who gave an octet is one of the segments
given_has : (side : Side) (segments : List Segment) (place : ℕ) (given : Given) → given_of side segments place ≡ Some given → Has segments given.giver
given_has side [] place given h = absurd (none-some given (sym (nothing side place) ∙ h))
given_has side (s ∷ before) place given h = elim (cases_side s.sender side) [
  | inr other ↦ inr (given_has side before place given (sym (given_other s side before place other) ∙ h))
  | inl own ↦ elim (either_gives _ _ given (sym (own_given s side before place own) ∙ h)) [
    | inl earlier ↦ inr (given_has side before place given earlier)
    | inr now ↦
        let of = of_piece _ _ _ place given now.1 in
        inl (ap (λ (g : Given). g.giver) (sym of.is))
  ]
]

-- the packet of an end
abbrev pub ender_of : End → Giver
ender_of end = record { packet = end.packet; second = end.second; micro = end.micro }

end_has : (segments : List Segment) (end : End) → end_of_connection segments ≡ Some end → Has segments (ender_of end)
end_has [] end h = absurd (none-some end h)
end_has (s ∷ before) end h = elim (either_gives (end_of_connection before) (end_by s) end h) [
  | inl earlier ↦ inr (end_has before end earlier)
  | inr now ↦
      let is = (cond_some (s.fin || s.rst) (record { packet = s.packet; second = s.second; micro = s.micro; side = s.sender; closing = closing_by s }) end now.1).1 in
      inl (ap ender_of is)
]

-- what holds of each giver holds of each run
each_run : (Q : Giver → Type 0) (runs : List Run) → AllByRecursion (λ (run : Run). 1 ≤ run.count) runs
    → ((place : ℕ) (giver : Giver) → place < total runs → giver_at runs place ≡ Some giver → Q giver)
    → AllByRecursion (λ (run : Run). Q (run_giver run)) runs
each_run Q [] counted each = tt
each_run Q (run ∷ runs) counted each =
    let own : Giver = run_giver run in (
      each 0 own (omega (arith, total-cons run runs, counted.0)) (ap (λ (t : Bool). cond t (Some own) (giver_at runs (0 - run.count))) (lt-ltb 0 run.count (omega (arith, counted.0)))),
      each_run Q runs counted.1 (λ place giver lt is.
          let back : place + run.count - run.count ≡ place = omega arith in
          each (place + run.count) giver (omega (arith, total-cons run runs, lt))
          (ap (λ (t : Bool). cond t (Some own) (giver_at runs (place + run.count - run.count))) (le-ltb (place + run.count) run.count (omega arith))
          ∙ ap (giver_at runs) back ∙ is)),
    )

stream_has : (side : Side) (segments : List Segment) (stream : Stream) → IsStreamOf side segments stream → (place : ℕ) (giver : Giver) → place < total stream.runs.now → giver_at stream.runs.now place ≡ Some giver → Has segments giver
stream_has side segments stream of place giver lt is =
    let within : place < length stream.octets.now = omega (arith, lt, of.covered) in
    let octet = get_or stream.octets.now place 0 in
    let known = ap (λ o. joined o (giver_at stream.runs.now place)) (slice_get-get_or stream.octets.now place 0 within) ∙ ap (λ w. joined (Some octet) w) is in
    given_has side segments place (record { octet = octet; giver = giver }) (sym (of.given place within) ∙ known)

-- seconds never fall, where none is refused
fall_none : (s : Segment) (before : List Segment) → time_back s before ≡ None → NeverFall before → AtMost s.second before
fall_none s [] h fall = tt
fall_none s (last ∷ before) h fall =
    let le : last.second ≤ s.second = elim (cases_lt s.second last.second) [
      | inr le ↦ le
      | inl lt ↦ absurd (none-some (faults.TimeBack s.packet) (sym h ∙ ap (λ (t : Bool). cond t (Some (faults.TimeBack s.packet)) None) (lt-ltb s.second last.second lt)))
    ] in
    (le, up last.second s.second before le fall.0)

never_fall : (segments : List Segment) → first_fault segments ≡ None → NeverFall segments
never_fall [] h = tt
never_fall (s ∷ before) h =
    let parts = neither (first_fault before) (fault_at s before) (sym (fault_more s before) ∙ h) in
    let rest = never_fall before parts.0 in
    let time = neither (time_back s before) _ (neither (cut s) _ parts.1).1 in
    (fall_none s before time.0 rest, rest)

each_end : (Q : End → Type 0) (end : Option End) → ((e : End) → end ≡ Some e → Q e) → IfSome end Q
each_end Q None h = tt
each_end Q (Some e) h = h e refl

-- the fraction of each packet's second is that of the segment
fractions : (s : Segment) (before : List Segment) (connection : Connection) → AreInOrder (s ∷ before) → TellsOf (first_in s before) (s ∷ before) connection → HasFractions connection
fractions s before connection order tells =
    let segments = s ∷ before in
    let fraction = fraction_of segments in
    let at = value_at (λ (giver : Giver). giver.micro) None segments in
    let Is : Giver → Type 0 = λ (giver : Giver). giver.micro ≡ fraction_of (s ∷ before) giver.packet in
    record {
      fraction = fraction;
      begins = tells.micro ∙ at (giver_of (first_in s before)) order (first_has s before) ∙ ap fraction (sym tells.packet);
      received = each_run Is connection.received.runs.now tells.received.counted
          (λ place giver lt is. at giver order (stream_has Peer segments connection.received tells.received place giver lt is));
      sent = each_run Is connection.sent.runs.now tells.sent.counted
          (λ place giver lt is. at giver order (stream_has Local segments connection.sent tells.sent place giver lt is));
      ends = each_end (λ (e : End). e.micro ≡ fraction_of (s ∷ before) e.packet) connection.end (λ e is. at (ender_of e) order (end_has segments e (sym tells.end ∙ is)));
    }

clocked : (s : Segment) (before : List Segment) (connection : Connection) → AreInOrder (s ∷ before) → first_fault (s ∷ before) ≡ None → TellsOf (first_in s before) (s ∷ before) connection → IsClocked connection
clocked s before connection order fine tells =
    let segments = s ∷ before in
    let clock = clock_of segments in
    let first : connection.packet ≡ (first_in s before).packet = tells.packet in
    let at = value_at (λ (giver : Giver). giver.second) 0 segments in
    let Goes : Giver → Type 0 = λ (giver : Giver). GoesFrom (clock_of (s ∷ before)) connection.packet giver.packet giver.second in
    let goes = λ (giver : Giver) (has : Has (s ∷ before) giver).
    let second_is = at giver order has in
    let least : connection.packet ≤ giver.packet = omega (arith, first, first_least s before giver order has) in
    let both : GoesFrom (clock_of (s ∷ before)) connection.packet giver.packet giver.second = (second_is, least) in
    both in
    record {
      clock = clock;
      rises = rises segments (never_fall segments fine);
      begins = tells.second ∙ at (giver_of (first_in s before)) order (first_has s before) ∙ ap clock (sym first);
      received = each_run Goes connection.received.runs.now tells.received.counted
          (λ place giver lt is. goes giver (stream_has Peer segments connection.received tells.received place giver lt is));
      sent = each_run Goes connection.sent.runs.now tells.sent.counted
          (λ place giver lt is. goes giver (stream_has Local segments connection.sent tells.sent place giver lt is));
      ends = each_end (λ (e : End). GoesFrom (clock_of (s ∷ before)) connection.packet e.packet e.second) connection.end (λ e is. goes (ender_of e) (end_has segments e (sym tells.end ∙ is)));
      fractions = fractions s before connection order tells;
    }

-- the segments of a connection are in the order of all
abbrev pub IsInOrder : ℕ → List Segment → Type 0
IsInOrder bound segments = AreInOrder segments × AllByRecursion (λ (earlier : Segment). earlier.packet < bound) segments

all_below : (a b : ℕ) (segments : List Segment) → a ≤ b → AllByRecursion (λ (earlier : Segment). earlier.packet < a) segments → AllByRecursion (λ (earlier : Segment). earlier.packet < b) segments
all_below a b [] le all = tt
all_below a b (s ∷ before) le all = (omega (arith, le, all.0), all_below a b before le all.1)

at_index : (bound : ℕ) (cs : List (List Segment)) (i : ℕ) → All (IsInOrder bound) cs → IsInOrder bound (get_or cs i [])
at_index bound cs i all = elim (cases_lt i (length cs)) [
  | inl lt ↦ all i [] lt
  | inr past ↦ subst (IsInOrder bound) (sym (get_or_past cs i [] past)) (tt, tt)
]

put_in_order : (s : Segment) (bound : ℕ) (cs : List (List Segment)) (at : Option ℕ) → s.packet < bound → All (IsInOrder s.packet) cs → All (IsInOrder bound) (put_at s cs at)
put_in_order s bound cs None lt all =
    let wide = All-weaker (IsInOrder s.packet) (IsInOrder bound) (λ c h. (h.0, all_below s.packet bound c (omega (arith, lt)) h.1)) cs all in
    All-push (IsInOrder bound) cs (s ∷ []) wide ((tt, tt), (lt, tt))
put_in_order s bound cs (Some i) lt all =
    let wide = All-weaker (IsInOrder s.packet) (IsInOrder bound) (λ c h. (h.0, all_below s.packet bound c (omega (arith, lt)) h.1)) cs all in
    let own = at_index s.packet cs i all in
    let more : IsInOrder bound (s ∷ get_or cs i []) = ((own.1, own.0), (lt, all_below s.packet bound (get_or cs i []) (omega (arith, lt)) own.1)) in
    elim (cases_Bool (begins s (start_of s.sender (get_or cs i [])) (has_others (get_or cs i [])))) [
      | inl e ↦ subst (λ (t : Bool). All (IsInOrder bound) (cond t (cs ++ (s ∷ []) ∷ []) (set cs i (s ∷ get_or cs i [])))) (sym e)
          (All-push (IsInOrder bound) cs (s ∷ []) wide ((tt, tt), (lt, tt)))
      | inr e ↦ subst (λ (t : Bool). All (IsInOrder bound) (cond t (cs ++ (s ∷ []) ∷ []) (set cs i (s ∷ get_or cs i [])))) (sym e)
          (All-set (IsInOrder bound) cs i (s ∷ get_or cs i []) more wide)
    ]

connections_in_order : (segments : List Segment) (bound : ℕ) → IsInOrder bound segments → All (IsInOrder bound) (connections_of segments)
connections_in_order [] bound h = subst (All (IsInOrder bound)) (sym no_connections) (All-nil (IsInOrder bound))
connections_in_order (s ∷ before) bound h =
    subst (All (IsInOrder bound)) (sym (connections_more s before))
    (put_in_order s bound (connections_of before) (last_index (is_between s) (connections_of before)) h.1.0
    (connections_in_order before s.packet (h.0.1, h.0.0)))

bounded : (segments : List Segment) → AreInOrder segments → (bound : ℕ) × IsInOrder bound segments
bounded [] order = (0, (tt, tt))
bounded (s ∷ before) order = (s.packet + 1, (order, (omega arith, all_below s.packet (s.packet + 1) before (omega arith) order.0)))

answered_clock : (segments : List Segment) (connection : Connection) → AreInOrder segments → refusal_of segments ≡ None → Tells segments connection → IsClocked connection
answered_clock [] connection order fine tells = absurd tells
answered_clock (s ∷ before) connection order fine tells = clocked s before connection order (neither (first_fault (s ∷ before)) _ fine).0 tells

pub answered_is_clocked : (segments : List Segment) (number : Option ℕ) (last_packet : ℕ) (connection : Connection) → AreInOrder segments → IsAnswered number last_packet (numbered segments) connection → IsClocked connection
answered_is_clocked segments number last_packet connection order answered =
    let bound = bounded segments order in
    let all : All (IsInOrder bound.0) (numbered segments) = All-filter has_octets (IsInOrder bound.0) (connections_of segments) (connections_in_order segments bound.0 bound.1) in
    let own = at_index bound.0 (numbered segments) (connection.number - 1) all in
    answered_clock (numbered_one (numbered segments) connection.number) connection own.0 answered.fine answered.tells
