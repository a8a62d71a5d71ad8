-- A connection that is answered is one thing.
use Rattle.std.proofs.Common.{◌≡◌, ◌∙◌, ◌<◌, ◌≤◌, ◌-◌, ℕ, suc, List, [], ◌∷◌, Option, None, Some, Result, Ok, length, get_or, refl, sym, ap, subst, arith, inl, inr}
use Rattle.std.proofs.lemmas.Bool.{cases_lt, lt-ltb, le-ltb}
use Rattle.std.proofs.lemmas.Option.{slice_get-get_or}
use Rattle.std.specs.List.{slice_get}
use Rattle.streams.proofs.Runs.{total-cons}
use Rattle.streams.specs.Choice.{IsStreamOf, Tells, IsAnswered, numbered_one}
use Rattle.streams.specs.Given.{known_at, giver_at, total}
use Rattle.streams.specs.Passed.{Segment}
use Rattle.streams.specs.declared.connection.Connection.{Connection}
use Rattle.streams.specs.declared.connection.Run.{Run}
use Rattle.streams.specs.declared.connection.Stream.{Stream}
use Rattle.streams.specs.declared.fault.Fault.{Fault}
use Rattle.streams.specs.declared.gathered.Given.{Given}
use Rattle.streams.specs.declared.gathered.Giver.{Giver}
use Rattle.streams.specs.declared.passed.Side.{Side}
use Rattle.streams.specs.declared.passed.Side.TheVariants.{Local, Peer}
use Rattle.bgp_recording.specs.Once.{AreSame, TellTheSame}

giver_past : (runs : List Run) (place : ℕ) → total runs ≤ place → giver_at runs place ≡ None
giver_past [] place le = refl
giver_past (run ∷ runs) place le =
    let there : run.count ≤ place = omega (arith, total-cons run runs, le) in
    rw (le-ltb place run.count there) (giver_past runs (place - run.count) (omega (arith, total-cons run runs, le)))

giver_some : (runs : List Run) (place : ℕ) → place < total runs → (g : Giver) × (giver_at runs place ≡ Some g)
giver_some [] place lt = absurd (omega (arith, lt))
giver_some (run ∷ runs) place lt = elim (cases_lt place run.count) [
  | inl here ↦ (record { packet = run.packet; second = run.second; micro = run.micro }, rw (lt-ltb place run.count here))
  | inr there ↦
      let later = giver_some runs (place - run.count) (omega (arith, total-cons run runs, lt, there)) in
      (later.0, rw (le-ltb place run.count there) later.1)
]

octet_in : Option Given → Option ℕ
octet_in None = None
octet_in (Some given) = Some given.octet

giver_in : Option Given → Option Giver
giver_in None = None
giver_in (Some given) = Some given.giver

known_octet : (octets : List ℕ) (runs : List Run) (place : ℕ) (x : ℕ) (g : Giver) → slice_get octets place ≡ Some x → giver_at runs place ≡ Some g
    → (octet_in (known_at octets runs place) ≡ Some x) × (giver_in (known_at octets runs place) ≡ Some g)
unfolding octet_in giver_in
known_octet octets runs place x g e f = (rw e (rw f), rw e (rw f))

module _ (octets others : List ℕ) (runs more : List Run) (covers : total runs ≡ length octets) (covers' : total more ≡ length others) (count : length octets ≡ length others)
    (known : (place : ℕ) → place < length octets → known_at octets runs place ≡ known_at others more place) where
  same_here : (place : ℕ) → place < length octets → (get_or octets place 0 ≡ get_or others place 0) × (giver_at runs place ≡ giver_at more place)
  same_here place lt =
      let a = slice_get-get_or octets place 0 lt in
      let b = slice_get-get_or others place 0 (omega (arith, lt, count)) in
      let g = giver_some runs place (omega (arith, lt, covers)) in
      let h = giver_some more place (omega (arith, lt, covers', count)) in
      let one = known_octet octets runs place (get_or octets place 0) g.0 a g.1 in
      let other = known_octet others more place (get_or others place 0) h.0 b h.1 in
      let x : Some (get_or octets place 0) ≡ Some (get_or others place 0) = sym one.0 ∙ ap octet_in (known place lt) ∙ other.0 in
      let y : Some g.0 ≡ Some h.0 = sym one.1 ∙ ap giver_in (known place lt) ∙ other.1 in
      (cc, g.1 ∙ y ∙ sym h.1)

  same_givers : (place : ℕ) → giver_at runs place ≡ giver_at more place
  same_givers place = elim (cases_lt place (length octets)) [
    | inl lt ↦ (same_here place lt).1
    | inr le ↦ giver_past runs place (omega (arith, le, covers)) ∙ sym (giver_past more place (omega (arith, le, covers', count)))
  ]

-- lists of one length, octet by octet
by_octets : (xs ys : List ℕ) → length xs ≡ length ys → ((i : ℕ) → i < length xs → get_or xs i 0 ≡ get_or ys i 0) → xs ≡ ys
by_octets [] [] e same = refl
by_octets [] (y ∷ ys) e same = absurd (omega (arith, e))
by_octets (x ∷ xs) [] e same = absurd (omega (arith, e))
by_octets (x ∷ xs) (y ∷ ys) e same =
    ap (λ (z : ℕ). z ∷ xs) (same 0 (omega arith)) ∙ ap (λ (zs : List ℕ). y ∷ zs) (by_octets xs ys (omega (arith, e)) (λ i lt. same (suc i) (omega (arith, lt))))

same_stream : (side : Side) (segments : List Segment) (one other : Stream) → IsStreamOf side segments one → IsStreamOf side segments other → AreSame one other
same_stream side segments one other h k =
    let count : length one.octets.now ≡ length other.octets.now = h.count ∙ sym k.count in
    let known : (place : ℕ) → place < length one.octets.now → known_at one.octets.now one.runs.now place ≡ known_at other.octets.now other.runs.now place =
    λ place lt. h.given place lt ∙ sym (k.given place (omega (arith, lt, count))) in
    record {
      octets = by_octets one.octets.now other.octets.now count
          (λ i lt. (same_here one.octets.now other.octets.now one.runs.now other.runs.now h.covered k.covered count known i lt).0);
      givers = same_givers one.octets.now other.octets.now one.runs.now other.runs.now h.covered k.covered count known;
    }

same_connection : (segments : List Segment) (one other : Connection) → Tells segments one → Tells segments other → TellTheSame one other
same_connection [] one other h k = absurd h
same_connection (s ∷ before) one other h k = record {
  opened_by = h.opened_by ∙ sym k.opened_by;
  packet = h.packet ∙ sym k.packet;
  second = h.second ∙ sym k.second;
  micro = h.micro ∙ sym k.micro;
  received = same_stream Peer (s ∷ before) one.received other.received h.received k.received;
  sent = same_stream Local (s ∷ before) one.sent other.sent h.sent k.sent;
  end = h.end ∙ sym k.end;
}

abbrev ok_number : ℕ → Result ℕ Fault
ok_number n = Ok n

number_is : (a b : ℕ) → ok_number a ≡ ok_number b → a ≡ b
number_is a b e = cc

pub same_answer : (number : Option ℕ) (count : ℕ) (connections : List (List Segment)) (one other : Connection) → IsAnswered number count connections one → IsAnswered number count connections other
    → TellTheSame one other
same_answer number count connections one other h k =
    let number_same : other.number ≡ one.number = number_is other.number one.number (sym k.chosen ∙ h.chosen) in
    same_connection (numbered_one connections one.number) one other h.tells
    (subst (λ (n : ℕ). Tells (numbered_one connections n) other) number_same k.tells)
