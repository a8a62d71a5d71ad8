-- A recording has one list.
use Rattle.std.proofs.Common.{◌≡◌, ◌∙◌, ◌<◌, ℕ, zero, suc, List, [], ◌∷◌, length, get_or, ◌⊎◌, inl, inr, Option, None, Some, Result, Ok, Err, Less, refl, sym, ap, subst, arith, reverse}
use Rattle.std.proofs.lemmas.Cmp.{ranked}
use Rattle.std.proofs.lemmas.Map.Keys.{sorted_head, sorted_tail}
use Rattle.std.specs.List.{AllByRecursion, Contains}
use Rattle.std.specs.List.Sorted.{IsStrictlySortedBy}
use Rattle.std.specs.Map.{keys_of}
use Rattle.std.specs.Ordering.{nat_cmp}
use Rattle.packets.specs.Packet.{Recorded}
use Rattle.segments.specs.declared.fault.PacketFault.{PacketFault}
use Rattle.segments.specs.declared.found.Addresses.{Addresses}
use Rattle.streams.specs.Choice.{IsAnswered, IsRefused, OpensAs, Tells, chosen_of, first_packet, numbered_one, refusal_of}
use Rattle.streams.specs.Connections.{numbered}
use Rattle.streams.specs.History.{next_of}
use Rattle.streams.specs.Passed.{Segment}
use Rattle.streams.specs.declared.connection.Connection.{Connection}
use Rattle.streams.specs.declared.connection.Opening.{Opening}
use Rattle.streams.specs.declared.fault.Fault.{Fault}
use Rattle.streams.specs.declared.passed.Side.{Side}
use Rattle.streams.specs.declared.passed.Side.TheVariants.{Local, Peer}
use Rattle.bgp_prefix.specs.declared.session.Session.{Session}
use Rattle.bgp_import.specs.Octets.{octets_from}
use Rattle.bgp_import.specs.Pairs.{selection_of, session_of}
use Rattle.bgp_import.specs.Places.{HasAll, IsNumber, connection_in}
use Rattle.bgp_import.specs.Reading.{AreKnown}
use Rattle.bgp_import.specs.declared.refusal.Refusal.{Refusal}
use Rattle.bgp_import.specs.declared.refusal.Refusal.TheVariants as refusals
use Rattle.bgp_import.proofs.Alone.{connections_alone, none_at_refusal, one_place, refusals_alone, same_taken, taken_not_refused}
use Rattle.bgp_import.proofs.ListedSoFar.{place_of}
use Rattle.bgp_list.specs.Lines.{AllRefused, IsLineAt, IsLineOfAll, IsLineOfOne, LineValue, Octets, Refused, TellsOctets, TellsRefusal}
use Rattle.bgp_ended.proofs.OneOutline.{outlined_once}
use Rattle.bgp_ended.specs.Values.{OutlineValue}
use Rattle.bgp_import.proofs.InOrder.{in_order}
use Rattle.bgp_check_tool.specs.Headings.{IsList}

-- ---- what is told of one connection

same_opening : (a b : Opening) → a.number ≡ b.number → a.local_port ≡ b.local_port → a.peer_port ≡ b.peer_port → a.opened_by ≡ b.opened_by → a.packet ≡ b.packet → a.second ≡ b.second → a.micro ≡ b.micro → a ≡ b
same_opening a b n l p o k s m =
    λ i. record { number = n i; local_port = l i; peer_port = p i; opened_by = o i; packet = k i; second = s i; micro = m i }

one_opening : (segments : List Segment) (a b : Opening) → a.number ≡ b.number → OpensAs segments a → OpensAs segments b → a ≡ b
one_opening [] a b n x y = absurd x
one_opening (s ∷ before) a b n x y =
    same_opening a b n (x.local_port ∙ sym y.local_port) (x.peer_port ∙ sym y.peer_port) (x.opened_by ∙ sym y.opened_by) (x.packet ∙ sym y.packet) (x.second ∙ sym y.second) (x.micro ∙ sym y.micro)

chosen_is : (a b : ℕ) (r : Result ℕ Fault) → r ≡ Ok a → r ≡ Ok b → a ≡ b
chosen_is a b r x y = cc

not_both : (a : ℕ) (f : Fault) (r : Result ℕ Fault) → r ≡ Ok a → r ≡ Err f → ⊥
not_both a f r x y = cc

fault_is : (f g : Fault) (r : Result ℕ Fault) → r ≡ Err f → r ≡ Err g → f ≡ g
fault_is f g r x y = cc

some_fault_is : (f g : Fault) (o : Option Fault) → o ≡ Some f → o ≡ Some g → f ≡ g
some_fault_is f g o x y = cc

none_some : (f : Fault) (o : Option Fault) → o ≡ None → o ≡ Some f → ⊥
none_some f o x y = cc

octets_by : (side : Side) (segments : List Segment) (connection : Connection) → Tells segments connection → octets_from side connection ≡ next_of side segments
octets_by side [] connection t = absurd t
octets_by Local (s ∷ before) connection t = t.sent.count
octets_by Peer (s ∷ before) connection t = t.received.count

module _ (number : Option ℕ) (last_packet : ℕ) (connections : List (List Segment)) where
  one_count : (side : Side) (a b : Connection) → IsAnswered number last_packet connections a → IsAnswered number last_packet connections b → octets_from side a ≡ octets_from side b
  one_count side a b x y =
      octets_by side (numbered_one connections a.number) a x.tells
      ∙ ap (λ (n : ℕ). next_of side (numbered_one connections n)) (chosen_is a.number b.number (chosen_of number last_packet connections) x.chosen y.chosen)
      ∙ sym (octets_by side (numbered_one connections b.number) b y.tells)

  not_refused : (a : Connection) (fault : Fault) → IsAnswered number last_packet connections a → IsRefused number last_packet connections fault → ⊥
  not_refused a fault x (inl none) = not_both a.number fault (chosen_of number last_packet connections) x.chosen none
  not_refused a fault x (inr (n, chosen, refused)) =
      none_some fault (refusal_of (numbered_one connections n))
      (ap (λ (k : ℕ). refusal_of (numbered_one connections k)) (chosen_is n a.number (chosen_of number last_packet connections) chosen x.chosen) ∙ x.fine) refused

  one_fault : (f g : Fault) → IsRefused number last_packet connections f → IsRefused number last_packet connections g → f ≡ g
  one_fault f g (inl x) (inl y) = fault_is f g (chosen_of number last_packet connections) x y
  one_fault f g (inl x) (inr (n, chosen, refused)) = absurd (not_both n f (chosen_of number last_packet connections) chosen x)
  one_fault f g (inr (n, chosen, refused)) (inl y) = absurd (not_both n g (chosen_of number last_packet connections) chosen y)
  one_fault f g (inr (n, chosen, refused)) (inr (k, taken, turned)) =
      some_fault_is f g (refusal_of (numbered_one connections n)) refused
      (ap (λ (i : ℕ). refusal_of (numbered_one connections i)) (chosen_is n k (chosen_of number last_packet connections) chosen taken) ∙ turned)

-- ---- one line at a place

record AreOne (session other : Session) (opening another : Opening) (segments more : List Segment) : Type 0 where
  pub session_is : session ≡ other
  pub opening_is : opening ≡ another
  pub segments_are : segments ≡ more

module _ (port last_packet : ℕ) (packets : List Recorded) (known : AreKnown packets) where
  abbrev At : ℕ → LineValue → Type 0
  At place line = IsLineAt port packets last_packet place line

  abbrev OfOne : ℕ → Session → Opening → LineValue → Type 0
  OfOne place session opening line = IsLineOfOne port packets last_packet place session opening line

  are_one : (place : ℕ) (session other : Session) (opening another : Opening) (line its : LineValue) (a : OfOne place session opening line) (b : OfOne place other another its)
      → AreOne session other opening another a.segments b.segments
  are_one place session other opening another line its a b =
      let same = connections_alone port packets a.addresses b.addresses a.segments b.segments opening another a.has b.has (sym a.is_place ∙ b.is_place) in
      let opens : OpensAs (connection_in a.segments opening.number) another =
      subst (λ (n : ℕ). OpensAs (connection_in a.segments n) another) (sym same.2)
      (subst (λ (s : List Segment). OpensAs (connection_in s another.number) another) (sym same.1) b.has.opens) in
      record {
        session_is = a.is_session ∙ ap session_of same.0 ∙ sym b.is_session;
        opening_is = one_opening (connection_in a.segments opening.number) opening another same.2 a.has.opens opens;
        segments_are = same.1;
      }

  -- what the second tells of the first's connection
  as_first : (Tell : List Segment → Opening → Type 0) (session other : Session) (opening another : Opening) (segments more : List Segment)
      → AreOne session other opening another segments more → Tell (reverse more) another → Tell (reverse segments) opening
  as_first Tell session other opening another segments more same tells =
      subst (λ (s : List Segment). Tell (reverse s) opening) (sym same.segments_are) (subst (λ (o : Opening). Tell (reverse more) o) (sym same.opening_is) tells)

  same_octets : (session other : Session) (opening another : Opening) (o p : OutlineValue) (f g s t : ℕ) → session ≡ other → opening ≡ another → o ≡ p → f ≡ g → s ≡ t
      → Octets session opening o f s ≡ Octets other another p g t
  same_octets session other opening another o p f g s t a b e c d =
      ap (λ (x : Session). Octets x opening o f s) a ∙ ap (λ (x : Opening). Octets other x o f s) b ∙ ap (λ (x : OutlineValue). Octets other another x f s) e
      ∙ ap (λ (x : ℕ). Octets other another p x s) c ∙ ap (λ (x : ℕ). Octets other another p g x) d

  same_refused : (session other : Session) (opening another : Opening) (f g : Refusal) → session ≡ other → opening ≡ another → f ≡ g → Refused session opening f ≡ Refused other another g
  same_refused session other opening another f g a b c =
      ap (λ (x : Session). Refused x opening f) a ∙ ap (λ (x : Opening). Refused other x f) b ∙ ap (λ (x : Refusal). Refused other another x) c

  -- a connection doesn't begin where a packet is refused
  not_one : (place : ℕ) (session : Session) (opening : Opening) (line : LineValue) (addresses : Addresses) (refusal : Refusal) → OfOne place session opening line
      → IsLineOfAll port packets last_packet place addresses refusal → ⊥
  not_one place session opening line addresses refusal a b =
      none_at_refusal port place packets a.addresses addresses a.segments opening b.fault known b.ordered a.has b.refused (sym a.is_place)

  one_line : (place : ℕ) (a b : LineValue) → At place a → At place b → a ≡ b
  one_line place (Octets session opening o f s) (Octets other another p g t) a b =
      let same = are_one place session other opening another _ _ a b in
      let its = a.is_line.2 in
      let others : TellsOctets last_packet (reverse a.segments) opening p g t =
      as_first (λ (v : List Segment) (x : Opening). TellsOctets last_packet v x p g t) session other opening another a.segments b.segments same b.is_line.2 in
      let connections = numbered (reverse a.segments) in
      same_octets session other opening another o p f g s t same.session_is same.opening_is
      (outlined_once (reverse a.segments) (Some opening.number) last_packet its.connection others.connection o p (in_order (selection_of a.addresses port) packets a.segments a.has.taken)
      its.chosen others.chosen its.outlined others.outlined)
      (its.is_first ∙ one_count (Some opening.number) last_packet connections opening.opened_by its.connection others.connection its.chosen others.chosen ∙ sym others.is_first)
      (its.is_second ∙ one_count (Some opening.number) last_packet connections _ its.connection others.connection its.chosen others.chosen ∙ sym others.is_second)
  one_line place (Octets session opening o f s) (Refused other another refusal) a b =
      let same = are_one place session other opening another _ _ a b in
      let its = a.is_line.2 in
      let others : TellsRefusal last_packet (reverse a.segments) opening refusal =
      as_first (λ (v : List Segment) (o : Opening). TellsRefusal last_packet v o refusal) session other opening another a.segments b.segments same b.is_line.2 in
      absurd (not_refused (Some opening.number) last_packet (numbered (reverse a.segments)) its.connection others.fault its.chosen others.refused)
  one_line place (Octets session opening o f s) (AllRefused addresses refusal) a b = absurd (not_one place session opening _ addresses refusal a b)
  one_line place (Refused session opening refusal) (Octets other another p g t) a b =
      let same = are_one place session other opening another _ _ a b in
      let its = a.is_line.2 in
      let others : TellsOctets last_packet (reverse a.segments) opening p g t =
      as_first (λ (v : List Segment) (x : Opening). TellsOctets last_packet v x p g t) session other opening another a.segments b.segments same b.is_line.2 in
      absurd (not_refused (Some opening.number) last_packet (numbered (reverse a.segments)) others.connection its.fault others.chosen its.refused)
  one_line place (Refused session opening f) (Refused other another g) a b =
      let same = are_one place session other opening another _ _ a b in
      let its = a.is_line.2 in
      let others : TellsRefusal last_packet (reverse a.segments) opening g =
      as_first (λ (v : List Segment) (o : Opening). TellsRefusal last_packet v o g) session other opening another a.segments b.segments same b.is_line.2 in
      same_refused session other opening another f g same.session_is same.opening_is
      (its.is ∙ ap (λ (x : Fault). refusals.Connection x) (one_fault (Some opening.number) last_packet (numbered (reverse a.segments)) its.fault others.fault its.refused others.refused) ∙ sym others.is)
  one_line place (Refused session opening f) (AllRefused addresses refusal) a b = absurd (not_one place session opening _ addresses refusal a b)
  one_line place (AllRefused addresses refusal) (Octets other another p g t) a b = absurd (not_one place other another _ addresses refusal b a)
  one_line place (AllRefused addresses refusal) (Refused other another g) a b = absurd (not_one place other another _ addresses refusal b a)
  one_line place (AllRefused addresses f) (AllRefused others g) a b =
      let same = refusals_alone port place packets addresses others a.fault b.fault known a.ordered b.ordered a.refused b.refused in
      ap (λ (x : Addresses). AllRefused x f) same.0
      ∙ ap (λ (x : Refusal). AllRefused others x) (a.is ∙ ap (λ (x : PacketFault). refusals.Packet x place) same.1 ∙ sym b.is)

  -- ---- each line's place is one of every list

  has_connection : (places : List ℕ) → HasAll port packets (Contains places) → (place : ℕ) (session : Session) (opening : Opening) (line : LineValue) → OfOne place session opening line
      → Contains places place
  has_connection places all place session opening line a = elim (all a.addresses a.has.ordered) [
    | inl theirs ↦
        let same : theirs.segments ≡ a.segments = same_taken (selection_of a.addresses port) 0 packets theirs.segments a.segments theirs.taken a.has.taken in
        let there = theirs.each opening.number (subst (λ (s : List Segment). IsNumber s opening.number) (sym same) a.has.number) in
        let its : first_packet (connection_in theirs.segments opening.number) ≡ place =
        ap (λ (s : List Segment). first_packet (connection_in s opening.number)) same ∙ sym (place_of a.segments opening.number opening refl a.has.opens) ∙ sym a.is_place in
        subst (λ (p : ℕ). Contains places p) its there
    | inr refused ↦ absurd (taken_not_refused (selection_of a.addresses port) refused.refused.front refused.refused.later packets refused.refused.packet a.segments refused.fault
        refused.refused.whole a.has.taken refused.refused.refused)
  ]

  has_refusal : (places : List ℕ) → HasAll port packets (Contains places) → (place : ℕ) (addresses : Addresses) (refusal : Refusal) → IsLineOfAll port packets last_packet place addresses refusal
      → Contains places place
  has_refusal places all place addresses refusal a = elim (all addresses a.ordered) [
    | inl theirs ↦ absurd (taken_not_refused (selection_of addresses port) a.refused.front a.refused.later packets a.refused.packet theirs.segments a.fault a.refused.whole theirs.taken a.refused.refused)
    | inr theirs ↦ subst (λ (p : ℕ). Contains places p) (one_place port packets addresses theirs.fault a.fault theirs.place place theirs.refused a.refused) theirs.is_place
  ]

  has_place : (places : List ℕ) → HasAll port packets (Contains places) → (place : ℕ) (line : LineValue) → At place line → Contains places place
  has_place places all place (Octets session opening o f s) a = has_connection places all place session opening _ a
  has_place places all place (Refused session opening f) a = has_connection places all place session opening _ a
  has_place places all place (AllRefused addresses f) a = has_refusal places all place addresses f a

-- ---- lists of numbers that rise

abbrev Among : List ℕ → ℕ → Type 0
Among [] p = ⊥
Among (x ∷ xs) p = (x ≡ p) ⊎ Among xs p

among_at : (xs : List ℕ) (k p : ℕ) → k < length xs → get_or xs k p ≡ p → Among xs p
among_at [] k p lt is = absurd (omega (arith, lt))
among_at (x ∷ xs) zero p lt is = inl is
among_at (x ∷ xs) (suc k) p lt is = inr (among_at xs k p (omega (arith, lt)) is)

among : (xs : List ℕ) (p : ℕ) → Contains xs p → Among xs p
among xs p (k, lt, is) = among_at xs k p lt is

above : (x p : ℕ) (xs : List ℕ) → AllByRecursion (λ y. nat_cmp x y ≡ Less) xs → Among xs p → x < p
above x p [] all there = absurd there
above x p (y ∷ xs) all (inl is) = let lt : x < y = ranked x y Less (sym all.0) in omega (arith, lt, is)
above x p (y ∷ xs) all (inr later) = above x p xs all.1 later

abbrev Within : List ℕ → List ℕ → Type 0
Within xs ys = (p : ℕ) → Among xs p → Among ys p

not_first : (x p : ℕ) (xs : List ℕ) → x < p → Among (x ∷ xs) p → Among xs p
not_first x p xs less (inl is) = absurd (omega (arith, less, is))
not_first x p xs less (inr later) = later

-- the first of one isn't above that of the other
not_above : (x y : ℕ) (xs ys : List ℕ) → IsStrictlySortedBy nat_cmp (y ∷ ys) → Within (x ∷ xs) (y ∷ ys) → (x < y → ⊥)
not_above x y xs ys rises within less = elim (within x (inl refl)) [
  | inl is ↦ omega (arith, less, is)
  | inr later ↦ let more = above y x ys (sorted_head nat_cmp y ys rises) later in omega (arith, less, more)
]

rest_within : (x : ℕ) (xs ys : List ℕ) → IsStrictlySortedBy nat_cmp (x ∷ xs) → Within (x ∷ xs) (x ∷ ys) → Within xs ys
rest_within x xs ys rises within p there = not_first x p ys (above x p xs (sorted_head nat_cmp x xs rises) there) (within p (inr there))

pub same_numbers : (xs ys : List ℕ) → IsStrictlySortedBy nat_cmp xs → IsStrictlySortedBy nat_cmp ys → Within xs ys → Within ys xs → xs ≡ ys
same_numbers [] [] rises also within back = refl
same_numbers [] (y ∷ ys) rises also within back = absurd (back y (inl refl))
same_numbers (x ∷ xs) [] rises also within back = absurd (within x (inl refl))
same_numbers (x ∷ xs) (y ∷ ys) rises also within back =
    let same : x ≡ y = omega (arith, not_above x y xs ys also within, not_above y x ys xs rises back) in
    let there : Within (x ∷ xs) (x ∷ ys) = subst (λ (v : ℕ). Within (x ∷ xs) (v ∷ ys)) (sym same) within in
    let here : Within (x ∷ ys) (x ∷ xs) = subst (λ (v : ℕ). Within (v ∷ ys) (x ∷ xs)) (sym same) back in
    let rising : IsStrictlySortedBy nat_cmp (x ∷ ys) = subst (λ (v : ℕ). IsStrictlySortedBy nat_cmp (v ∷ ys)) (sym same) also in
    ap (λ (v : ℕ). v ∷ xs) same
    ∙ ap (λ (v : List ℕ). y ∷ v) (same_numbers xs ys (sorted_tail nat_cmp x xs rises) (sorted_tail nat_cmp y ys also) (rest_within x xs ys rises there) (rest_within x ys xs rising here))

-- ---- one list

module _ (port last_packet : ℕ) (packets : List Recorded) (known : AreKnown packets) where
  places_within : (places : List ℕ) (lines : List (ℕ × LineValue)) → HasAll port packets (Contains places)
      → AllByRecursion (λ (l : ℕ × LineValue). IsLineAt port packets last_packet l.0 l.1) lines → Within (keys_of lines) places
  places_within places [] all lines p there = absurd there
  places_within places (l ∷ ls) all lines p (inl is) =
      subst (λ (n : ℕ). Among places n) is (among places l.0 (has_place port last_packet packets known places all l.0 l.1 lines.0))
  places_within places (l ∷ ls) all lines p (inr later) = places_within places ls all lines.1 p later

  key_is : (k j : ℕ) (ks js : List ℕ) → k ∷ ks ≡ j ∷ js → k ≡ j
  key_is k j ks js e = cc

  keys_are : (k j : ℕ) (ks js : List ℕ) → k ∷ ks ≡ j ∷ js → ks ≡ js
  keys_are k j ks js e = cc

  no_keys : (k : ℕ) (ks : List ℕ) → [] ≡ k ∷ ks → ⊥
  no_keys k ks e = cc

  same_lines : (ones others : List (ℕ × LineValue)) → keys_of ones ≡ keys_of others → AllByRecursion (λ (l : ℕ × LineValue). IsLineAt port packets last_packet l.0 l.1) ones
      → AllByRecursion (λ (l : ℕ × LineValue). IsLineAt port packets last_packet l.0 l.1) others → ones ≡ others
  same_lines [] [] same x y = refl
  same_lines [] (b ∷ others) same x y = absurd (no_keys b.0 (keys_of others) same)
  same_lines (a ∷ ones) [] same x y = absurd (no_keys a.0 (keys_of ones) (sym same))
  same_lines (a ∷ ones) (b ∷ others) same x y =
      let place : a.0 ≡ b.0 = key_is a.0 b.0 (keys_of ones) (keys_of others) same in
      let line : a.1 ≡ b.1 =
      one_line port last_packet packets known a.0 a.1 b.1 x.0 (subst (λ (n : ℕ). IsLineAt port packets last_packet n b.1) (sym place) y.0) in
      ap (λ (n : ℕ). (n, a.1) ∷ ones) place ∙ ap (λ (l : LineValue). (b.0, l) ∷ ones) line
      ∙ ap (λ (ls : List (ℕ × LineValue)). b ∷ ls) (same_lines ones others (keys_are a.0 b.0 (keys_of ones) (keys_of others) same) x.1 y.1)

  pub one_list : (ones others : List (ℕ × LineValue)) → IsList port packets last_packet ones → IsList port packets last_packet others → ones ≡ others
  one_list ones others a b =
      same_lines ones others
      (same_numbers (keys_of ones) (keys_of others) a.rise b.rise (places_within (keys_of others) ones b.all a.are_lines) (places_within (keys_of ones) others a.all b.are_lines))
      a.are_lines b.are_lines
