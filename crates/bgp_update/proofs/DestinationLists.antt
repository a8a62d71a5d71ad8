-- A list of destinations walked from its front, and that the walk reads what the relation says.
use Rattle.std.proofs.Common.{◌≡◌, ◌↔◌, ◌⊎◌, ℕ, zero, suc, ◌+◌, ◌/◌, ◌<◌, ◌≤◌, Bool, true, false, List, [], ◌∷◌, ◌++◌, length, take, drop, get_or, Option, None, Some, option_map, is_some, IsTrue, refl, sym, ap, subst, ◌∙◌, arith, inl, inr, eqb, append_assoc, append-nil}
use Rattle.std.specs.Prelude.{IfNone}
use Rattle.std.proofs.lemmas.Bool.{cases_Bool, and_parts, leb-true, le-leb, eqb-true, ne_eqb, eq-eqb}
use Rattle.std.proofs.lemmas.List.{length-drop, drop_all, nil_from_length, take_at}
use Rattle.byteorder.specs.Endian.{big_number}
use Rattle.bgp_open.specs.Family.{Family}
use Rattle.bgp_open.specs.Address.{bit_count}
use Rattle.bgp_open.specs.Prefix.{PrefixBits, BeginsWithPrefix}
use Rattle.bgp_open.proofs.OneSpelling.{tells, one_spelling}
use Rattle.bgp_open.proofs.PrefixParts.{begins}
use Rattle.bgp_update.specs.declared.destination.Destination.{Destination}
use Rattle.bgp_update.specs.Listed.{listed}
use Rattle.bgp_update.specs.Plain.{plain}
use Rattle.bgp_update.specs.Destinations.{AreDestinations, BeginsWithDestination, id_len, prefix_len, has_prefix, first_prefix, destination_len, has_destination, first_destination, destinations_in, destinations_of, ReadsDestinations}

-- ---- a prefix at the front

plus_one : (k : ℕ) → suc k ≡ 1 + k
plus_one k = omega arith

record PrefixFits (family : Family) (octets : List ℕ) : Type 0 where
  some : 1 ≤ prefix_len octets
  bits : get_or octets 0 0 ≤ bit_count family
  whole : prefix_len octets ≤ length octets

prefix_fits : (family : Family) (octets : List ℕ) → has_prefix family octets ≡ true → PrefixFits family octets
unfolding has_prefix prefix_len
prefix_fits family octets e =
    let parts = and_parts _ _ e in
    record { some = omega arith; bits = leb-true _ _ parts.0; whole = leb-true _ _ parts.1 }

-- the octets begin with the prefix that stands there
prefix_front : (family : Family) (octets : List ℕ) → has_prefix family octets ≡ true
    → BeginsWithPrefix family octets (first_prefix family octets) (prefix_len octets)
unfolding prefix_len first_prefix
prefix_front family [] e = let f = prefix_fits family [] e in absurd (omega (arith, f.some, f.whole))
prefix_front family (count ∷ field) e =
    let f = prefix_fits family (count ∷ field) e in
    let bits = f.bits in
    let whole = f.whole in
    subst (BeginsWithPrefix family (count ∷ field) (first_prefix family (count ∷ field))) (plus_one ((count + 7) / 8))
    (begins family count field bits (omega arith))

-- no other does
record OnlyPrefix (family : Family) (octets : List ℕ) (p : PrefixBits) (n : ℕ) : Type 0 where
  has : has_prefix family octets ≡ true
  first : first_prefix family octets ≡ p
  len : prefix_len octets ≡ n

stands : (family : Family) (octets : List ℕ) (p : PrefixBits) (n : ℕ) → BeginsWithPrefix family octets p n → has_prefix family octets ≡ true
unfolding has_prefix prefix_len
stands family octets p n b =
    let t = tells family octets p n b in
    let long = t.as_long in
    let many = t.many in
    let within = b.within in
    let is : length p.bits ≤ bit_count family = rw (← b.of_family) b.spelling.is_prefix in
    rw (le-leb (get_or octets 0 0) (bit_count family) (omega arith), le-leb (1 + (get_or octets 0 0 + 7) / 8) (length octets) (omega arith)) refl

only_prefix : (family : Family) (octets : List ℕ) (p : PrefixBits) (n : ℕ) → BeginsWithPrefix family octets p n → OnlyPrefix family octets p n
only_prefix family octets p n b =
    let has = stands family octets p n b in
    let same = one_spelling family octets _ _ _ _ (prefix_front family octets has) b in
    record { has = has; first = same.0; len = same.1 }

pub no_prefix : (family : Family) (octets : List ℕ) → ((p : PrefixBits) (n : ℕ) → ¬ BeginsWithPrefix family octets p n) → has_prefix family octets ≡ false
no_prefix family octets none = elim (cases_Bool (has_prefix family octets)) [
  | inl h ↦ absurd (none _ _ (prefix_front family octets h))
  | inr h ↦ h
]

nothing : (family : Family) → has_prefix family [] ≡ false
nothing family = elim (cases_Bool (has_prefix family [])) [
  | inl h ↦ let f = prefix_fits family [] h in absurd (omega (arith, f.some, f.whole))
  | inr h ↦ h
]

-- ---- a destination at the front: a prefix behind an identifier, if there are any

pub record Fits (identified : Bool) (family : Family) (octets : List ℕ) : Type 0 where
  pub some : 1 ≤ destination_len identified octets
  pub id : id_len identified ≤ length octets
  pub whole : destination_len identified octets ≤ length octets

pub fits : (identified : Bool) (family : Family) (octets : List ℕ) → has_destination identified family octets ≡ true → Fits identified family octets
unfolding has_destination destination_len
fits identified family octets e =
    let f = prefix_fits family (drop (id_len identified) octets) e in
    let rest = length-drop (id_len identified) octets in
    record {
      some = omega (arith, f.some);
      id = omega (arith, f.some, f.whole, rest);
      whole = omega (arith, f.some, f.whole, rest);
    }

-- the octets begin with the destination that stands there
pub front : (identified : Bool) (family : Family) (octets : List ℕ) → has_destination identified family octets ≡ true
    → BeginsWithDestination identified family octets (first_destination identified family octets) (destination_len identified octets)
unfolding has_destination destination_len first_destination
front identified family octets e = record {
  prefix_count = prefix_len (drop (id_len identified) octets);
  identifier = (fits identified family octets e).id;
  path = refl;
  prefix = prefix_front family (drop (id_len identified) octets) e;
  counted = refl;
}

-- no other does
pub record Only (identified : Bool) (family : Family) (octets : List ℕ) (d : Destination) (n : ℕ) : Type 0 where
  pub has : has_destination identified family octets ≡ true
  pub first : first_destination identified family octets ≡ d
  pub len : destination_len identified octets ≡ n

pub only : (identified : Bool) (family : Family) (octets : List ℕ) (d : Destination) (n : ℕ) → BeginsWithDestination identified family octets d n → Only identified family octets d n
unfolding has_destination destination_len first_destination
only identified family octets d n b =
    let o = only_prefix family (drop (id_len identified) octets) d.prefix b.prefix_count b.prefix in
    record {
      has = o.has;
      first = λ i. record { prefix = o.first i; path = sym b.path i };
      len = ap (λ (k : ℕ). id_len identified + k) o.len ∙ sym b.counted;
    }

-- ---- what stands at the front, without an identifier and behind one

pub plain_none : (identified : Bool) (family : Family) (octets : List ℕ) → identified ≡ false → has_prefix family octets ≡ false → has_destination identified family octets ≡ false
unfolding has_destination
plain_none true family octets e none = absurd cc
plain_none false family octets e none = none

pub cut_none : (identified : Bool) (family : Family) (octets : List ℕ) → identified ≡ true → length octets < 4 → has_destination identified family octets ≡ false
unfolding has_destination
cut_none false family octets e cut = absurd cc
cut_none true family octets e cut = rw (drop_all 4 octets (omega arith)) (nothing family)

pub behind_none : (identified : Bool) (family : Family) (octets rest : List ℕ) → identified ≡ true → rest ≡ drop 4 octets → has_prefix family rest ≡ false → has_destination identified family octets ≡ false
unfolding has_destination
behind_none false family octets rest e gone none = absurd cc
behind_none true family octets rest e gone none = rw (← gone) none

pub plain_some : (identified : Bool) (family : Family) (octets : List ℕ) → identified ≡ false → has_prefix family octets ≡ true → has_destination identified family octets ≡ true
unfolding has_destination
plain_some true family octets e some = absurd cc
plain_some false family octets e some = some

pub plain_len : (identified : Bool) (octets : List ℕ) (len : ℕ) → identified ≡ false → len ≡ prefix_len octets → len ≡ destination_len identified octets
unfolding destination_len
plain_len true octets len e same = absurd cc
plain_len false octets len e same = let none : prefix_len octets ≡ 0 + prefix_len octets = omega arith in same ∙ none

pub behind_some : (identified : Bool) (family : Family) (octets rest : List ℕ) → identified ≡ true → rest ≡ drop 4 octets → has_prefix family rest ≡ true → has_destination identified family octets ≡ true
unfolding has_destination
behind_some false family octets rest e gone some = absurd cc
behind_some true family octets rest e gone some = rw (← gone) some

pub behind_len : (identified : Bool) (octets rest : List ℕ) (len : ℕ) → identified ≡ true → rest ≡ drop 4 octets → len ≡ prefix_len rest → 4 + len ≡ destination_len identified octets
unfolding destination_len
behind_len false octets rest len e gone same = absurd cc
behind_len true octets rest len e gone same = ap (λ (k : ℕ). 4 + k) (same ∙ ap prefix_len gone)

pub if_none : {A : Type 0} (o : Option A) (P Q : Type 0) → (P → Q) → IfNone o P → IfNone o Q
if_none None P Q f p = f p
if_none (Some x) P Q f p = tt

-- ---- the walk

less : (n : ℕ) (identified : Bool) (family : Family) (octets : List ℕ) → has_destination identified family octets ≡ true → length octets ≤ suc n → length (drop (destination_len identified octets) octets) ≤ n
less n identified family octets e h = let f = fits identified family octets e in omega (arith, f.some, f.whole, length-drop (destination_len identified octets) octets)

same_in : (n m : ℕ) (identified : Bool) (family : Family) (octets : List ℕ) → length octets ≤ n → length octets ≤ m → destinations_in n identified family octets ≡ destinations_in m identified family octets
same_in zero zero identified family octets h k = refl
same_in zero (suc m) identified family octets h k = rw (eq-eqb (length octets) 0 (omega arith)) refl
same_in (suc n) zero identified family octets h k = rw (eq-eqb (length octets) 0 (omega arith)) refl
same_in (suc n) (suc m) identified family octets h k = elim (cases_Bool (has_destination identified family octets)) [
  | inl e ↦
      let same = same_in n m identified family (drop (destination_len identified octets) octets) (less n identified family octets e h) (less m identified family octets e k) in
      rw (e, same) refl
  | inr e ↦ rw e refl
]

abbrev pub after_first : Bool → Family → List ℕ → Option (List Destination) → Option (List Destination)
after_first identified family octets rest = option_map (λ destinations. first_destination identified family octets ∷ destinations) rest

pub destinations_end : (identified : Bool) (family : Family) (octets : List ℕ) → true ≡ eqb (length octets) 0 → destinations_of identified family octets ≡ Some []
unfolding destinations_of
destinations_end identified family octets e = rw (nil_from_length octets (eqb-true _ _ (sym e))) refl

pub destinations_step : (identified : Bool) (family : Family) (octets : List ℕ) → has_destination identified family octets ≡ true
    → destinations_of identified family octets ≡ after_first identified family octets (destinations_of identified family (drop (destination_len identified octets) octets))
unfolding destinations_of
destinations_step identified family octets e =
    let f = fits identified family octets e in
    let rest = drop (destination_len identified octets) octets in
    let one : destinations_in (suc (length octets)) identified family octets ≡ after_first identified family octets (destinations_in (length octets) identified family rest) =
    rw (ne_eqb (length octets) 0 (λ z. absurd (omega (arith, f.some, f.whole))), e) refl in
    same_in (length octets) (suc (length octets)) identified family octets (omega arith) (omega arith)
    ∙ one
    ∙ ap (after_first identified family octets) (same_in (length octets) (length rest) identified family rest (omega (arith, length-drop (destination_len identified octets) octets)) (omega arith))

pub destinations_stop : (identified : Bool) (family : Family) (octets : List ℕ) → false ≡ eqb (length octets) 0 → has_destination identified family octets ≡ false → destinations_of identified family octets ≡ None
unfolding destinations_of
destinations_stop identified family octets some e =
    let one : destinations_in (suc (length octets)) identified family octets ≡ None = rw (← some, e) refl in
    same_in (length octets) (suc (length octets)) identified family octets (omega arith) (omega arith) ∙ one

-- ---- the function is the relation

to : (identified : Bool) (family : Family) (octets : List ℕ) (ps : List Destination) → AreDestinations identified family octets ps → destinations_of identified family octets ≡ Some ps
to identified family octets [] e = destinations_end identified family octets (rw e refl)
to identified family octets (p ∷ ps) (n, b, rest) =
    let o = only identified family octets p n b in
    destinations_step identified family octets o.has ∙ rw (o.first, o.len, to identified family (drop n octets) ps rest) refl

record Split (first : Destination) (inner : Option (List Destination)) (ps : List Destination) : Type 0 where
  rest : List Destination
  is : inner ≡ Some rest
  all : first ∷ rest ≡ ps

split : (first : Destination) (inner : Option (List Destination)) (ps : List Destination) → option_map (λ destinations. first ∷ destinations) inner ≡ Some ps → Split first inner ps
split first None ps e = absurd cc
split first (Some rest) ps e = record { rest = rest; is = refl; all = cc }

from : (n : ℕ) (identified : Bool) (family : Family) (octets : List ℕ) (ps : List Destination) → destinations_in n identified family octets ≡ Some ps → AreDestinations identified family octets ps
from zero identified family octets ps e = elim (cases_Bool (eqb (length octets) 0)) [
  | inl z ↦
      let none : [] ≡ ps = let s = rw z at e in cc in
      subst (AreDestinations identified family octets) none (nil_from_length octets (eqb-true _ _ z))
  | inr z ↦ let s = rw z at e in absurd cc
]
from (suc n) identified family octets ps e = elim (cases_Bool (eqb (length octets) 0)) [
  | inl z ↦
      let none : [] ≡ ps = let s = rw z at e in cc in
      subst (AreDestinations identified family octets) none (nil_from_length octets (eqb-true _ _ z))
  | inr z ↦ elim (cases_Bool (has_destination identified family octets)) [
    | inl h ↦
        let s = split (first_destination identified family octets) (destinations_in n identified family (drop (destination_len identified octets) octets)) ps (rw (z, h) at e) in
        subst (AreDestinations identified family octets) s.all (destination_len identified octets, front identified family octets h, from n identified family (drop (destination_len identified octets) octets) s.rest s.is)
    | inr h ↦ let s = rw (z, h) at e in absurd cc
  ]
]

pub reads_destinations : ReadsDestinations
unfolding destinations_of
reads_destinations identified family octets ps = (to identified family octets ps, from (length octets) identified family octets ps)

-- ---- a count and an append, one destination at a time

pub counted : (identified : Bool) (family : Family) (octets after : List ℕ) (count : ℕ) (all : Option ℕ) → has_destination identified family octets ≡ true → after ≡ drop (destination_len identified octets) octets
    → option_map (λ n. count + n) (option_map length (destinations_of identified family octets)) ≡ all
    → option_map (λ n. (count + 1) + n) (option_map length (destinations_of identified family after)) ≡ all
counted identified family octets after count all e gone before = rw gone (go (destinations_of identified family (drop (destination_len identified octets) octets)) (rw (destinations_step identified family octets e) at before))
  where
    go : (rest : Option (List Destination)) → option_map (λ n. count + n) (option_map length (after_first identified family octets rest)) ≡ all
        → option_map (λ n. (count + 1) + n) (option_map length rest) ≡ all
    go None h = h
    go (Some ps) h = let more : (count + 1) + length ps ≡ count + suc (length ps) = omega arith in ap Some more ∙ h

pub all_counted : (identified : Bool) (family : Family) (octets : List ℕ) (count : ℕ) (all : Option ℕ) → true ≡ eqb (length octets) 0
    → option_map (λ n. count + n) (option_map length (destinations_of identified family octets)) ≡ all → Some count ≡ all
all_counted identified family octets count all e before = let done = rw (destinations_end identified family octets e) at before in let more : count ≡ count + 0 = omega arith in ap Some more ∙ done

pub none_counted : (identified : Bool) (family : Family) (octets : List ℕ) (count : ℕ) (all : Option ℕ) → false ≡ eqb (length octets) 0 → has_destination identified family octets ≡ false
    → option_map (λ n. count + n) (option_map length (destinations_of identified family octets)) ≡ all → None ≡ all
none_counted identified family octets count all some e before = rw (destinations_stop identified family octets some e) at before

none_some : false ≡ true → ⊥
none_some e = absurd cc

pub record Goes (identified : Bool) (family : Family) (octets : List ℕ) (out all : List Destination) : Type 0 where
  pub whole : is_some (destinations_of identified family octets) ≡ true
  pub so_far : out ++ listed (destinations_of identified family octets) ≡ all

pub goes : (identified : Bool) (family : Family) (octets after : List ℕ) (p : Destination) (n : ℕ) (old new all : List Destination) → BeginsWithDestination identified family octets p n
    → after ≡ drop n octets → new ≡ old ++ p ∷ [] → Goes identified family octets old all → Goes identified family after new all
goes identified family octets after p n old new all b gone push before =
    let o = only identified family octets p n b in
    let step = destinations_step identified family octets o.has in
    go (destinations_of identified family after) refl (step ∙ rw (o.first, o.len, gone) refl)
  where
    go : (rest : Option (List Destination)) → destinations_of identified family after ≡ rest → destinations_of identified family octets ≡ option_map (λ destinations. p ∷ destinations) rest → Goes identified family after new all
    go None is e = absurd (none_some (rw e at before.whole))
    go (Some ps) is e =
        let whole : old ++ p ∷ ps ≡ all = rw e at before.so_far in
        record { whole = rw is refl; so_far = rw (is, push, append_assoc) whole }

pub all_pushed : (identified : Bool) (family : Family) (octets : List ℕ) (out all : List Destination) → has_destination identified family octets ≡ false → Goes identified family octets out all → out ≡ all
all_pushed identified family octets out all none before = elim (cases_Bool (eqb (length octets) 0)) [
  | inl z ↦ let end : out ++ [] ≡ all = rw (destinations_end identified family octets (sym z)) at before.so_far in sym (append-nil out) ∙ end
  | inr z ↦ absurd (none_some (rw (destinations_stop identified family octets (sym z) none) at before.whole))
]

-- ---- a field read to where no destination stands

pub record Read (identified : Bool) (family : Family) (octets rest : List ℕ) (old out : List Destination) : Type 0 where
  pub front : List Destination
  pub pushed : out ≡ old ++ front
  pub left : destinations_of identified family octets ≡ option_map (λ destinations. front ++ destinations) (destinations_of identified family rest)

pub none_read : (identified : Bool) (family : Family) (octets : List ℕ) (old : List Destination) → Read identified family octets octets old old
none_read identified family octets old = record { front = []; pushed = sym (append-nil old); left = go (destinations_of identified family octets) }
  where
    go : (all : Option (List Destination)) → all ≡ option_map (λ destinations. [] ++ destinations) all
    go None = refl
    go (Some destinations) = refl

joined : (front : List Destination) (p : Destination) (rest : Option (List Destination))
    → option_map (λ destinations. front ++ destinations) (option_map (λ destinations. p ∷ destinations) rest) ≡ option_map (λ destinations. (front ++ p ∷ []) ++ destinations) rest
joined front p None = refl
joined front p (Some destinations) = ap Some (sym (append_assoc front (p ∷ []) destinations))

pub one_read : (identified : Bool) (family : Family) (octets rest after : List ℕ) (p : Destination) (n : ℕ) (old out new : List Destination) → BeginsWithDestination identified family rest p n
    → after ≡ drop n rest → new ≡ out ++ p ∷ [] → Read identified family octets rest old out → Read identified family octets after old new
one_read identified family octets rest after p n old out new b gone push before =
    let o = only identified family rest p n b in
    let step : destinations_of identified family rest ≡ option_map (λ destinations. p ∷ destinations) (destinations_of identified family after) =
    destinations_step identified family rest o.has ∙ rw (o.first, o.len, gone) refl in
    record {
      front = before.front ++ p ∷ [];
      pushed = push ∙ ap (λ (t : List Destination). t ++ p ∷ []) before.pushed ∙ append_assoc old before.front (p ∷ []);
      left = before.left ∙ ap (option_map (λ destinations. before.front ++ destinations)) step ∙ joined before.front p (destinations_of identified family after);
    }

pub all_read : (identified : Bool) (family : Family) (octets rest : List ℕ) (old out : List Destination) → true ≡ eqb (length rest) 0 → Read identified family octets rest old out
    → out ≡ old ++ listed (destinations_of identified family octets)
all_read identified family octets rest old out e r =
    let some : destinations_of identified family octets ≡ Some (r.front ++ []) = r.left ∙ ap (option_map (λ destinations. r.front ++ destinations)) (destinations_end identified family rest e) in
    let list : listed (destinations_of identified family octets) ≡ r.front = ap listed some ∙ append-nil r.front in
    r.pushed ∙ ap (λ (t : List Destination). old ++ t) (sym list)

pub stopped : (identified : Bool) (family : Family) (octets rest : List ℕ) (old out new : List Destination) (len : ℕ) → has_destination identified family rest ≡ false
    → false ≡ eqb (length rest) 0 → Read identified family octets rest old out → len ≡ length old → new ≡ take len out
    → new ≡ old ++ listed (destinations_of identified family octets)
stopped identified family octets rest old out new len none some r same cut =
    let no : destinations_of identified family octets ≡ None = r.left ∙ ap (option_map (λ destinations. r.front ++ destinations)) (destinations_stop identified family rest some none) in
    let list : listed (destinations_of identified family octets) ≡ [] = ap listed no in
    cut ∙ ap (take len) r.pushed ∙ take_at old r.front len (sym same) ∙ sym (append-nil old) ∙ ap (λ (t : List Destination). old ++ t) (sym list)

-- a field of no destinations is empty
pub no_destinations : (identified : Bool) (family : Family) (octets : List ℕ) (b : Bool) → b ≡ eqb (length octets) 0 → IsTrue b ↔ (destinations_of identified family octets ≡ Some [])
no_destinations identified family octets b e = (
  λ is. destinations_end identified family octets (sym is ∙ e),
  λ none. let nothing : octets ≡ [] = (reads_destinations identified family octets []).1 none in e ∙ rw nothing refl,
)

-- ---- a field gone through one destination at a time

pub record Yields (identified : Bool) (family : Family) (octets after : List ℕ) (p : Destination) : Type 0 where
  pub whole : is_some (destinations_of identified family after) ≡ true
  pub first : listed (destinations_of identified family octets) ≡ p ∷ listed (destinations_of identified family after)

pub yields : (identified : Bool) (family : Family) (octets after : List ℕ) (p : Destination) (n : ℕ) → BeginsWithDestination identified family octets p n
    → after ≡ drop n octets → is_some (destinations_of identified family octets) ≡ true → Yields identified family octets after p
yields identified family octets after p n b gone whole =
    let all = listed (destinations_of identified family octets) in
    let on : Goes identified family after (p ∷ []) all = goes identified family octets after p n [] (p ∷ []) all b gone refl (record { whole = whole; so_far = refl }) in
    record { whole = on.whole; first = sym on.so_far }

pub yields_none : (identified : Bool) (family : Family) (octets : List ℕ) → has_destination identified family octets ≡ false
    → is_some (destinations_of identified family octets) ≡ true → listed (destinations_of identified family octets) ≡ []
yields_none identified family octets none whole = sym (all_pushed identified family octets [] _ none (record { whole = whole; so_far = refl }))

-- a field is a list of destinations, or it isn't
pub each_list : (identified : Bool) (family : Family) (octets : List ℕ)
    → ((destinations : List Destination) × AreDestinations identified family octets destinations) ⊎ ((destinations : List Destination) → ¬ AreDestinations identified family octets destinations)
each_list identified family octets = go (destinations_of identified family octets) refl
  where
    go : (found : Option (List Destination)) → destinations_of identified family octets ≡ found
        → ((destinations : List Destination) × AreDestinations identified family octets destinations) ⊎ ((destinations : List Destination) → ¬ AreDestinations identified family octets destinations)
    go None e = inr (λ destinations is. absurd (let some = sym e ∙ (reads_destinations identified family octets destinations).0 is in cc))
    go (Some destinations) e = inl (destinations, (reads_destinations identified family octets destinations).1 e)

-- a field whose destinations can be counted is a list of them, and another isn't
pub is_list : (identified : Bool) (family : Family) (octets : List ℕ) (found : Option (List Destination)) (count : Option ℕ) (n : ℕ) → found ≡ destinations_of identified family octets
    → count ≡ option_map length found → count ≡ Some n → AreDestinations identified family octets (listed found)
is_list identified family octets None count n is counts some = absurd (let e = sym counts ∙ some in cc)
is_list identified family octets (Some destinations) count n is counts some = (reads_destinations identified family octets destinations).1 (sym is)

pub is_none : (identified : Bool) (family : Family) (octets : List ℕ) (found : Option (List Destination)) (count : Option ℕ) → found ≡ destinations_of identified family octets
    → count ≡ option_map length found → count ≡ None → (destinations : List Destination) → ¬ AreDestinations identified family octets destinations
is_none identified family octets found count is counts none destinations are =
    absurd (let some = is ∙ (reads_destinations identified family octets destinations).0 are in let e = rw some at (sym counts ∙ none) in cc)
