-- Faults of an OPEN, for each of which no configuration has it as its own, read back from their text.
use Rattle.std.proofs.Common.{◌≡◌, ◌∙◌, ◌<◌, ◌^◌, ◌+◌, ◌*◌, ◌==◌, ◌++◌, ℕ, Bool, true, false, List, [], ◌∷◌, Option, None, Some, IfSome, codes, if◌then◌else◌, inl, inr, refl, sym, ap, ap₂, arith, lit<, get_or, is_some, unwrap_or, append_assoc}
use Rattle.std.specs.Fmt.{decimal}
use Rattle.std.proofs.lemmas.Bool.{cases_Bool, eqb-true, false≢true}
use Rattle.std.proofs.lemmas.Fmt.{decimal_injective}
use mathlib.Core.List.{append_cancel_left}
use Rattle.bgp_wire.specs.AsNumber.{two_octet_as}
use Rattle.bgp_names.proofs.Distinct.{decimal_lacks, one_front, stops}
use Rattle.bgp_why_parts.specs.declared.own_faults.OwnFaults.{OwnFaults}
use Rattle.bgp_why_parts.specs.OwnFaults.{as_piece, as_text, hold_piece, id_piece}
use Rattle.bgp_why_parts.specs.Pieces.{separated}
use Rattle.bgp_part_texts.specs.OwnFaults.{IsOdd, OwnFaultsDiffer}
use Rattle.bgp_part_texts.proofs.Fields.{octet_at}
use Rattle.bgp_part_texts.proofs.Pieces.{AllSplit, AreTagged, IsTagged, Split, one_pieces}

abbrev and : List ℕ
and = codes " and "

-- ---- the AS numbers, as up to two pieces

-- what stands for the AS number is in My Autonomous System
abbrev fits : ℕ × ℕ → Bool
fits told = told.0 == two_octet_as told.1

abbrev my_text : ℕ × ℕ → List ℕ
my_text told = codes "My AS " ++ decimal told.0

abbrev zero_text : ℕ × ℕ → List ℕ
zero_text told = codes "AS " ++ decimal told.0

abbrev four_text : ℕ × ℕ → List ℕ
four_text told = codes "four-octet AS " ++ decimal told.1

abbrev my_piece : Option (ℕ × ℕ) → Option (List ℕ)
my_piece None = None
my_piece (Some told) = if fits told then None else Some (my_text told)

abbrev zero_piece : Option (ℕ × ℕ) → Option (List ℕ)
zero_piece None = None
zero_piece (Some told) = if fits told then Some (zero_text told) else None

abbrev four_piece : Option (ℕ × ℕ) → Option (List ℕ)
four_piece None = None
four_piece (Some told) = if fits told then None else Some (four_text told)

abbrev pieces_of : Option (ℕ × ℕ) → Bool → Option ℕ → List (Option (List ℕ))
pieces_of as_numbers id hold = my_piece as_numbers ∷ zero_piece as_numbers ∷ four_piece as_numbers ∷ id_piece id ∷ hold_piece hold ∷ []

module _ (before : List ℕ) (id : Bool) (hold : Option ℕ) where
  odd_pieces : (told : ℕ × ℕ) → before ++ ((codes "My AS " ++ (decimal told.0 ++ (codes " and four-octet AS " ++ decimal told.1))) ++ separated and and (id_piece id ∷ hold_piece hold ∷ []))
      ≡ before ++ (my_text told ++ (and ++ (four_text told ++ separated and and (id_piece id ∷ hold_piece hold ∷ []))))
  odd_pieces told =
      let r = separated and and (id_piece id ∷ hold_piece hold ∷ []) in
      ap (λ (t : List ℕ). before ++ (codes "My AS " ++ t))
      (append_assoc (decimal told.0) (codes " and four-octet AS " ++ decimal told.1) r
      ∙ ap (λ (t : List ℕ). decimal told.0 ++ t) (append_assoc (codes " and four-octet AS ") (decimal told.1) r))
      ∙ ap (λ (t : List ℕ). before ++ t) (sym (append_assoc (codes "My AS ") (decimal told.0) (and ++ (four_text told ++ r))))

  same_pieces : (as_numbers : Option (ℕ × ℕ)) → separated and before (as_piece as_numbers ∷ id_piece id ∷ hold_piece hold ∷ []) ≡ separated and before (pieces_of as_numbers id hold)
  unfolding as_text
  same_pieces None = refl
  same_pieces (Some told) = elim (cases_Bool (fits told)) [
    | inl is ↦ rw is refl
    | inr isnt ↦ rw isnt (odd_pieces told)
  ]

-- ---- pieces

abbrev tag : List ℕ → ℕ
tag text = octet_at 0 text * 256 + octet_at 1 text

abbrev tags : List ℕ
tags = 19833 ∷ 16723 ∷ 26223 ∷ 16967 ∷ 18543 ∷ []

abbrev more : List ℕ
more = codes "and "

abbrev Tagged : ℕ → Option (List ℕ) → Type 0
Tagged = IsTagged 32 more tag refl

abbrev Splits : Option (List ℕ) → Option (List ℕ) → Type 0
Splits = Split 32 more tag refl

if_tagged : (n : ℕ) (b : Bool) (p q : Option (List ℕ)) → Tagged n p → Tagged n q → Tagged n (if b then p else q)
if_tagged n true p q tp tq = tp
if_tagged n false p q tp tq = tq

my_tagged : (a : Option (ℕ × ℕ)) → Tagged 19833 (my_piece a)
my_tagged None = tt
my_tagged (Some told) = if_tagged 19833 (fits told) None (Some (my_text told)) tt (λ x. refl)

zero_tagged : (a : Option (ℕ × ℕ)) → Tagged 16723 (zero_piece a)
zero_tagged None = tt
zero_tagged (Some told) = if_tagged 16723 (fits told) (Some (zero_text told)) None (λ x. refl) tt

four_tagged : (a : Option (ℕ × ℕ)) → Tagged 26223 (four_piece a)
four_tagged None = tt
four_tagged (Some told) = if_tagged 26223 (fits told) None (Some (four_text told)) tt (λ x. refl)

id_tagged : (id : Bool) → Tagged 16967 (id_piece id)
id_tagged false = tt
id_tagged true = λ x. refl

hold_tagged : (hold : Option ℕ) → Tagged 18543 (hold_piece hold)
hold_tagged None = tt
hold_tagged (Some n) = λ x. refl

are_tagged : (a : Option (ℕ × ℕ)) (id : Bool) (hold : Option ℕ) → AreTagged 32 more tag refl tags (pieces_of a id hold)
are_tagged a id hold = (my_tagged a, (zero_tagged a, (four_tagged a, (id_tagged id, (hold_tagged hold, tt)))))

-- a word with a number behind it
number_splits : (word : List ℕ) (m n : ℕ) (x y : List ℕ) → m < 2 ^ 64 → n < 2 ^ 64 → stops 32 x ≡ true → stops 32 y ≡ true
    → (word ++ decimal m) ++ x ≡ (word ++ decimal n) ++ y → (word ++ decimal m ≡ word ++ decimal n) × (x ≡ y)
number_splits word m n x y sm sn sx sy e =
    let split = one_front 32 (decimal m) (decimal n) x y (decimal_lacks 32 m (lit< tt) sm) (decimal_lacks 32 n (lit< tt) sn) sx sy
    (append_cancel_left word (decimal m ++ x) (decimal n ++ y) (sym (append_assoc word (decimal m) x) ∙ e ∙ append_assoc word (decimal n) y)) in
    (ap (λ (t : List ℕ). word ++ t) split.0, split.1)

if_split : (b c : Bool) (p q r s : Option (List ℕ)) → Splits p r → Splits p s → Splits q r → Splits q s → Splits (if b then p else q) (if c then r else s)
if_split true true p q r s pr ps qr qs = pr
if_split true false p q r s pr ps qr qs = ps
if_split false true p q r s pr ps qr qs = qr
if_split false false p q r s pr ps qr qs = qs

abbrev AreSmall : ℕ × ℕ → Type 0
AreSmall told = (told.0 < 2 ^ 16) × (told.1 < 2 ^ 32)

wide : (n : ℕ) → n < 2 ^ 32 → n < 2 ^ 64
wide n small = omega (arith, small)

short : (n : ℕ) → n < 2 ^ 16 → n < 2 ^ 64
short n small = omega (arith, small)

my_split : (a b : Option (ℕ × ℕ)) → IfSome a AreSmall → IfSome b AreSmall → Splits (my_piece a) (my_piece b)
my_split None None fa fb = tt
my_split None (Some u) fa fb = if_split true (fits u) None None None (Some (my_text u)) tt tt tt tt
my_split (Some t) None fa fb = if_split (fits t) true None (Some (my_text t)) None None tt tt tt tt
my_split (Some t) (Some u) fa fb =
    if_split (fits t) (fits u) None (Some (my_text t)) None (Some (my_text u)) tt tt tt
    (λ x y sx sy e. number_splits (codes "My AS ") t.0 u.0 x y (short t.0 fa.0) (short u.0 fb.0) sx sy e)

zero_split : (a b : Option (ℕ × ℕ)) → IfSome a AreSmall → IfSome b AreSmall → Splits (zero_piece a) (zero_piece b)
zero_split None None fa fb = tt
zero_split None (Some u) fa fb = if_split true (fits u) None None (Some (zero_text u)) None tt tt tt tt
zero_split (Some t) None fa fb = if_split (fits t) true (Some (zero_text t)) None None None tt tt tt tt
zero_split (Some t) (Some u) fa fb =
    if_split (fits t) (fits u) (Some (zero_text t)) None (Some (zero_text u)) None
    (λ x y sx sy e. number_splits (codes "AS ") t.0 u.0 x y (short t.0 fa.0) (short u.0 fb.0) sx sy e) tt tt tt

four_split : (a b : Option (ℕ × ℕ)) → IfSome a AreSmall → IfSome b AreSmall → Splits (four_piece a) (four_piece b)
four_split None None fa fb = tt
four_split None (Some u) fa fb = if_split true (fits u) None None None (Some (four_text u)) tt tt tt tt
four_split (Some t) None fa fb = if_split (fits t) true None (Some (four_text t)) None None tt tt tt tt
four_split (Some t) (Some u) fa fb =
    if_split (fits t) (fits u) None (Some (four_text t)) None (Some (four_text u)) tt tt tt
    (λ x y sx sy e. number_splits (codes "four-octet AS ") t.1 u.1 x y (wide t.1 fa.1) (wide u.1 fb.1) sx sy e)

id_split : (a b : Bool) → Splits (id_piece a) (id_piece b)
id_split false false = tt
id_split false true = tt
id_split true false = tt
id_split true true = λ x y sx sy e. (refl, append_cancel_left (codes "BGP Identifier 0.0.0.0") x y e)

abbrev IsHold : ℕ → Type 0
IsHold hold = hold < 2 ^ 16

hold_split : (a b : Option ℕ) → IfSome a IsHold → IfSome b IsHold → Splits (hold_piece a) (hold_piece b)
hold_split None None fa fb = tt
hold_split None (Some n) fa fb = tt
hold_split (Some m) None fa fb = tt
hold_split (Some m) (Some n) fa fb = λ x y sx sy e. number_splits (codes "Hold Time ") m n x y (short m fa) (short n fb) sx sy e

-- ---- values

some_text : (x y : List ℕ) → Some x ≡ Some y → x ≡ y
some_text x y e = ap (λ (o : Option (List ℕ)). unwrap_or o []) e

some_none : (x : List ℕ) → Some x ≡ None → ⊥
some_none x e = false≢true (sym (ap is_some e))

abbrev IsTold : ℕ × ℕ → Type 0
IsTold told = IsOdd told × AreSmall told

-- an AS number that fits is told only if it is 0
is_zero : (t : ℕ × ℕ) → IsOdd t → fits t ≡ true → t.1 ≡ 0
is_zero t (inl zero) is = zero
is_zero t (inr odd) is = absurd (odd (eqb-true t.0 (two_octet_as t.1) is))

one_pair : (t u : ℕ × ℕ) → t.0 ≡ u.0 → t.1 ≡ u.1 → t ≡ u
one_pair t u first second = ap₂ (λ (a b : ℕ). (a, b)) first second

one_told : (t u : ℕ × ℕ) → IsTold t → IsTold u → my_piece (Some t) ≡ my_piece (Some u) → zero_piece (Some t) ≡ zero_piece (Some u)
    → four_piece (Some t) ≡ four_piece (Some u) → t ≡ u
one_told t u ft fu my zero four = elim (cases_Bool (fits t)) [
  | inl is ↦ elim (cases_Bool (fits u)) [
    | inl is' ↦
        let texts : zero_text t ≡ zero_text u = some_text (zero_text t) (zero_text u) (rw (is, is') at zero) in
        one_pair t u (decimal_injective t.0 u.0 (short t.0 ft.1.0) (short u.0 fu.1.0) (append_cancel_left (codes "AS ") (decimal t.0) (decimal u.0) texts))
        (is_zero t ft.0 is ∙ sym (is_zero u fu.0 is'))
    | inr isnt' ↦ absurd (some_none (zero_text t) (rw (is, isnt') at zero))
  ]
  | inr isnt ↦ elim (cases_Bool (fits u)) [
    | inl is' ↦ absurd (some_none (zero_text u) (sym (rw (isnt, is') at zero)))
    | inr isnt' ↦
        let mine : my_text t ≡ my_text u = some_text (my_text t) (my_text u) (rw (isnt, isnt') at my) in
        let others : four_text t ≡ four_text u = some_text (four_text t) (four_text u) (rw (isnt, isnt') at four) in
        one_pair t u (decimal_injective t.0 u.0 (short t.0 ft.1.0) (short u.0 fu.1.0) (append_cancel_left (codes "My AS ") (decimal t.0) (decimal u.0) mine))
        (decimal_injective t.1 u.1 (wide t.1 ft.1.1) (wide u.1 fu.1.1) (append_cancel_left (codes "four-octet AS ") (decimal t.1) (decimal u.1) others))
  ]
]

-- some AS numbers have a piece
not_nothing : (u : ℕ × ℕ) → None ≡ my_piece (Some u) → None ≡ zero_piece (Some u) → ⊥
not_nothing u my zero = elim (cases_Bool (fits u)) [
  | inl is ↦ some_none (zero_text u) (sym (rw is at zero))
  | inr isnt ↦ some_none (my_text u) (sym (rw isnt at my))
]

one_as_numbers : (a b : Option (ℕ × ℕ)) → IfSome a IsTold → IfSome b IsTold → my_piece a ≡ my_piece b → zero_piece a ≡ zero_piece b
    → four_piece a ≡ four_piece b → a ≡ b
one_as_numbers None None fa fb my zero four = refl
one_as_numbers None (Some u) fa fb my zero four = absurd (not_nothing u my zero)
one_as_numbers (Some t) None fa fb my zero four = absurd (not_nothing t (sym my) (sym zero))
one_as_numbers (Some t) (Some u) fa fb my zero four = ap Some (one_told t u fa fb my zero four)

one_id : (a b : Bool) → id_piece a ≡ id_piece b → a ≡ b
one_id false false e = refl
one_id false true e = absurd (some_none _ (sym e))
one_id true false e = absurd (some_none _ e)
one_id true true e = refl

one_hold : (a b : Option ℕ) → IfSome a IsHold → IfSome b IsHold → hold_piece a ≡ hold_piece b → a ≡ b
one_hold None None fa fb e = refl
one_hold None (Some n) fa fb e = absurd (some_none _ (sym e))
one_hold (Some m) None fa fb e = absurd (some_none _ e)
one_hold (Some m) (Some n) fa fb e =
    ap Some (decimal_injective m n (short m fa) (short n fb) (append_cancel_left (codes "Hold Time ") (decimal m) (decimal n) (some_text _ _ e)))

-- ---- all of them

abbrev piece_at : ℕ → List (Option (List ℕ)) → Option (List ℕ)
piece_at i pieces = get_or pieces i None

both_told : (a : Option (ℕ × ℕ)) → IfSome a IsOdd → IfSome a AreSmall → IfSome a IsTold
both_told None odd small = tt
both_told (Some t) odd small = (odd, small)

one_record : (f g : OwnFaults) → f.as_numbers ≡ g.as_numbers → f.id ≡ g.id → f.hold ≡ g.hold → f ≡ g
one_record f g as_numbers id hold =
    ap (λ x. record f { as_numbers = x }) as_numbers ∙ ap (λ x. record g { id = x; hold = f.hold }) id ∙ ap (λ x. record g { hold = x }) hold

pub one_faults : OwnFaultsDiffer
one_faults before f g ff fg e =
    let ps = pieces_of f.as_numbers f.id f.hold in
    let qs = pieces_of g.as_numbers g.id g.hold in
    let splits : AllSplit 32 more tag refl ps qs = (
      my_split f.as_numbers g.as_numbers ff.as_numbers fg.as_numbers,
      (
        zero_split f.as_numbers g.as_numbers ff.as_numbers fg.as_numbers,
        (four_split f.as_numbers g.as_numbers ff.as_numbers fg.as_numbers, (id_split f.id g.id, (hold_split f.hold g.hold ff.hold fg.hold, tt))),
      ),
    ) in
    let same : ps ≡ qs = one_pieces 32 more tag refl before tags ps qs refl (are_tagged f.as_numbers f.id f.hold) (are_tagged g.as_numbers g.id g.hold) splits
    (sym (same_pieces before f.id f.hold f.as_numbers) ∙ e ∙ same_pieces before g.id g.hold g.as_numbers) in
    one_record f g
    (one_as_numbers f.as_numbers g.as_numbers (both_told f.as_numbers ff.odd ff.as_numbers) (both_told g.as_numbers fg.odd fg.as_numbers)
    (ap (piece_at 0) same) (ap (piece_at 1) same) (ap (piece_at 2) same))
    (one_id f.id g.id (ap (piece_at 3) same))
    (one_hold f.hold g.hold ff.hold fg.hold (ap (piece_at 4) same))
