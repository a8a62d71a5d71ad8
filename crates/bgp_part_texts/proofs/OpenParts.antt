-- Parts of an OPEN, read back from their text.
use Rattle.std.proofs.Common.{◌≡◌, ◌≢◌, ◌∙◌, ◌<◌, ◌^◌, ◌+◌, ◌*◌, ◌%◌, ◌==◌, ◌&&◌, ◌++◌, ℕ, Bool, true, false, nat_lt, List, [], ◌∷◌, Option, None, Some, IfSome, codes, if◌then◌else◌, refl, sym, ap, ap₂, arith, lit<, get_or, is_some, unwrap_or, append_assoc}
use Rattle.std.specs.Fmt.{decimal, digits}
use Rattle.std.proofs.lemmas.Bool.{and_from, and_parts, false≢true, lt-ltb}
use Rattle.std.proofs.lemmas.Fmt.{decimal_by_steps, decimal_injective}
use mathlib.Core.List.{append_cancel_left, append_cancel_right}
use Rattle.bgp_prefix.specs.Text.{address_text}
use Rattle.bgp_prefix.specs.declared.address.Address.TheVariants.{V4}
use Rattle.bgp_open.specs.declared.fault.OpenFault.{OpenFault}
use Rattle.bgp_open.specs.declared.fault.OpenFault.TheVariants as faults
use Rattle.bgp_open.specs.declared.families.Families.{Families}
use Rattle.bgp_open.specs.declared.route_offer.RouteOffer.{RouteOffer}
use Rattle.bgp_names.specs.Families.{families_by, families_name}
use Rattle.bgp_names.proofs.Distinct.{decimal_lacks, lacks, lacks_both, one_front}
use Rattle.bgp_parts.specs.declared.own_open.Differing.{Differing}
use Rattle.bgp_parts.specs.declared.own_open.OpenDifferences.{OpenDifferences}
use Rattle.bgp_parts.specs.declared.own_open.OwnOpenParts as declared
use Rattle.bgp_parts.specs.declared.own_open.OwnOpenParts.TheVariants as parts
use Rattle.bgp_why_parts.specs.Codes.{code_text}
use Rattle.bgp_why_parts.specs.Offers.{offer_text}
use Rattle.bgp_why_parts.specs.Opens.{as_number_piece, as_number_text, differences_text, differing, extended_piece, extended_text, families_piece, id_piece, number_piece, offers_piece, open_fault_text, open_parts_text}
use Rattle.bgp_part_texts.specs.Opens.{AreBelow, AreFields, HasFields, IsAsNumber, OpenPartsDiffer}
use Rattle.bgp_part_texts.proofs.Clear.{both_ascii, both_clear, clear_ascii, clear_lacks, decimal_clear, is_ascii, is_clear}
use Rattle.bgp_part_texts.proofs.Fields.{differ, id_clear, id_lacks, octet_at, one_id}
use Rattle.bgp_part_texts.proofs.OfferWords.{offer_clear, offer_lacks, one_offer}
use Rattle.bgp_part_texts.proofs.Pieces.{AllPieces, AllSplit, AreTagged, IsTagged, Split, all_hold, not_later, one_pieces, split_by_lacks}

-- ---- single values

-- two families have two names
abbrev pub FamiliesDiffer : Type 0
FamiliesDiffer = (one other : Families) → families_name one ≡ families_name other → one ≡ other

by_lacks : (a b : Bool) → lacks 44 (families_by a b) ≡ true
by_lacks false false = refl
by_lacks true false = refl
by_lacks false true = refl
by_lacks true true = refl

by_clear : (a b : Bool) → is_clear (families_by a b) ≡ true
by_clear false false = refl
by_clear true false = refl
by_clear false true = refl
by_clear true true = refl

abbrev below_58 : List ℕ → Bool
below_58 [] = true
below_58 (c ∷ text) = nat_lt c 58 && below_58 text

both_below : (xs ys : List ℕ) → below_58 xs ≡ true → below_58 ys ≡ true → below_58 (xs ++ ys) ≡ true
both_below [] ys first second = second
both_below (c ∷ xs) ys first second =
    let own = and_parts (nat_lt c 58) (below_58 xs) first in
    and_from (nat_lt c 58) (below_58 (xs ++ ys)) own.0 (both_below xs ys own.1 second)

digit_below : (n : ℕ) → n < 10 → below_58 ((48 + n) ∷ []) ≡ true
digit_below n small = and_from (nat_lt (48 + n) 58) true (lt-ltb (48 + n) 58 (omega (arith, small))) refl

decimal_below : (n : ℕ) → n < 2 ^ 64 → below_58 (decimal n) ≡ true
decimal_below n small =
    decimal_by_steps (λ (m : ℕ) (ds : List ℕ). below_58 ds ≡ true)
    (λ m below. digit_below m below)
    (λ m ds above so_far. both_below ds ((48 + m % 10) ∷ []) so_far (digit_below (m % 10) (omega arith)))
    n small

not_none : (n : ℕ) → n < 2 ^ 64 → codes "none" ≡ decimal n → ⊥
not_none n small e = false≢true (ap below_58 e ∙ decimal_below n small)

one_as_number : (a b : Option ℕ) → IsAsNumber a → IsAsNumber b → as_number_text a ≡ as_number_text b → a ≡ b
one_as_number None None fa fb e = refl
one_as_number None (Some n) fa fb e = absurd (not_none n (omega (arith, fb)) e)
one_as_number (Some m) None fa fb e = absurd (not_none m (omega (arith, fa)) (sym e))
one_as_number (Some m) (Some n) fa fb e = ap Some (decimal_injective m n (omega (arith, fa)) (omega (arith, fb)) e)

as_number_lacks : (a : Option ℕ) → IsAsNumber a → lacks 44 (as_number_text a) ≡ true
as_number_lacks None fits = refl
as_number_lacks (Some n) fits = decimal_lacks 44 n (lit< tt) (omega (arith, fits))

as_number_clear : (a : Option ℕ) → IsAsNumber a → is_clear (as_number_text a) ≡ true
as_number_clear None fits = refl
as_number_clear (Some n) fits = decimal_clear n (omega (arith, fits))

one_extended : (a b : Bool) → extended_text a ≡ extended_text b → a ≡ b
one_extended false false e = refl
one_extended false true e = absurd (differ 110 111 refl (ap (octet_at 17) e))
one_extended true false e = absurd (differ 111 110 refl (ap (octet_at 17) e))
one_extended true true e = refl

extended_clear : (a : Bool) → is_clear (extended_text a) ≡ true
extended_clear false = refl
extended_clear true = refl

-- ---- what differs

one_differing : (word s c s' c' : List ℕ) → lacks 44 s ≡ true → lacks 44 s' ≡ true → differing word s c ≡ differing word s' c' → (s ≡ s') × (c ≡ c')
one_differing word s c s' c' ls ls' e =
    let split = one_front 44 s s' (codes ", configured " ++ c) (codes ", configured " ++ c') ls ls' refl refl
    (append_cancel_left word (s ++ (codes ", configured " ++ c)) (s' ++ (codes ", configured " ++ c')) e) in
    (split.0, append_cancel_left (codes ", configured ") c c' split.1)

differing_clear : (word s c : List ℕ) → is_clear word ≡ true → is_clear s ≡ true → is_clear c ≡ true → is_clear (differing word s c) ≡ true
differing_clear word s c cw cs cc' =
    both_clear word (s ++ (codes ", configured " ++ c)) cw
    (both_clear s (codes ", configured " ++ c) cs (both_clear (codes ", configured ") c refl cc'))

some_text : (x y : List ℕ) → Some x ≡ Some y → x ≡ y
some_text x y e = ap (λ (o : Option (List ℕ)). unwrap_or o []) e

some_none : (x : List ℕ) → Some x ≡ None → ⊥
some_none x e = false≢true (sym (ap is_some e))

one_both : {X : Type 0} (a b : Differing X) → a.sent ≡ b.sent → a.configured ≡ b.configured → a ≡ b
one_both a b sent configured = ap₂ (λ s c. record { sent = s; configured = c }) sent configured

module _ (word : List ℕ) (limit : ℕ) (small : limit < 2 ^ 40) where
  one_number : (a b : Option (Differing ℕ)) → IfSome a (AreBelow limit) → IfSome b (AreBelow limit) → number_piece word a ≡ number_piece word b → a ≡ b
  one_number None None fa fb e = refl
  one_number None (Some b) fa fb e = absurd (some_none _ (sym e))
  one_number (Some a) None fa fb e = absurd (some_none _ e)
  one_number (Some a) (Some b) fa fb e =
      let a0 = fa.0 in
      let a1 = fa.1 in
      let b0 = fb.0 in
      let b1 = fb.1 in
      let both = one_differing word (decimal a.sent) (decimal a.configured) (decimal b.sent) (decimal b.configured)
      (decimal_lacks 44 a.sent (lit< tt) (omega (arith, a0, small))) (decimal_lacks 44 b.sent (lit< tt) (omega (arith, b0, small))) (some_text _ _ e) in
      ap Some (one_both a b
      (decimal_injective a.sent b.sent (omega (arith, a0, small)) (omega (arith, b0, small)) both.0)
      (decimal_injective a.configured b.configured (omega (arith, a1, small)) (omega (arith, b1, small)) both.1))

one_id_piece : (a b : Option (Differing ℕ)) → IfSome a (AreBelow (2 ^ 32)) → IfSome b (AreBelow (2 ^ 32)) → id_piece a ≡ id_piece b → a ≡ b
one_id_piece None None fa fb e = refl
one_id_piece None (Some b) fa fb e = absurd (some_none _ (sym e))
one_id_piece (Some a) None fa fb e = absurd (some_none _ e)
one_id_piece (Some a) (Some b) fa fb e =
    let both = one_differing (codes "BGP Identifier ") (address_text (V4 a.sent)) (address_text (V4 a.configured)) (address_text (V4 b.sent)) (address_text (V4 b.configured))
    (id_lacks a.sent) (id_lacks b.sent) (some_text _ _ e) in
    ap Some (one_both a b (one_id a.sent b.sent fa.0 fb.0 both.0) (one_id a.configured b.configured fa.1 fb.1 both.1))

one_families_piece : FamiliesDiffer → (a b : Option (Differing Families)) → families_piece a ≡ families_piece b → a ≡ b
one_families_piece one None None e = refl
one_families_piece one None (Some b) e = absurd (some_none _ (sym e))
one_families_piece one (Some a) None e = absurd (some_none _ e)
one_families_piece one (Some a) (Some b) e =
    let both = one_differing (codes "families ") (families_name a.sent) (families_name a.configured) (families_name b.sent) (families_name b.configured)
    (by_lacks a.sent.v4 a.sent.v6) (by_lacks b.sent.v4 b.sent.v6) (some_text _ _ e) in
    ap Some (one_both a b (one a.sent b.sent both.0) (one a.configured b.configured both.1))

abbrev BothAsNumbers : Differing (Option ℕ) → Type 0
BothAsNumbers d = IsAsNumber d.sent × IsAsNumber d.configured

one_as_piece : (a b : Option (Differing (Option ℕ))) → IfSome a BothAsNumbers → IfSome b BothAsNumbers → as_number_piece a ≡ as_number_piece b → a ≡ b
one_as_piece None None fa fb e = refl
one_as_piece None (Some b) fa fb e = absurd (some_none _ (sym e))
one_as_piece (Some a) None fa fb e = absurd (some_none _ e)
one_as_piece (Some a) (Some b) fa fb e =
    let both = one_differing (codes "four-octet AS ") (as_number_text a.sent) (as_number_text a.configured) (as_number_text b.sent) (as_number_text b.configured)
    (as_number_lacks a.sent fa.0) (as_number_lacks b.sent fb.0) (some_text _ _ e) in
    ap Some (one_both a b (one_as_number a.sent b.sent fa.0 fb.0 both.0) (one_as_number a.configured b.configured fa.1 fb.1 both.1))

-- of two values that aren't one, one tells the other
other_value : (s c d : Bool) → s ≢ c → s ≢ d → c ≡ d
other_value false false d isnt isnt' = absurd (isnt refl)
other_value false true false isnt isnt' = absurd (isnt' refl)
other_value false true true isnt isnt' = refl
other_value true true d isnt isnt' = absurd (isnt refl)
other_value true false false isnt isnt' = refl
other_value true false true isnt isnt' = absurd (isnt' refl)

abbrev IsDiffering : Differing Bool → Type 0
IsDiffering d = d.sent ≢ d.configured

one_extended_piece : (a b : Option (Differing Bool)) → IfSome a IsDiffering → IfSome b IsDiffering → extended_piece a ≡ extended_piece b → a ≡ b
one_extended_piece None None fa fb e = refl
one_extended_piece None (Some b) fa fb e = absurd (some_none _ (sym e))
one_extended_piece (Some a) None fa fb e = absurd (some_none _ e)
one_extended_piece (Some a) (Some b) fa fb e =
    let sent = one_extended a.sent b.sent (some_text _ _ e) in
    ap Some (one_both a b sent (other_value a.sent a.configured b.configured fa (λ same. fb (sym sent ∙ same))))

one_offers_piece : (a b : Option (Differing RouteOffer)) → offers_piece a ≡ offers_piece b → a ≡ b
one_offers_piece None None e = refl
one_offers_piece None (Some b) e = absurd (some_none _ (sym e))
one_offers_piece (Some a) None e = absurd (some_none _ e)
one_offers_piece (Some a) (Some b) e =
    let rest : Differing RouteOffer → List ℕ = λ d. codes " configured " ++ offer_text d.configured in
    let front : Differing RouteOffer → List ℕ = λ d. offer_text d.sent ++ codes "," in
    let texts : front a ++ rest a ≡ front b ++ rest b =
    append_assoc (offer_text a.sent) (codes ",") (rest a)
    ∙ append_cancel_left (codes "offers ") (offer_text a.sent ++ (codes ", configured " ++ offer_text a.configured)) (offer_text b.sent ++ (codes ", configured " ++ offer_text b.configured)) (some_text _ _ e)
    ∙ sym (append_assoc (offer_text b.sent) (codes ",") (rest b)) in
    let split = one_front 32 (front a) (front b) (rest a) (rest b) (lacks_both 32 (offer_text a.sent) (codes ",") (offer_lacks a.sent) refl)
    (lacks_both 32 (offer_text b.sent) (codes ",") (offer_lacks b.sent) refl) refl refl texts in
    ap Some (one_both a b
    (one_offer a.sent b.sent (append_cancel_right (offer_text a.sent) (offer_text b.sent) (codes ",") split.0))
    (one_offer a.configured b.configured (append_cancel_left (codes " configured ") (offer_text a.configured) (offer_text b.configured) split.1)))

-- ---- all that differs

abbrev tag : List ℕ → ℕ
tag text = octet_at 0 text * 256 + octet_at 1 text

abbrev tags : List ℕ
tags = 19833 ∷ 18543 ∷ 16967 ∷ 26209 ∷ 26223 ∷ 17784 ∷ 28518 ∷ []

abbrev pieces : OpenDifferences → List (Option (List ℕ))
pieces told =
    number_piece (codes "My AS ") told.my_as
    ∷ number_piece (codes "Hold Time ") told.hold
    ∷ id_piece told.id
    ∷ families_piece told.families
    ∷ as_number_piece told.as_number
    ∷ extended_piece told.extended
    ∷ offers_piece told.offers
    ∷ []

abbrev IsClearIf : Option (List ℕ) → Type 0
IsClearIf None = Unit {0}
IsClearIf (Some text) = is_clear text ≡ true

number_clear : (word : List ℕ) (limit : ℕ) (a : Option (Differing ℕ)) → limit < 2 ^ 40 → is_clear word ≡ true → IfSome a (AreBelow limit) → IsClearIf (number_piece word a)
number_clear word limit None small clear fits = tt
number_clear word limit (Some d) small clear fits =
    let sent = fits.0 in
    let configured = fits.1 in
    differing_clear word (decimal d.sent) (decimal d.configured) clear (decimal_clear d.sent (omega (arith, sent, small))) (decimal_clear d.configured (omega (arith, configured, small)))

id_piece_clear : (a : Option (Differing ℕ)) → IsClearIf (id_piece a)
id_piece_clear None = tt
id_piece_clear (Some d) = differing_clear (codes "BGP Identifier ") (address_text (V4 d.sent)) (address_text (V4 d.configured)) refl (id_clear d.sent) (id_clear d.configured)

families_clear : (a : Option (Differing Families)) → IsClearIf (families_piece a)
families_clear None = tt
families_clear (Some d) =
    differing_clear (codes "families ") (families_name d.sent) (families_name d.configured) refl (by_clear d.sent.v4 d.sent.v6) (by_clear d.configured.v4 d.configured.v6)

as_piece_clear : (a : Option (Differing (Option ℕ))) → IfSome a BothAsNumbers → IsClearIf (as_number_piece a)
as_piece_clear None fits = tt
as_piece_clear (Some d) fits =
    differing_clear (codes "four-octet AS ") (as_number_text d.sent) (as_number_text d.configured) refl (as_number_clear d.sent fits.0) (as_number_clear d.configured fits.1)

extended_piece_clear : (a : Option (Differing Bool)) → IsClearIf (extended_piece a)
extended_piece_clear None = tt
extended_piece_clear (Some d) = extended_clear d.sent

offers_clear : (a : Option (Differing RouteOffer)) → IsClearIf (offers_piece a)
offers_clear None = tt
offers_clear (Some d) = differing_clear (codes "offers ") (offer_text d.sent) (offer_text d.configured) refl (offer_clear d.sent) (offer_clear d.configured)

abbrev Tagged : ℕ → Option (List ℕ) → Type 0
Tagged = IsTagged 59 (codes " ") tag refl

-- a piece begins so, if it is there
abbrev Begins : ℕ → Option (List ℕ) → Type 0
Begins n None = Unit {0}
Begins n (Some text) = (x : List ℕ) → tag (text ++ x) ≡ n

tagged : (n : ℕ) (piece : Option (List ℕ)) → Begins n piece → Tagged n piece
tagged n None begins = tt
tagged n (Some text) begins = begins

split_by_clear : (p q : Option (List ℕ)) → IsClearIf p → IsClearIf q → Split 59 (codes " ") tag refl p q
split_by_clear None None cp cq = tt
split_by_clear None (Some q) cp cq = tt
split_by_clear (Some p) None cp cq = tt
split_by_clear (Some p) (Some q) cp cq = split_by_lacks 59 (codes " ") tag refl (Some p) (Some q) (clear_lacks p cp) (clear_lacks q cq)

my_as_begins : (a : Option (Differing ℕ)) → Begins 19833 (number_piece (codes "My AS ") a)
my_as_begins None = tt
my_as_begins (Some d) = λ x. refl

hold_begins : (a : Option (Differing ℕ)) → Begins 18543 (number_piece (codes "Hold Time ") a)
hold_begins None = tt
hold_begins (Some d) = λ x. refl

id_begins : (a : Option (Differing ℕ)) → Begins 16967 (id_piece a)
id_begins None = tt
id_begins (Some d) = λ x. refl

families_begin : (a : Option (Differing Families)) → Begins 26209 (families_piece a)
families_begin None = tt
families_begin (Some d) = λ x. refl

as_number_begins : (a : Option (Differing (Option ℕ))) → Begins 26223 (as_number_piece a)
as_number_begins None = tt
as_number_begins (Some d) = λ x. refl

extended_starts : (b : Bool) (x : List ℕ) → tag (extended_text b ++ x) ≡ 17784
extended_starts false x = refl
extended_starts true x = refl

extended_begins : (a : Option (Differing Bool)) → Begins 17784 (extended_piece a)
extended_begins None = tt
extended_begins (Some d) = extended_starts d.sent

offers_begin : (a : Option (Differing RouteOffer)) → Begins 28518 (offers_piece a)
offers_begin None = tt
offers_begin (Some d) = λ x. refl

are_tagged : (told : OpenDifferences) → AreTagged 59 (codes " ") tag refl tags (pieces told)
are_tagged told = (
  tagged 19833 (number_piece (codes "My AS ") told.my_as) (my_as_begins told.my_as),
  (
    tagged 18543 (number_piece (codes "Hold Time ") told.hold) (hold_begins told.hold),
    (
      tagged 16967 (id_piece told.id) (id_begins told.id),
      (
        tagged 26209 (families_piece told.families) (families_begin told.families),
        (
          tagged 26223 (as_number_piece told.as_number) (as_number_begins told.as_number),
          (
            tagged 17784 (extended_piece told.extended) (extended_begins told.extended),
            (tagged 28518 (offers_piece told.offers) (offers_begin told.offers), tt),
          ),
        ),
      ),
    ),
  ),
)

are_split : (a b : OpenDifferences) → AreFields a → AreFields b → AllSplit 59 (codes " ") tag refl (pieces a) (pieces b)
are_split a b fa fb = (
  split_by_clear (number_piece (codes "My AS ") a.my_as) (number_piece (codes "My AS ") b.my_as) (number_clear (codes "My AS ") (2 ^ 16) a.my_as (lit< tt) refl fa.my_as) (number_clear (codes "My AS ") (2 ^ 16) b.my_as (lit< tt) refl fb.my_as),
  (
    split_by_clear (number_piece (codes "Hold Time ") a.hold) (number_piece (codes "Hold Time ") b.hold) (number_clear (codes "Hold Time ") (2 ^ 16) a.hold (lit< tt) refl fa.hold) (number_clear (codes "Hold Time ") (2 ^ 16) b.hold (lit< tt) refl fb.hold),
    (
      split_by_clear (id_piece a.id) (id_piece b.id) (id_piece_clear a.id) (id_piece_clear b.id),
      (
        split_by_clear (families_piece a.families) (families_piece b.families) (families_clear a.families) (families_clear b.families),
        (
          split_by_clear (as_number_piece a.as_number) (as_number_piece b.as_number) (as_piece_clear a.as_number fa.as_number) (as_piece_clear b.as_number fb.as_number),
          (
            split_by_clear (extended_piece a.extended) (extended_piece b.extended) (extended_piece_clear a.extended) (extended_piece_clear b.extended),
            (split_by_clear (offers_piece a.offers) (offers_piece b.offers) (offers_clear a.offers) (offers_clear b.offers), tt),
          ),
        ),
      ),
    ),
  ),
)

abbrev piece_at : ℕ → List (Option (List ℕ)) → Option (List ℕ)
piece_at i pieces = get_or pieces i None

one_record : (a b : OpenDifferences) → a.my_as ≡ b.my_as → a.hold ≡ b.hold → a.id ≡ b.id → a.families ≡ b.families → a.as_number ≡ b.as_number
    → a.extended ≡ b.extended → a.offers ≡ b.offers → a ≡ b
one_record a b my_as hold id families as_number extended offers =
    ap (λ x. record a { my_as = x }) my_as
    ∙ ap (λ x. record a { my_as = b.my_as; hold = x }) hold
    ∙ ap (λ x. record a { my_as = b.my_as; hold = b.hold; id = x }) id
    ∙ ap (λ x. record a { my_as = b.my_as; hold = b.hold; id = b.id; families = x }) families
    ∙ ap (λ x. record b { as_number = x; extended = a.extended; offers = a.offers }) as_number
    ∙ ap (λ x. record b { extended = x; offers = a.offers }) extended
    ∙ ap (λ x. record b { offers = x }) offers

module _ (one_set : FamiliesDiffer) where
  one_differences : (a b : OpenDifferences) → AreFields a → AreFields b → differences_text a ≡ differences_text b → a ≡ b
  one_differences a b fa fb e =
      let same : pieces a ≡ pieces b = one_pieces 59 (codes " ") tag refl [] tags (pieces a) (pieces b) refl (are_tagged a) (are_tagged b) (are_split a b fa fb) e in
      one_record a b
      (one_number (codes "My AS ") (2 ^ 16) (lit< tt) a.my_as b.my_as fa.my_as fb.my_as (ap (piece_at 0) same))
      (one_number (codes "Hold Time ") (2 ^ 16) (lit< tt) a.hold b.hold fa.hold fb.hold (ap (piece_at 1) same))
      (one_id_piece a.id b.id fa.id fb.id (ap (piece_at 2) same))
      (one_families_piece one_set a.families b.families (ap (piece_at 3) same))
      (one_as_piece a.as_number b.as_number fa.as_number fb.as_number (ap (piece_at 4) same))
      (one_extended_piece a.extended b.extended fa.extended fb.extended (ap (piece_at 5) same))
      (one_offers_piece a.offers b.offers (ap (piece_at 6) same))

  -- ---- or the fault of its form

  abbrev fault_in : List ℕ → OpenFault
  fault_in text = if octet_at 0 text == 97 then faults.Malformed else if octet_at 2 text == 49 then faults.Version else faults.Parameter

  fault_back : (fault : OpenFault) → fault_in (open_fault_text fault) ≡ fault
  unfolding code_text digits
  fault_back faults.Version = refl
  fault_back faults.Malformed = refl
  fault_back faults.Parameter = refl

  no_difference : (fault : OpenFault) (b : OpenDifferences) → open_fault_text fault ≡ differences_text b → ⊥
  unfolding code_text digits
  no_difference faults.Version b e = not_later 59 (codes " ") tag refl [] (open_fault_text faults.Version) 12847 tags (pieces b) (are_tagged b) refl refl refl e
  no_difference faults.Malformed b e = not_later 59 (codes " ") tag refl [] (open_fault_text faults.Malformed) 24864 tags (pieces b) (are_tagged b) refl refl refl e
  no_difference faults.Parameter b e = not_later 59 (codes " ") tag refl [] (open_fault_text faults.Parameter) 12847 tags (pieces b) (are_tagged b) refl refl refl e

  pub one_open : OpenPartsDiffer
  one_open (parts.Malformed f) (parts.Malformed g) fa fb e = ap parts.Malformed (sym (fault_back f) ∙ ap fault_in e ∙ fault_back g)
  one_open (parts.Malformed f) (parts.Differing b) fa fb e = absurd (no_difference f b e)
  one_open (parts.Differing a) (parts.Malformed g) fa fb e = absurd (no_difference g a (sym e))
  one_open (parts.Differing a) (parts.Differing b) fa fb e = ap parts.Differing (one_differences a b fa fb e)

-- ---- it is of ASCII

abbrev Ascii : List ℕ → Type 0
Ascii text = is_ascii text ≡ true

abbrev All : List (Option (List ℕ)) → Type 0
All = AllPieces Ascii refl both_ascii

ascii_if : (piece : Option (List ℕ)) (ps : List (Option (List ℕ))) → IsClearIf piece → All ps → All (piece ∷ ps)
ascii_if None ps clear all = all
ascii_if (Some text) ps clear all = (clear_ascii text clear, all)

differences_ascii : (told : OpenDifferences) → AreFields told → is_ascii (differences_text told) ≡ true
differences_ascii told fits =
    all_hold Ascii refl both_ascii (codes "; ") [] (pieces told) refl refl
    (ascii_if (number_piece (codes "My AS ") told.my_as) _ (number_clear (codes "My AS ") (2 ^ 16) told.my_as (lit< tt) refl fits.my_as)
    (ascii_if (number_piece (codes "Hold Time ") told.hold) _ (number_clear (codes "Hold Time ") (2 ^ 16) told.hold (lit< tt) refl fits.hold)
    (ascii_if (id_piece told.id) _ (id_piece_clear told.id)
    (ascii_if (families_piece told.families) _ (families_clear told.families)
    (ascii_if (as_number_piece told.as_number) _ (as_piece_clear told.as_number fits.as_number)
    (ascii_if (extended_piece told.extended) _ (extended_piece_clear told.extended)
    (ascii_if (offers_piece told.offers) [] (offers_clear told.offers) tt)))))))

fault_ascii : (fault : OpenFault) → is_ascii (open_fault_text fault) ≡ true
unfolding code_text digits
fault_ascii faults.Version = refl
fault_ascii faults.Malformed = refl
fault_ascii faults.Parameter = refl

pub open_ascii : (told : declared.OwnOpenParts) → HasFields told → is_ascii (open_parts_text told) ≡ true
open_ascii (parts.Malformed fault) fits = fault_ascii fault
open_ascii (parts.Differing told) fits = differences_ascii told fits
