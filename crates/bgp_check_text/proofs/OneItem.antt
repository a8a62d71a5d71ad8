-- Two items of a reason have two texts.
use Rattle.std.proofs.Common.{◌≡◌, ◌∙◌, ◌<◌, ◌^◌, ◌+◌, ◌/◌, ◌==◌, ◌++◌, ℕ, Bool, true, false, List, [], ◌∷◌, Option, None, if◌then◌else◌, codes, refl, sym, ap, lit<, slice_index, length, append-nil, inl, inr}
use Rattle.std.specs.List.{AllByRecursion}
use Rattle.std.proofs.lemmas.Bool.{both_ways, cases_Bool, eq-eqb, eqb-true}
use mathlib.Core.List.{append_cancel_left, append_cancel_right}
use Rattle.bgp_clock.specs.Civil.{month_of, year_of}
use Rattle.bgp_clock.specs.When.{clock_text, date_text, four_digits, second_in, short_text, time_text, two_digits, when_text}
use Rattle.bgp_machine.specs.declared.fsm.Fsm.{Fsm}
use Rattle.bgp_machine.specs.declared.fsm.Fsm.TheVariants as states
use Rattle.bgp_machine.specs.State.{number_of}
use Rattle.bgp_names.proofs.Distinct.{head_of}
use Rattle.bgp_update.specs.declared.subcodes.Subcodes.{Subcodes}
use Rattle.bgp_why.specs.declared.items.Item.{Item}
use Rattle.bgp_why.specs.declared.items.Item.TheVariants as items
use Rattle.bgp_why.specs.Errors.{any_of, has_all, update_errors}
use Rattle.bgp_why.specs.Items.{change_text, due_text, from_text, item_text, way_text}
use Rattle.bgp_why_parts.specs.Codes.{code_text}
use Rattle.bgp_check_text.specs.ItemTexts.{HasFields, ItemsDiffer}
use Rattle.bgp_check_text.proofs.ErrorSets.{error_of, fsm_back, fsm_from, fsm_known, fsm_linked, fsm_list, header_back, header_from, header_known, header_linked, header_list, known_error, open_back, open_from, open_known, open_linked, open_list, update_back, update_from, update_known, update_linked, update_list, update_made}
use Rattle.bgp_check_text.proofs.ErrorTexts.{ErrorCode, IsKnown, cease, errors_text, every, not_cease, not_every, one_errors, or, sent}

differ : (m n : ℕ) → (m == n) ≡ false → m ≡ n → ⊥
differ m n isnt is = both_ways (m == n) isnt (eq-eqb m n is)

abbrev octet_at : ℕ → List ℕ → ℕ
octet_at i text = slice_index text i

-- ---- what is no NOTIFICATION

data Plain : Type 0 where
  Heard : Plain
  Opened : Plain
  Kept : Plain
  Updated : Plain
  Moved : Fsm → Fsm → Plain

abbrev plain_text : Plain → List ℕ
plain_text Heard = codes "any message received"
plain_text Opened = codes "OPEN sent [RFC 4271 4.2]"
plain_text Kept = codes "KEEPALIVE sent [RFC 4271 4.4]"
plain_text Updated = codes "UPDATE without fault sent [RFC 4271 4.3]"
plain_text (Moved old new) = change_text (number_of old) (number_of new)

-- the state whose name stands there, and how many octets that has
abbrev state_at : List ℕ → ℕ → Fsm
state_at text i =
    if slice_index text i == 73 then states.Idle
    else (if slice_index text i == 67 then states.Connect
    else (if slice_index text i == 65 then states.Active
    else (if slice_index text i == 69 then states.Established
    else (if slice_index text (i + 4) == 83 then states.OpenSent else states.OpenConfirm))))

abbrev count_of : Fsm → ℕ
count_of states.Idle = 4
count_of states.Connect = 7
count_of states.Active = 6
count_of states.OpenSent = 8
count_of states.OpenConfirm = 11
count_of states.Established = 11

abbrev moved_in : List ℕ → Plain
moved_in text =
    if slice_index text 0 == 99 then Moved (state_at text 17) (state_at text (21 + count_of (state_at text 17)))
    else (if slice_index text 5 == 97 then Moved (state_at text 26) (state_at text 26) else Moved (state_at text 18) states.Idle)

abbrev plain_in : List ℕ → Plain
plain_in text =
    if slice_index text 0 == 97 then Heard
    else (if slice_index text 0 == 79 then Opened
    else (if slice_index text 0 == 75 then Kept
    else (if slice_index text 0 == 85 then Updated else moved_in text)))

plain_back : (p : Plain) → plain_in (plain_text p) ≡ p
plain_back Heard = refl
plain_back Opened = refl
plain_back Kept = refl
plain_back Updated = refl
plain_back (Moved states.Idle states.Idle) = refl
plain_back (Moved states.Idle states.Connect) = refl
plain_back (Moved states.Idle states.Active) = refl
plain_back (Moved states.Idle states.OpenSent) = refl
plain_back (Moved states.Idle states.OpenConfirm) = refl
plain_back (Moved states.Idle states.Established) = refl
plain_back (Moved states.Connect states.Idle) = refl
plain_back (Moved states.Connect states.Connect) = refl
plain_back (Moved states.Connect states.Active) = refl
plain_back (Moved states.Connect states.OpenSent) = refl
plain_back (Moved states.Connect states.OpenConfirm) = refl
plain_back (Moved states.Connect states.Established) = refl
plain_back (Moved states.Active states.Idle) = refl
plain_back (Moved states.Active states.Connect) = refl
plain_back (Moved states.Active states.Active) = refl
plain_back (Moved states.Active states.OpenSent) = refl
plain_back (Moved states.Active states.OpenConfirm) = refl
plain_back (Moved states.Active states.Established) = refl
plain_back (Moved states.OpenSent states.Idle) = refl
plain_back (Moved states.OpenSent states.Connect) = refl
plain_back (Moved states.OpenSent states.Active) = refl
plain_back (Moved states.OpenSent states.OpenSent) = refl
plain_back (Moved states.OpenSent states.OpenConfirm) = refl
plain_back (Moved states.OpenSent states.Established) = refl
plain_back (Moved states.OpenConfirm states.Idle) = refl
plain_back (Moved states.OpenConfirm states.Connect) = refl
plain_back (Moved states.OpenConfirm states.Active) = refl
plain_back (Moved states.OpenConfirm states.OpenSent) = refl
plain_back (Moved states.OpenConfirm states.OpenConfirm) = refl
plain_back (Moved states.OpenConfirm states.Established) = refl
plain_back (Moved states.Established states.Idle) = refl
plain_back (Moved states.Established states.Connect) = refl
plain_back (Moved states.Established states.Active) = refl
plain_back (Moved states.Established states.OpenSent) = refl
plain_back (Moved states.Established states.OpenConfirm) = refl
plain_back (Moved states.Established states.Established) = refl

-- none begins as a NOTIFICATION does
plain_head : (p : Plain) → (head_of 0 (plain_text p) == 78) ≡ false
plain_head Heard = refl
plain_head Opened = refl
plain_head Kept = refl
plain_head Updated = refl
plain_head (Moved states.Idle states.Idle) = refl
plain_head (Moved states.Idle states.Connect) = refl
plain_head (Moved states.Idle states.Active) = refl
plain_head (Moved states.Idle states.OpenSent) = refl
plain_head (Moved states.Idle states.OpenConfirm) = refl
plain_head (Moved states.Idle states.Established) = refl
plain_head (Moved states.Connect states.Idle) = refl
plain_head (Moved states.Connect states.Connect) = refl
plain_head (Moved states.Connect states.Active) = refl
plain_head (Moved states.Connect states.OpenSent) = refl
plain_head (Moved states.Connect states.OpenConfirm) = refl
plain_head (Moved states.Connect states.Established) = refl
plain_head (Moved states.Active states.Idle) = refl
plain_head (Moved states.Active states.Connect) = refl
plain_head (Moved states.Active states.Active) = refl
plain_head (Moved states.Active states.OpenSent) = refl
plain_head (Moved states.Active states.OpenConfirm) = refl
plain_head (Moved states.Active states.Established) = refl
plain_head (Moved states.OpenSent states.Idle) = refl
plain_head (Moved states.OpenSent states.Connect) = refl
plain_head (Moved states.OpenSent states.Active) = refl
plain_head (Moved states.OpenSent states.OpenSent) = refl
plain_head (Moved states.OpenSent states.OpenConfirm) = refl
plain_head (Moved states.OpenSent states.Established) = refl
plain_head (Moved states.OpenConfirm states.Idle) = refl
plain_head (Moved states.OpenConfirm states.Connect) = refl
plain_head (Moved states.OpenConfirm states.Active) = refl
plain_head (Moved states.OpenConfirm states.OpenSent) = refl
plain_head (Moved states.OpenConfirm states.OpenConfirm) = refl
plain_head (Moved states.OpenConfirm states.Established) = refl
plain_head (Moved states.Established states.Idle) = refl
plain_head (Moved states.Established states.Connect) = refl
plain_head (Moved states.Established states.Active) = refl
plain_head (Moved states.Established states.OpenSent) = refl
plain_head (Moved states.Established states.OpenConfirm) = refl
plain_head (Moved states.Established states.Established) = refl

not_plain : (p : Plain) (rest : List ℕ) → plain_text p ≡ 78 ∷ rest → ⊥
not_plain p rest e = both_ways (head_of 0 (plain_text p) == 78) (plain_head p) (eq-eqb (head_of 0 (plain_text p)) 78 (ap (head_of 0) e))

-- ---- a second

abbrev date_of : ℕ → List ℕ
date_of d =
    four_digits (year_of d).0 ++ (codes "-" ++ (two_digits (month_of (year_of d).0 (year_of d).1).0
    ++ (codes "-" ++ two_digits ((month_of (year_of d).0 (year_of d).1).1 + 1))))

by_day : (a b : ℕ) → a / 86400 ≡ b / 86400 → date_text a ≡ date_text b
unfolding date_text
by_day a b same = ap date_of same

one_clock : (a b : ℕ) → a / 86400 ≡ b / 86400 → clock_text a None ≡ clock_text b None → when_text a None ≡ when_text b None
unfolding when_text
one_clock a b day same = ap (λ (t : List ℕ). t ++ (codes " " ++ clock_text a None)) (by_day a b day) ∙ ap (λ (t : List ℕ). date_text b ++ (codes " " ++ t)) same

clock_length : (a : ℕ) → length (clock_text a None) ≡ 8
unfolding clock_text time_text
clock_length a = refl

when_length : (a : ℕ) → length (when_text a None) ≡ 19
unfolding when_text date_text clock_text time_text
when_length a = refl

two_lengths : (a b : ℕ) → clock_text a None ≡ when_text b None → ⊥
two_lengths a b e = differ 8 19 refl (sym (clock_length a) ∙ ap length e ∙ when_length b)

-- ---- what is said of an item

-- what stands behind a NOTIFICATION's errors
data Tail : Type 0 where
  -- where RFC 4271 has them, in section 6.N
  Section : ℕ → Tail
  -- in RFC 9687
  Later : Tail
  -- from this second on
  From : ℕ → Tail

data Shape : Type 0 where
  Said : Plain → Shape
  Ceased : Shape
  -- UPDATE Message Error with each subcode
  Every : Shape
  Noted : List ErrorCode → Tail → Shape

-- the text of a second is read back
abbrev pub ReadsBack : Type 0
ReadsBack = (second : ℕ) (micro : Option ℕ) → second < 2 ^ 32 → second_in (when_text second micro) ≡ second

module _ (reads : ReadsBack) (first : ℕ) where
  one_when : (a b : ℕ) → a < 2 ^ 32 → b < 2 ^ 32 → when_text a None ≡ when_text b None → a ≡ b
  one_when a b sa sb e = sym (reads a None sa) ∙ ap second_in e ∙ reads b None sb

  one_short : (a b : ℕ) → a < 2 ^ 32 → b < 2 ^ 32 → short_text first a None ≡ short_text first b None → a ≡ b
  one_short a b sa sb e = elim (cases_Bool (first / 86400 == a / 86400)) [
    | inl near ↦ elim (cases_Bool (first / 86400 == b / 86400)) [
      | inl near' ↦
          let day : a / 86400 ≡ b / 86400 = sym (eqb-true (first / 86400) (a / 86400) near) ∙ eqb-true (first / 86400) (b / 86400) near' in
          one_when a b sa sb (one_clock a b day (rw (near, near') at e))
      | inr far' ↦ absurd (two_lengths a b (rw (near, far') at e))
    ]
    | inr far ↦ elim (cases_Bool (first / 86400 == b / 86400)) [
      | inl near' ↦ absurd (two_lengths b a (sym (rw (far, near') at e)))
      | inr far' ↦ one_when a b sa sb (rw (far, far') at e)
    ]
  ]

  -- ---- what stands behind a NOTIFICATION's errors

  abbrev tail_text : Tail → List ℕ
  tail_text (Section s) = codes " [RFC 4271 6." ++ (s ∷ codes "]")
  tail_text Later = codes " [RFC 9687 4]"
  tail_text (From from) = from_text first from ++ codes " [RFC 4271 6.5]"

  abbrev IsTail : Tail → Type 0
  IsTail (Section s) = (s == 53) ≡ false
  IsTail Later = Unit {0}
  IsTail (From from) = from < 2 ^ 32

  abbrev expired : List ℕ
  expired = codes " [RFC 4271 6.5]"

  abbrev begins_at : ℕ → List ℕ
  begins_at from = codes " at " ++ (short_text first from None ++ codes " or later")

  section_not_from : (s from : ℕ) → (s == 53) ≡ false → tail_text (Section s) ≡ tail_text (From from) → ⊥
  section_not_from s from isnt e = elim (cases_Bool (from == 0)) [
    | inl due ↦ both_ways (s == 53) isnt (eq-eqb s 53 (ap (octet_at 13) (rw due at e)))
    | inr timed ↦ differ 91 97 refl (ap (octet_at 1) (rw timed at e))
  ]

  later_not_from : (from : ℕ) → tail_text Later ≡ tail_text (From from) → ⊥
  later_not_from from e = elim (cases_Bool (from == 0)) [
    | inl due ↦ differ 57 52 refl (ap (octet_at 6) (rw due at e))
    | inr timed ↦ differ 91 97 refl (ap (octet_at 1) (rw timed at e))
  ]

  one_from : (a b : ℕ) → a < 2 ^ 32 → b < 2 ^ 32 → tail_text (From a) ≡ tail_text (From b) → a ≡ b
  one_from a b sa sb e = elim (cases_Bool (a == 0)) [
    | inl due ↦ elim (cases_Bool (b == 0)) [
      | inl due' ↦ eqb-true a 0 due ∙ sym (eqb-true b 0 due')
      | inr timed' ↦ absurd (differ 91 97 refl (ap (octet_at 1) (rw (due, timed') at e)))
    ]
    | inr timed ↦ elim (cases_Bool (b == 0)) [
      | inl due' ↦ absurd (differ 97 91 refl (ap (octet_at 1) (rw (timed, due') at e)))
      | inr timed' ↦
          let whole : begins_at a ++ expired ≡ begins_at b ++ expired = rw (timed, timed') at e in
          let front = append_cancel_right (begins_at a) (begins_at b) expired whole in
          let behind = append_cancel_left (codes " at ") (short_text first a None ++ codes " or later") (short_text first b None ++ codes " or later") front in
          one_short a b sa sb (append_cancel_right (short_text first a None) (short_text first b None) (codes " or later") behind)
    ]
  ]

  one_tail : (a b : Tail) → IsTail a → IsTail b → tail_text a ≡ tail_text b → a ≡ b
  one_tail (Section s) (Section t) ia ib e = ap Section (ap (octet_at 13) e)
  one_tail (Section s) Later ia ib e = absurd (differ 52 57 refl (ap (octet_at 6) e))
  one_tail (Section s) (From f) ia ib e = absurd (section_not_from s f ia e)
  one_tail Later (Section t) ia ib e = absurd (differ 57 52 refl (ap (octet_at 6) e))
  one_tail Later Later ia ib e = refl
  one_tail Later (From f) ia ib e = absurd (later_not_from f e)
  one_tail (From f) (Section t) ia ib e = absurd (section_not_from t f ib (sym e))
  one_tail (From f) Later ia ib e = absurd (later_not_from f (sym e))
  one_tail (From f) (From g) ia ib e = ap From (one_from f g ia ib e)

  -- ---- an item by its text

  abbrev shape_text : Shape → List ℕ
  shape_text (Said p) = plain_text p
  shape_text Ceased = codes "NOTIFICATION " ++ cease
  shape_text Every = codes "NOTIFICATION " ++ every
  shape_text (Noted xs t) = codes "NOTIFICATION " ++ (errors_text or xs ++ sent (tail_text t))

  abbrev IsShape : Shape → Type 0
  IsShape (Said p) = Unit {0}
  IsShape Ceased = Unit {0}
  IsShape Every = Unit {0}
  IsShape (Noted xs t) = AllByRecursion IsKnown xs × IsTail t

  -- what stands behind the word
  behind : (x y : List ℕ) → codes "NOTIFICATION " ++ x ≡ codes "NOTIFICATION " ++ y → x ≡ y
  behind x y e = append_cancel_left (codes "NOTIFICATION ") x y e

  one_shape : (a b : Shape) → IsShape a → IsShape b → shape_text a ≡ shape_text b → a ≡ b
  one_shape (Said p) (Said q) ia ib e = ap Said (sym (plain_back p) ∙ ap plain_in e ∙ plain_back q)
  one_shape (Said p) Ceased ia ib e = absurd (not_plain p (codes "OTIFICATION " ++ cease) e)
  one_shape (Said p) Every ia ib e = absurd (not_plain p (codes "OTIFICATION " ++ every) e)
  one_shape (Said p) (Noted ys u) ia ib e = absurd (not_plain p (codes "OTIFICATION " ++ (errors_text or ys ++ sent (tail_text u))) e)
  one_shape Ceased (Said q) ia ib e = absurd (not_plain q (codes "OTIFICATION " ++ cease) (sym e))
  one_shape Ceased Ceased ia ib e = refl
  one_shape Ceased Every ia ib e = absurd (differ 54 51 refl (ap (octet_at 13) e))
  one_shape Ceased (Noted ys u) ia ib e = absurd (not_cease ys (tail_text u) ib.0 (behind cease (errors_text or ys ++ sent (tail_text u)) e))
  one_shape Every (Said q) ia ib e = absurd (not_plain q (codes "OTIFICATION " ++ every) (sym e))
  one_shape Every Ceased ia ib e = absurd (differ 51 54 refl (ap (octet_at 13) e))
  one_shape Every Every ia ib e = refl
  one_shape Every (Noted ys u) ia ib e = absurd (not_every ys (tail_text u) ib.0 (behind every (errors_text or ys ++ sent (tail_text u)) e))
  one_shape (Noted xs t) (Said q) ia ib e = absurd (not_plain q (codes "OTIFICATION " ++ (errors_text or xs ++ sent (tail_text t))) (sym e))
  one_shape (Noted xs t) Ceased ia ib e = absurd (not_cease xs (tail_text t) ia.0 (behind cease (errors_text or xs ++ sent (tail_text t)) (sym e)))
  one_shape (Noted xs t) Every ia ib e = absurd (not_every xs (tail_text t) ia.0 (behind every (errors_text or xs ++ sent (tail_text t)) (sym e)))
  one_shape (Noted xs t) (Noted ys u) ia ib e =
      let both = one_errors xs ys (tail_text t) (tail_text u) ia.0 ib.0 (behind (errors_text or xs ++ sent (tail_text t)) (errors_text or ys ++ sent (tail_text u)) e) in
      ap (λ (zs : List ErrorCode). Noted zs t) both.0 ∙ ap (λ (v : Tail). Noted ys v) (one_tail t u ia.1 ib.1 both.1)

  -- ---- of an item

  abbrev update_shape : Bool → Subcodes → Shape
  update_shape true errors = Every
  update_shape false errors = Noted (update_list errors) (Section 51)

  abbrev shape : Item → Shape
  shape items.ReceivedMessage = Said Heard
  shape items.SentOpen = Said Opened
  shape items.SentKeepalive = Said Kept
  shape items.SentUpdate = Said Updated
  shape (items.HeaderErrors errors) = Noted (header_list errors) (Section 49)
  shape (items.OpenErrors errors) = Noted (open_list errors) (Section 50)
  shape (items.UpdateErrors errors) = update_shape (has_all errors) errors
  shape (items.HoldTimerExpired from) = Noted (error_of 4 0 ∷ []) (From from)
  shape items.SendHoldTimerExpired = Noted (error_of 8 0 ∷ []) Later
  shape (items.StateErrors errors) = Noted (fsm_list errors) (Section 54)
  shape items.Cease = Ceased
  shape (items.Change old new) = Said (Moved old new)

  abbrev update_text_by : Bool → Subcodes → List ℕ
  update_text_by every errors = if every then codes "3/1 to 3/11 (UPDATE Message Error)" else any_of (update_errors errors)

  update_shaped : (every : Bool) (errors : Subcodes)
      → codes "NOTIFICATION " ++ (update_text_by every errors ++ codes " sent [RFC 4271 6.3]") ≡ shape_text (update_shape every errors)
  update_shaped true errors = refl
  update_shaped false errors = ap (λ (t : List ℕ). codes "NOTIFICATION " ++ (t ++ codes " sent [RFC 4271 6.3]")) (update_linked errors)

  alone : (c : List ℕ) → c ≡ (c ++ []) ++ []
  alone c = sym (append-nil c) ∙ sym (append-nil (c ++ []))

  text_of : (item : Item) → item_text first item ≡ shape_text (shape item)
  unfolding due_text way_text
  text_of items.ReceivedMessage = refl
  text_of items.SentOpen = refl
  text_of items.SentKeepalive = refl
  text_of items.SentUpdate = refl
  text_of (items.HeaderErrors errors) = ap (λ (t : List ℕ). codes "NOTIFICATION " ++ (t ++ codes " sent [RFC 4271 6.1]")) (header_linked errors)
  text_of (items.OpenErrors errors) = ap (λ (t : List ℕ). codes "NOTIFICATION " ++ (t ++ codes " sent [RFC 4271 6.2]")) (open_linked errors)
  text_of (items.UpdateErrors errors) = update_shaped (has_all errors) errors
  text_of (items.HoldTimerExpired from) =
      ap (λ (c : List ℕ). codes "NOTIFICATION " ++ (c ++ (codes " sent" ++ (from_text first from ++ codes " [RFC 4271 6.5]")))) (alone (code_text 4 0))
  text_of items.SendHoldTimerExpired = ap (λ (c : List ℕ). codes "NOTIFICATION " ++ (c ++ codes " sent [RFC 9687 4]")) (alone (code_text 8 0))
  text_of (items.StateErrors errors) = ap (λ (t : List ℕ). codes "NOTIFICATION " ++ (t ++ codes " sent [RFC 4271 6.6]")) (fsm_linked errors)
  text_of items.Cease = refl
  text_of (items.Change old new) = refl

  -- ---- and back

  abbrev all_updates : Subcodes
  all_updates = update_made true true true true true true true true true true true

  abbrev noted_back : ℕ → List ErrorCode → Item
  noted_back s xs =
      if s == 49 then items.HeaderErrors (header_from xs)
      else (if s == 50 then items.OpenErrors (open_from xs)
      else (if s == 51 then items.UpdateErrors (update_from xs) else items.StateErrors (fsm_from xs)))

  abbrev back : Shape → Item
  back (Said Heard) = items.ReceivedMessage
  back (Said Opened) = items.SentOpen
  back (Said Kept) = items.SentKeepalive
  back (Said Updated) = items.SentUpdate
  back (Said (Moved old new)) = items.Change old new
  back Ceased = items.Cease
  back Every = items.UpdateErrors all_updates
  back (Noted xs (Section s)) = noted_back s xs
  back (Noted xs Later) = items.SendHoldTimerExpired
  back (Noted xs (From from)) = items.HoldTimerExpired from

  every_by : (a b c d e f g h i j k : Bool) → has_all (update_made a b c d e f g h i j k) ≡ true
      → all_updates ≡ update_made a b c d e f g h i j k
  every_by true true true true true true true true true true true is = refl
  every_by false b c d e f g h i j k is = absurd (let k : ⊥ = cc in k)
  every_by true false c d e f g h i j k is = absurd (let k : ⊥ = cc in k)
  every_by true true false d e f g h i j k is = absurd (let k : ⊥ = cc in k)
  every_by true true true false e f g h i j k is = absurd (let k : ⊥ = cc in k)
  every_by true true true true false f g h i j k is = absurd (let k : ⊥ = cc in k)
  every_by true true true true true false g h i j k is = absurd (let k : ⊥ = cc in k)
  every_by true true true true true true false h i j k is = absurd (let k : ⊥ = cc in k)
  every_by true true true true true true true false i j k is = absurd (let k : ⊥ = cc in k)
  every_by true true true true true true true true false j k is = absurd (let k : ⊥ = cc in k)
  every_by true true true true true true true true true false k is = absurd (let k : ⊥ = cc in k)
  every_by true true true true true true true true true true false is = absurd (let k : ⊥ = cc in k)

  update_back_by : (every : Bool) (errors : Subcodes) → has_all errors ≡ every → back (update_shape every errors) ≡ items.UpdateErrors errors
  update_back_by true errors is = ap items.UpdateErrors (every_by errors.malformed_attribute_list errors.unrecognized_well_known errors.missing_well_known errors.attribute_flags errors.attribute_length errors.invalid_origin errors.as_routing_loop errors.invalid_next_hop errors.optional_attribute errors.invalid_network_field errors.malformed_as_path is)
  update_back_by false errors is = ap items.UpdateErrors (update_back errors)

  back_of : (item : Item) → back (shape item) ≡ item
  back_of items.ReceivedMessage = refl
  back_of items.SentOpen = refl
  back_of items.SentKeepalive = refl
  back_of items.SentUpdate = refl
  back_of (items.HeaderErrors errors) = ap items.HeaderErrors (header_back errors)
  back_of (items.OpenErrors errors) = ap items.OpenErrors (open_back errors)
  back_of (items.UpdateErrors errors) = update_back_by (has_all errors) errors refl
  back_of (items.HoldTimerExpired from) = refl
  back_of items.SendHoldTimerExpired = refl
  back_of (items.StateErrors errors) = ap items.StateErrors (fsm_back errors)
  back_of items.Cease = refl
  back_of (items.Change old new) = refl

  update_is : (every : Bool) (errors : Subcodes) → IsShape (update_shape every errors)
  update_is true errors = tt
  update_is false errors = (update_known errors, refl)

  is_shape : (item : Item) → HasFields item → IsShape (shape item)
  is_shape items.ReceivedMessage has = tt
  is_shape items.SentOpen has = tt
  is_shape items.SentKeepalive has = tt
  is_shape items.SentUpdate has = tt
  is_shape (items.HeaderErrors errors) has = (header_known errors has.0 has.1, refl)
  is_shape (items.OpenErrors errors) has = (open_known errors, refl)
  is_shape (items.UpdateErrors errors) has = update_is (has_all errors) errors
  is_shape (items.HoldTimerExpired from) has = ((known_error 4 0 (lit< tt) (lit< tt) refl, tt), has)
  is_shape items.SendHoldTimerExpired has = ((known_error 8 0 (lit< tt) (lit< tt) refl, tt), tt)
  is_shape (items.StateErrors errors) has = (fsm_known errors, refl)
  is_shape items.Cease has = tt
  is_shape (items.Change old new) has = tt

  pub one_item : (one other : Item) → HasFields one → HasFields other → item_text first one ≡ item_text first other → one ≡ other
  one_item one other ha hb e =
      sym (back_of one) ∙ ap back (one_shape (shape one) (shape other) (is_shape one ha) (is_shape other hb) (sym (text_of one) ∙ e ∙ text_of other)) ∙ back_of other

pub items_differ : ReadsBack → ItemsDiffer
items_differ reads first one other ha hb e = one_item reads first one other ha hb e
