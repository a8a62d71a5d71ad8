-- The parts of a file, one after another.
use Rattle.std.proofs.Common.{◌≡◌, ◌∙◌, ◌↔◌, ℕ, ◌+◌, ◌≤◌, Bool, true, IsTrue, List, [], ◌∷◌, ◌++◌, length, refl, sym, ap, subst, arith, append_assoc, append-nil, length-append, Option}
use Rattle.std.specs.List.{AllByRecursion}
use Rattle.mrt.specs.declared.fault.FaultKind.{FaultKind}
use Rattle.mrt_sessions.specs.File.{FitsPlain, HasExtendedBody, HasSuchRecords, IsPart, Located, Named, NamesSession, Other, Part, StopsBy, joined, named_from, octets_of}

joined_more : (parts : List Part) (part : Part) → joined (parts ++ part ∷ []) ≡ joined parts ++ octets_of part
joined_more [] part = append-nil (octets_of part)
joined_more (first ∷ parts) part = ap (λ (o : List ℕ). octets_of first ++ o) (joined_more parts part) ∙ sym (append_assoc (octets_of first) (joined parts) (octets_of part))

all_more : (P : Part → Type 0) (parts : List Part) (part : Part) → AllByRecursion P parts → P part → AllByRecursion P (parts ++ part ∷ [])
all_more P [] part all is = (is, tt)
all_more P (first ∷ parts) part all is = (all.0, all_more P parts part all.1 is)

all_before : (P : Part → Type 0) (parts : List Part) (part : Part) → AllByRecursion P (parts ++ part ∷ []) → AllByRecursion P parts
all_before P [] part all = tt
all_before P (first ∷ parts) part all = (all.0, all_before P parts part all.1)

is_last : (P : Part → Type 0) (parts : List Part) (part : Part) → AllByRecursion P (parts ++ part ∷ []) → P part
is_last P [] part all = all.0
is_last P (first ∷ parts) part all = is_last P parts part all.1

further : (at a b c : ℕ) → c ≡ a + b → at + a + b ≡ at + c
further at a b c e = omega (arith, e)

named_more : (at : ℕ) (parts : List Part) (part : Part) → named_from at (parts ++ part ∷ []) ≡ named_from at parts ++ named_from (at + length (joined parts)) (part ∷ [])
named_more at [] part = ap (λ (n : ℕ). named_from n (part ∷ [])) (sym (plus_zero at)) where
  plus_zero : (n : ℕ) → n + 0 ≡ n
  plus_zero n = omega arith
named_more at (Other octets ∷ parts) part =
    named_more (at + length octets) parts part
    ∙ ap (λ (n : ℕ). named_from (at + length octets) parts ++ named_from n (part ∷ [])) (further at (length octets) (length (joined parts)) _ (length-append octets (joined parts)))
named_more at (Named octets ∷ parts) part =
    ap (λ (ls : List Located). record { offset = at; octets = octets } ∷ ls)
    (named_more (at + length octets) parts part
    ∙ ap (λ (n : ℕ). named_from (at + length octets) parts ++ named_from n (part ∷ [])) (further at (length octets) (length (joined parts)) _ (length-append octets (joined parts))))

from_zero : (n : ℕ) → n ≡ 0 + n
from_zero n = omega arith

-- what was read so far, and what is left
pub record SoFar (octets rest : List ℕ) (named : List Located) (offset : ℕ) (is_plain : Bool) : Type 0 where
  pub parts : List Part
  pub whole : octets ≡ joined parts ++ rest
  pub each : AllByRecursion IsPart parts
  pub are : named ≡ named_from 0 parts
  pub place : offset ≡ length (joined parts)
  pub plain : IsTrue is_plain ↔ AllByRecursion FitsPlain parts

pub nothing_read : (octets : List ℕ) → SoFar octets octets [] 0 true
nothing_read octets = record { parts = []; whole = refl; each = tt; are = refl; place = refl; plain = ((λ is. tt), (λ all. refl)) }

module _ (octets rest behind part : List ℕ) (named : List Located) (offset : ℕ) (was : Bool) (so : SoFar octets rest named offset was) (is : rest ≡ part ++ behind) where
  pub fits : offset + length part ≤ length octets
  fits =
      let all = ap length so.whole in
      let left = ap length is in
      let parts = length-append (joined so.parts) rest in
      let more = length-append part behind in
      let place = so.place in
      omega arith

  module _ (a : Part) (its : octets_of a ≡ part) where
    whole_more : octets ≡ joined (so.parts ++ a ∷ []) ++ behind
    whole_more =
        so.whole ∙ ap (λ (o : List ℕ). joined so.parts ++ o) (is ∙ ap (λ (o : List ℕ). o ++ behind) (sym its))
        ∙ sym (append_assoc (joined so.parts) (octets_of a) behind) ∙ ap (λ (o : List ℕ). o ++ behind) (sym (joined_more so.parts a))

    place_more : offset + length part ≡ length (joined (so.parts ++ a ∷ []))
    place_more =
        let more = ap length (joined_more so.parts a) in
        let both = length-append (joined so.parts) (octets_of a) in
        let same = ap length its in
        let place = so.place in
        omega arith

    plain_more : (still : Bool) → (IsTrue still ↔ (IsTrue was × (¬ HasExtendedBody part))) → (IsTrue still ↔ AllByRecursion FitsPlain (so.parts ++ a ∷ []))
    plain_more still by = (
      λ is_still. let both = by.0 is_still in
          all_more FitsPlain so.parts a (so.plain.0 both.0) (subst (λ (o : List ℕ). ¬ HasExtendedBody o) (sym its) both.1),
      λ all. by.1 (so.plain.1 (all_before FitsPlain so.parts a all), subst (λ (o : List ℕ). ¬ HasExtendedBody o) its (is_last FitsPlain so.parts a all)),
    )

  pub other_more : (still : Bool) → (IsTrue still ↔ (IsTrue was × (¬ HasExtendedBody part))) → IsPart (Other part) → SoFar octets behind named (offset + length part) still
  other_more still by one = record {
    parts = so.parts ++ Other part ∷ [];
    whole = whole_more (Other part) refl;
    each = all_more IsPart so.parts (Other part) so.each one;
    are = so.are ∙ sym (named_more 0 so.parts (Other part) ∙ append-nil (named_from 0 so.parts));
    place = place_more (Other part) refl;
    plain = plain_more (Other part) refl still by;
  }

  pub record_more : (still : Bool) → (IsTrue still ↔ (IsTrue was × (¬ HasExtendedBody part))) → NamesSession part
      → SoFar octets behind (named ++ record { offset = offset; octets = part } ∷ []) (offset + length part) still
  record_more still by one = record {
    parts = so.parts ++ Named part ∷ [];
    whole = whole_more (Named part) refl;
    each = all_more IsPart so.parts (Named part) so.each one;
    are =
        ap (λ (ls : List Located). ls ++ record { offset = offset; octets = part } ∷ []) so.are
        ∙ ap (λ (n : ℕ). named_from 0 so.parts ++ record { offset = n; octets = part } ∷ []) (so.place ∙ from_zero (length (joined so.parts)))
        ∙ sym (named_more 0 so.parts (Named part));
    place = place_more (Named part) refl;
    plain = plain_more (Named part) refl still by;
  }

pub stopped : (octets rest : List ℕ) (named : List Located) (offset : ℕ) (is_plain : Bool) (refusal : Option FaultKind) → SoFar octets rest named offset is_plain → StopsBy rest refusal
    → HasSuchRecords octets named offset refusal is_plain
stopped octets rest named offset is_plain refusal so stops = record {
  has = record {
    parts = so.parts;
    rest = rest;
    text = record { whole = so.whole; each = so.each; stops = stops };
    are = so.are;
    place = so.place;
  };
  plain = so.plain;
}
