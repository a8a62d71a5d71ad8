-- Words with an octet 0 behind each, one record further.
use Rattle.std.proofs.Common.{◌≡◌, ◌∙◌, ◌++◌, ◌+◌, ◌-◌, ◌<◌, ◌≤◌, ℕ, zero, suc, Bool, true, false, List, [], ◌∷◌, ap, append-nil, append_assoc, arith, drop, get_or, if◌then◌else◌, length, length-append, length-take-le, refl, subst, sym, take}
use Rattle.std.proofs.lemmas.List.{drop-drop, drop_all}
use Rattle.std.proofs.lemmas.Bool.{ne_eqb}
use Rattle.std.specs.Prelude.{◌==◌}
use Rattle.bgp_prefix.specs.Shown.{ShownRecord}
use Rattle.mrt.specs.Reader.{shown_of}
use Rattle.bgp_lines.specs.Form.{Before, before_behind}
use Rattle.bgp_recording.specs.declared.entry.Entry.{Entry}
use Rattle.bgp_recording.specs.declared.framing.Framings.{Framings}
use Rattle.bgp_values.specs.Opens.{AreOpens}
use Rattle.bgp_values.specs.declared.opens.Opens.{Opens}
use Rattle.bgp_ladder.specs.Batch.{AreDeeds, HasWords, Holds, IsBatch, IsBehind, IsShownBy, first_end, first_zero, zeros}
use Rattle.bgp_ladder.specs.Deed.{IsDeedBy}
use Rattle.bgp_ladder.proofs.InRuns.{rest_here}
use Rattle.bgp_ladder.specs.declared.runs.Part.{Part}
use Rattle.bgp_ladder.specs.declared.runs.Part.TheVariants as parts

-- ---- octets 0

zeros_by : (b : Bool) (n m k : ℕ) → k ≡ n + m → (if b then k + 1 else k) ≡ (if b then n + 1 else n) + m
zeros_by true n m k is = omega (arith, is)
zeros_by false n m k is = is

zeros_both : (xs ys : List ℕ) → zeros (xs ++ ys) ≡ zeros xs + zeros ys
zeros_both [] ys = omega arith
zeros_both (x ∷ xs) ys = zeros_by (x == 0) (zeros xs) (zeros ys) (zeros (xs ++ ys)) (zeros_both xs ys)

zeros_words : (text rest : List ℕ) → zeros (text ++ 0 ∷ rest) ≡ zeros text + (zeros rest + 1)
zeros_words text rest = zeros_both text (0 ∷ rest)

none_by : (b : Bool) (n : ℕ) → (if b then n + 1 else n) ≡ 0 → (b ≡ false) × (n ≡ 0)
none_by true n is = absurd (omega (arith, is))
none_by false n is = (refl, is)

longer : (x : ℕ) (xs : List ℕ) → length (x ∷ xs) ≡ length xs + 1
longer x xs = omega arith

further_by : (b : Bool) (n m k : ℕ) → b ≡ false → n ≡ m → k ≡ m + 1 → (if b then 0 else n + 1) ≡ k
further_by true n m k is same long = cc
further_by false n m k is same long = omega (arith, same, long)

-- the first is behind words without any
first_behind : (text rest : List ℕ) → zeros text ≡ 0 → first_zero (text ++ 0 ∷ rest) ≡ length text
first_behind [] rest none = refl
first_behind (x ∷ xs) rest none =
    let lacks = none_by (x == 0) (zeros xs) none in
    further_by (x == 0) (first_zero (xs ++ 0 ∷ rest)) (length xs) (length (x ∷ xs)) lacks.0 (first_behind xs rest lacks.1) (longer x xs)

-- ---- the words of the first

take_words : (text rest : List ℕ) → take (length text) (text ++ rest) ≡ text
take_words [] rest = refl
take_words (x ∷ xs) rest = ap (λ (ys : List ℕ). x ∷ ys) (take_words xs rest)

drop_words : (text rest : List ℕ) → drop (length text) (text ++ rest) ≡ rest
drop_words [] rest = refl
drop_words (x ∷ xs) rest = drop_words xs rest

drop_more : (text rest : List ℕ) → drop (length text + 1) (text ++ 0 ∷ rest) ≡ rest
drop_more text rest = sym (drop-drop 1 (length text) (text ++ 0 ∷ rest)) ∙ ap (λ (o : List ℕ). drop 1 o) (drop_words text (0 ∷ rest))

length_words : (text rest : List ℕ) → length (text ++ rest) ≡ length text + length rest
length_words text rest = length-append text rest

-- ---- of records

longer_entries : (e : Entry) (es : List Entry) → length (e ∷ es) ≡ length es + 1
longer_entries e es = omega arith

-- each has an octet 0
some_zeros : (framings : Framings) (opens : Opens) (entries : List Entry) (octets : List ℕ) → AreDeeds framings opens entries octets
    → length entries ≤ zeros octets
some_zeros framings opens [] octets are = omega arith
some_zeros framings opens (entry ∷ entries) octets (next, text, rest, behind, deed, more, whole) =
    let below = some_zeros framings next entries rest more in
    let counted = ap (λ (o : List ℕ). zeros o) whole ∙ zeros_words text rest in
    let long = longer_entries entry entries in
    omega (arith, below, counted, long)

end_is : (k : ℕ) (octets : List ℕ) → first_end (suc (suc k)) octets ≡ first_zero octets
end_is k octets =
    rw (ne_eqb (suc (suc k)) 0 (λ e. omega (arith, e))) (rw (ne_eqb (suc (suc k)) 1 (λ e. omega (arith, e))) refl)

length_take : (k : ℕ) (entries : List Entry) → k ≤ length entries → length (take k entries) ≡ k
length_take k entries within = length-take-le k entries within

-- the words of the first end there, and there is one octet 0 for each of the others
end_of : (framings : Framings) (next : Opens) (entries : List Entry) (k : ℕ) (octets text rest : List ℕ) → k ≤ length entries
    → AreDeeds framings next (take k entries) rest → octets ≡ text ++ 0 ∷ rest → (1 < suc k → zeros octets ≡ suc k)
    → (first_end (suc k) octets ≡ length text) × (1 < k → zeros rest ≡ k)
end_of framings next entries zero octets text rest within more whole parted =
    let count = ap (λ (o : List ℕ). length o) whole ∙ length_words text (0 ∷ rest) in
    let none = ap (λ (o : List ℕ). length o) more in
    let one = longer 0 rest in (
      omega (arith, count, none, one),
      λ many. absurd (omega (arith, many)),
    )
end_of framings next entries (suc k) octets text rest within more whole parted =
    let all = parted (omega arith) in
    let counted = ap (λ (o : List ℕ). zeros o) whole ∙ zeros_words text rest in
    let below = some_zeros framings next (take (suc k) entries) rest more in
    let count = length_take (suc k) entries within in
    let none : zeros text ≡ 0 = omega (arith, all, counted, below, count) in (
      end_is k octets ∙ ap (λ (o : List ℕ). first_zero o) whole ∙ first_behind text rest none,
      λ many. omega (arith, all, counted, none),
    )

module _ (framings : Framings) (entry : Entry) (entries : List Entry) where
  further : (opens : Opens) (left : ℕ) (octets : List ℕ) → 0 < left → Holds framings opens (entry ∷ entries) left octets
      → (next : Opens) × IsBehind opens (shown_of entry.record) next
      × IsDeedBy framings opens (shown_of entry.record) (take (first_end left octets) octets)
      × Holds framings next entries (left - 1) (drop (first_end left octets + 1) octets)
  further opens zero octets some holds = absurd (omega (arith, some))
  further opens (suc k) octets some (within, (next, text, rest, behind, deed, more, whole), parted) =
      let fits : k ≤ length entries = (let long = longer_entries entry entries in omega (arith, within, long)) in
      let ends = end_of framings next entries k octets text rest fits more whole parted in
      let words : take (first_end (suc k) octets) octets ≡ text =
      ap (λ (n : ℕ). take n octets) ends.0 ∙ ap (λ (o : List ℕ). take (length text) o) whole ∙ take_words text (0 ∷ rest) in
      let others : drop (first_end (suc k) octets + 1) octets ≡ rest =
      ap (λ (n : ℕ). drop (n + 1) octets) ends.0 ∙ ap (λ (o : List ℕ). drop (length text + 1) o) whole ∙ drop_more text rest in
      let less : k ≡ suc k - 1 = omega arith in (
        next,
        behind,
        subst (λ (t : List ℕ). IsDeedBy framings opens (shown_of entry.record) t) (sym words) deed,
        subst (λ (o : List ℕ). Holds framings next entries (suc k - 1) o) (sym others)
            (subst (λ (n : ℕ). Holds framings next entries n rest) less (fits, more, ends.1)),
      )

  -- of no record
  none_further : (opens next : Opens) (octets : List ℕ) → Holds framings opens (entry ∷ entries) 0 octets
      → Holds framings next entries 0 (drop 1 octets)
  none_further opens next octets (within, none, parted) = (
    omega arith,
    ap (λ (o : List ℕ). drop 1 o) none,
    λ many. absurd (omega (arith, many)),
  )

  abbrev pub Goes : Before → Part → ℕ → List ℕ → Type 0
  Goes before part left octets =
      (opens : Opens) × AreOpens before.received before.sent opens
      × IsShownBy framings opens (shown_of entry.record) part (take (first_end left octets) octets)
      × IsBatch framings (before_behind (shown_of entry.record) before) entries (left - 1) (drop (first_end left octets + 1) octets)

  shown_by : (opens : Opens) (part : Part) (text : List ℕ) → IsDeedBy framings opens (shown_of entry.record) text
      → IsShownBy framings opens (shown_of entry.record) part text
  shown_by opens parts.Own text deed = deed
  shown_by opens parts.Last text deed = deed
  shown_by opens (parts.Sum count) text deed = tt
  shown_by opens parts.Summed text deed = tt

  not_shown : (opens : Opens) (part : Part) (text : List ℕ) → (HasWords part → 0 < 0) → IsShownBy framings opens (shown_of entry.record) part text
  not_shown opens parts.Own text none = absurd (let no = none tt in omega (arith, no))
  not_shown opens parts.Last text none = absurd (let no = none tt in omega (arith, no))
  not_shown opens (parts.Sum count) text none = tt
  not_shown opens parts.Summed text none = tt

  -- one record further: these are the last OPENs behind it
  pub goes : (before : Before) (part : Part) (left : ℕ) (octets : List ℕ) (later : Opens)
      → AreOpens (before_behind (shown_of entry.record) before).received (before_behind (shown_of entry.record) before).sent later
      → (HasWords part → 0 < left) → IsBatch framings before (entry ∷ entries) left octets → Goes before part left octets
  goes before part zero octets later are some (opens, known, holds) = (
    opens,
    known,
    not_shown opens part _ some,
    (later, are, none_further opens later octets holds),
  )
  goes before part (suc k) octets later are some (opens, known, holds) =
      let next = further opens (suc k) octets (omega arith) holds in (
        opens,
        known,
        shown_by opens part _ next.2,
        (next.0, next.1 before known, next.3),
      )

-- ---- the words of some, one record further

module _ (framings : Framings) (opens last next : Opens) (entries : List Entry) (i : ℕ) where
  pub one_deed : (d : Entry) → i < length entries → (so_far text : List ℕ)
      → ((behind : List ℕ) → AreDeeds framings last (drop i entries) behind → AreDeeds framings opens entries (so_far ++ behind))
      → IsDeedBy framings last (shown_of (get_or entries i d).record) text → IsBehind last (shown_of (get_or entries i d).record) next
      → (behind : List ℕ) → AreDeeds framings next (drop (i + 1) entries) behind
      → AreDeeds framings opens entries ((so_far ++ (text ++ 0 ∷ [])) ++ behind)
  one_deed d within so_far text more deed is_behind behind are =
      subst (λ (o : List ℕ). AreDeeds framings opens entries o)
      (sym (append_assoc so_far (text ++ 0 ∷ []) behind ∙ ap (λ (o : List ℕ). so_far ++ o) (append_assoc text (0 ∷ []) behind)))
      (more (text ++ 0 ∷ behind)
      (subst (λ (es : List Entry). AreDeeds framings last es (text ++ 0 ∷ behind)) (sym (rest_here entries i d within))
      (next, text, behind, is_behind, deed, are, refl)))

-- there is none further
pub all_deeds : (framings : Framings) (opens last : Opens) (entries : List Entry) (i : ℕ) → length entries ≤ i → (so_far : List ℕ)
    → ((behind : List ℕ) → AreDeeds framings last (drop i entries) behind → AreDeeds framings opens entries (so_far ++ behind))
    → AreDeeds framings opens entries so_far
all_deeds framings opens last entries i all so_far more =
    subst (λ (o : List ℕ). AreDeeds framings opens entries o) (append-nil so_far)
    (more [] (subst (λ (es : List Entry). AreDeeds framings last es []) (sym (drop_all i entries all)) refl))

-- ---- the words of none

pub holds_none : (framings : Framings) (before : Before) (opens : Opens) (entries : List Entry) (left : ℕ) (octets : List ℕ)
    → AreOpens before.received before.sent opens → left ≡ 0 → octets ≡ [] → IsBatch framings before entries left octets
holds_none framings before opens entries left octets are none empty =
    subst (λ (n : ℕ). IsBatch framings before entries n octets) (sym none)
    (subst (λ (o : List ℕ). IsBatch framings before entries 0 o) (sym empty) (opens, are, (omega arith, refl, λ many. absurd (omega (arith, many)))))

-- ---- a batch, one record further

pub shown_with : (framings : Framings) (opens : Opens) (shown : ShownRecord) (part : Part) (text words : List ℕ) → words ≡ text
    → IsShownBy framings opens shown part text → IsShownBy framings opens shown part words
shown_with framings opens shown part text words same is =
    subst (λ (t : List ℕ). IsShownBy framings opens shown part t) (sym same) is

pub passed : (framings : Framings) (before behind : Before) (entries : List Entry) (left less at later count end : ℕ) (octets same : List ℕ)
    → before ≡ behind → less ≡ left - 1 → end ≡ at + count → drop later octets ≡ drop (end + 1) octets → same ≡ octets
    → IsBatch framings before entries (left - 1) (drop (count + 1) (drop at octets)) → IsBatch framings behind entries less (drop later same)
passed framings before behind entries left less at later count end octets same were one ends further equal is =
    let sum : at + (count + 1) ≡ end + 1 = omega (arith, ends) in
    let rest : drop (count + 1) (drop at octets) ≡ drop later same =
    drop-drop (count + 1) at octets ∙ ap (λ (n : ℕ). drop n octets) sum ∙ sym further ∙ ap (λ (o : List ℕ). drop later o) (sym equal) in
    subst (λ (b : Before). IsBatch framings b entries less (drop later same)) were
    (subst (λ (n : ℕ). IsBatch framings before entries n (drop later same)) (sym one)
    (subst (λ (o : List ℕ). IsBatch framings before entries (left - 1) o) rest is))
