-- Runs, one record further.
use Rattle.std.proofs.Common.{◌≡◌, ◌∙◌, ◌+◌, ◌-◌, ◌<◌, ◌≤◌, ℕ, Bool, true, false, List, [], ◌∷◌, add-one, ap, arith, drop, get_or, if◌then◌else◌, length, length-take-le, refl, reverse, subst, sym, take}
use Rattle.std.proofs.Math.ListN.{length-reverse}
use Rattle.std.proofs.Math.Seq.{drop-cons}
use Rattle.std.proofs.lemmas.List.{drop_all, length-drop, reverse-append, take_more}
use Rattle.bgp_prefix.specs.Shown.{ShownRecord}
use Rattle.mrt.specs.Reader.{shown_of}
use Rattle.bgp_recording.specs.declared.entry.Entry.{Entry}
use Rattle.std.specs.Prelude.{◌==◌, ◌||◌, nat_le}
use Rattle.bgp_ladder.specs.Ladder.{LastWithin}
use Rattle.bgp_ladder.specs.Runs.{IsRun, are_linked, part_of, run_at, run_before, run_behind}
use Rattle.bgp_ladder.specs.declared.rows.Ladder.{Ladder}
use Rattle.bgp_ladder.specs.declared.runs.Part.TheVariants as parts
use Rattle.bgp_ladder.specs.declared.runs.Run.{Run}

-- ---- entries, cut at one of them

module _ (entries : List Entry) (i : ℕ) (d : Entry) (within : i < length entries) where
  pub rest_here : drop i entries ≡ get_or entries i d ∷ drop (i + 1) entries
  rest_here = rw add-one (drop-cons entries i d within)

  pub before_here : reverse (take (i + 1) entries) ≡ get_or entries i d ∷ reverse (take i entries)
  before_here = ap reverse (take_more entries i d within) ∙ reverse-append (take i entries) (get_or entries i d ∷ [])

-- one of them
pub some_of : (entries : List Entry) (i : ℕ) → i < length entries → Entry
some_of [] i within = absurd (omega (arith, within))
some_of (d ∷ entries) i within = d

-- ---- how many are behind

linked_by : (x : Bool) (n m : ℕ) → x ≡ true → (if x then n + 1 else 0) ≡ n + 1
linked_by true n m is = refl
linked_by false n m is = cc

unlinked_by : (x : Bool) (n : ℕ) → x ≡ false → (if x then n + 1 else 0) ≡ 0
unlinked_by true n is = cc
unlinked_by false n is = refl

at_most_by : (x : Bool) (n m : ℕ) → n ≤ m → (if x then n + 1 else 0) ≤ m + 1
at_most_by true n m most = omega (arith, most)
at_most_by false n m most = omega arith

pub at_most : (ladder : Ladder) (number : ℕ) (shown : ShownRecord) (entries : List Entry) → run_behind ladder number shown entries ≤ length entries
at_most ladder number shown [] = omega arith
at_most ladder number shown (next ∷ entries) =
    let most = at_most ladder (number + 1) (shown_of next.record) entries in
    let by = at_most_by (are_linked ladder number shown (shown_of next.record)) (run_behind ladder (number + 1) (shown_of next.record) entries) (length entries) most in
    omega (arith, by)

-- of the entry with this number
module _ (ladder : Ladder) (entries : List Entry) (i : ℕ) (d : Entry) where
  abbrev here : Entry
  here = get_or entries i d

  abbrev next : Entry
  next = get_or entries (i + 1) d

  are_here : i + 1 < length entries → drop i entries ≡ here ∷ next ∷ drop (i + 1 + 1) entries
  are_here within =
      rest_here entries i d (omega (arith, within)) ∙ ap (λ (es : List Entry). here ∷ es) (rest_here entries (i + 1) d within)

  next_here : i + 1 < length entries → drop (i + 1) entries ≡ next ∷ drop (i + 1 + 1) entries
  next_here within = rest_here entries (i + 1) d within

  -- the next belongs to its run
  pub one_more : i + 1 < length entries → are_linked ladder i (shown_of here.record) (shown_of next.record) ≡ true
      → run_at ladder i (drop i entries) ≡ run_at ladder (i + 1) (drop (i + 1) entries) + 1
  one_more within linked =
      let there : run_at ladder (i + 1) (drop (i + 1) entries) ≡ run_behind ladder (i + 1) (shown_of next.record) (drop (i + 1 + 1) entries) =
      ap (λ (es : List Entry). run_at ladder (i + 1) es) (next_here within) in
      ap (λ (es : List Entry). run_at ladder i es) (are_here within)
      ∙ linked_by _ (run_behind ladder (i + 1) (shown_of next.record) (drop (i + 1 + 1) entries)) 0 linked
      ∙ ap (λ (n : ℕ). n + 1) (sym there)

  -- or doesn't
  pub no_more : i + 1 < length entries → are_linked ladder i (shown_of here.record) (shown_of next.record) ≡ false
      → run_at ladder i (drop i entries) ≡ 0
  no_more within unlinked =
      ap (λ (es : List Entry). run_at ladder i es) (are_here within)
      ∙ unlinked_by _ (run_behind ladder (i + 1) (shown_of next.record) (drop (i + 1 + 1) entries)) unlinked

  -- or there is none
  none_more : i + 1 ≡ length entries → run_at ladder i (drop i entries) ≡ 0
  none_more all =
      let rest : drop (i + 1) entries ≡ [] = drop_all (i + 1) entries (omega (arith, all)) in
      ap (λ (es : List Entry). run_at ladder i es) (rest_here entries i d (omega (arith, all)))
      ∙ ap (λ (es : List Entry). run_behind ladder i (shown_of here.record) es) rest

-- as of the last entry
pub last_here : (ladder : Ladder) (entries : List Entry) (i : ℕ) → i + 1 ≡ length entries → run_at ladder i (drop i entries) ≡ 0
last_here ladder [] i all = absurd (omega (arith, all))
last_here ladder (d ∷ entries) i all = none_more ladder (d ∷ entries) i d all

longer : (e : Entry) (es : List Entry) → length es + 1 ≡ length (e ∷ es)
longer e es = omega arith

-- ---- the run of the next

next_by : (ladder : Ladder) (run : Run) (before behind : ℕ) (x : Bool) → 0 < run.behind
    → run.behind ≡ (if x then behind + 1 else 0) → run.length ≡ before + 1 + run.behind
    → (run.behind - 1 ≡ behind) × (run.length ≡ (if x then before + 1 else 0) + 1 + (run.behind - 1))
next_by ladder run before behind true some is whole = (omega (arith, is), omega (arith, is, whole, some))
next_by ladder run before behind false some is whole = absurd (omega (arith, is, some))

first_by : (run : Run) (before behind : ℕ) (x : Bool) → run.behind ≡ 0 → run.behind ≡ (if x then behind + 1 else 0) → (if x then before + 1 else 0) ≡ 0
first_by run before behind true none is = absurd (omega (arith, is, none))
first_by run before behind false none is = refl

module _ (ladder : Ladder) (run : Run) (entry : Entry) (later : List Entry) where
  -- one goes on
  goes_on : (earlier : List Entry) (more : Run) → 0 < run.behind → IsRun ladder earlier (entry ∷ later) run
      → more.length ≡ run.length → more.behind ≡ run.behind - 1 → IsRun ladder (entry ∷ earlier) later more
  goes_on [] more some is same less = absurd (omega (arith, is, some))
  goes_on (previous ∷ earlier) more some (behind, whole) same less =
      let length_is : length earlier + 1 ≡ length (previous ∷ earlier) = longer previous earlier in
      let next = next_by ladder run (run_before ladder (shown_of previous.record) earlier) (run_behind ladder (length earlier + 1) (shown_of entry.record) later)
      (are_linked ladder (length earlier) (shown_of previous.record) (shown_of entry.record)) some behind whole in (
        less ∙ next.0 ∙ ap (λ (n : ℕ). run_behind ladder n (shown_of entry.record) later) length_is,
        same ∙ next.1 ∙ ap (λ (n : ℕ). run_before ladder (shown_of entry.record) (previous ∷ earlier) + 1 + n) (sym less),
      )

  -- none does
  begins : (earlier : List Entry) → run.behind ≡ 0 → IsRun ladder earlier (entry ∷ later) run → run_before ladder (shown_of entry.record) earlier ≡ 0
  begins [] none is = refl
  begins (previous ∷ earlier) none (behind, whole) =
      first_by run (run_before ladder (shown_of previous.record) earlier) (run_behind ladder (length earlier + 1) (shown_of entry.record) later)
      (are_linked ladder (length earlier) (shown_of previous.record) (shown_of entry.record)) none behind

count_of : (i : ℕ) (entries : List Entry) → i < length entries → length (reverse (take i entries)) ≡ i
count_of i entries within = length-reverse (take i entries) ∙ length-take-le i entries (omega (arith, within))

module _ (ladder : Ladder) (entries : List Entry) (i : ℕ) (d : Entry) (within : i < length entries) (run more : Run)
    (is : IsRun ladder (reverse (take i entries)) (drop i entries) run) where
  abbrev it : Entry
  it = get_or entries i d

  its : IsRun ladder (reverse (take i entries)) (it ∷ drop (i + 1) entries) run
  its = subst (λ (es : List Entry). IsRun ladder (reverse (take i entries)) es run) (rest_here entries i d within) is

  so : IsRun ladder (it ∷ reverse (take i entries)) (drop (i + 1) entries) more → IsRun ladder (reverse (take (i + 1) entries)) (drop (i + 1) entries) more
  so next = subst (λ (es : List Entry). IsRun ladder es (drop (i + 1) entries) more) (sym (before_here entries i d within)) next

  pub run_goes_on : 0 < run.behind → more.length ≡ run.length → more.behind ≡ run.behind - 1 → IsRun ladder (reverse (take (i + 1) entries)) (drop (i + 1) entries) more
  run_goes_on some same less = so (goes_on ladder run it (drop (i + 1) entries) (reverse (take i entries)) more some its same less)

  pub run_begins : run.behind ≤ 0 → more.behind ≡ run_at ladder i (drop i entries) → more.length ≡ more.behind + 1 → IsRun ladder (reverse (take (i + 1) entries)) (drop (i + 1) entries) more
  run_begins none counted longer =
      let first = begins ladder run it (drop (i + 1) entries) (reverse (take i entries)) (omega (arith, none)) its in
      so (
        counted ∙ ap (λ (es : List Entry). run_at ladder i es) (rest_here entries i d within)
            ∙ ap (λ (n : ℕ). run_behind ladder n (shown_of it.record) (drop (i + 1) entries)) (sym (count_of i entries within)),
        omega (arith, longer, first),
      )

-- ---- how the record with this number stands

module _ (ladder : Ladder) (entries : List Entry) (i : ℕ) (d : Entry) (within : i < length entries) (run : Run)
    (is : IsRun ladder (reverse (take (i + 1) entries)) (drop (i + 1) entries) run) where
  its_run : IsRun ladder (get_or entries i d ∷ reverse (take i entries)) (drop (i + 1) entries) run
  its_run = subst (λ (es : List Entry). IsRun ladder es (drop (i + 1) entries) run) (before_here entries i d within) is

  pub is_behind : run.behind ≡ run_behind ladder i (shown_of (get_or entries i d).record) (drop (i + 1) entries)
  is_behind = its_run.0 ∙ ap (λ (n : ℕ). run_behind ladder n (shown_of (get_or entries i d).record) (drop (i + 1) entries)) (count_of i entries within)

  pub is_whole : run.length ≡ run_before ladder (shown_of (get_or entries i d).record) (reverse (take i entries)) + 1 + run.behind
  is_whole = its_run.1

  pub is_within : i + run.behind < length entries
  is_within =
      let most = at_most ladder i (shown_of (get_or entries i d).record) (drop (i + 1) entries) in
      let same = is_behind in
      let rest = length-drop (i + 1) entries in
      omega (arith, most, same, rest, within)

-- ---- the last record that a row sums up

last_by : (most number behind : ℕ) (a b c : Bool) → number + behind < most
    → LastWithin most number (if a then parts.Own else if b then parts.Last else if c then parts.Sum behind else parts.Summed)
last_by most number behind true b c within = tt
last_by most number behind false true c within = tt
last_by most number behind false false true within = within
last_by most number behind false false false within = tt

pub last_within : (most number before behind : ℕ) → number + behind < most → LastWithin most number (part_of before behind)
last_within most number before behind within =
    last_by most number behind (nat_le (before + 1 + behind) 40 || before == 0) (behind == 0) (before == 1) within
