-- One row more.
use Rattle.std.proofs.Common.{◌≡◌, ◌∙◌, ◌++◌, ◌+◌, ◌-◌, ◌<◌, ℕ, List, [], ◌∷◌, Option, None, Some, append-nil, append_assoc, arith, drop, get_or, if◌then◌else◌, length, length-take-le, refl, reverse, sym, ap, subst, take}
use Rattle.std.proofs.lemmas.List.{get_or-drop, take_more}
use Rattle.std.specs.List.{last_or}
use Rattle.std.specs.Prelude.{Bool, true, false, nat_lt}
use Rattle.mrt.specs.Reader.{shown_of}
use Rattle.mrt.specs.declared.sink.Sink as sinks
use Rattle.bgp_text.specs.Lines.{Writes}
use Rattle.bgp_text.specs.declared.lines.Lines.{Lines}
use Rattle.bgp_text.proofs.Pieces.{Joins, and_then}
use Rattle.bgp_html.specs.Pieces.{Piece, html_of}
use Rattle.bgp_ladder.proofs.Ends.{together}
use Rattle.bgp_ladder.proofs.InRuns.{is_behind, is_whole, rest_here}
use Rattle.bgp_lines.specs.Form.{Before, before_behind, nothing_before}
use Rattle.bgp_recording.specs.declared.entry.Entry.{Entry}
use Rattle.bgp_values.specs.Opens.{AreOpens}
use Rattle.bgp_values.specs.declared.opens.Opens.{Opens}
use Rattle.bgp_ladder.specs.Ladder.{AreRowsBefore, AreRowsBetween, IsEntryOf, IsRow, PutsRowsBefore, before_in, greatest_in, part_in, summed_last}
use Rattle.bgp_ladder.specs.Runs.{IsRun, part_of, run_before, run_behind}
use Rattle.bgp_ladder.specs.declared.rows.Ladder.{Ladder}
use Rattle.bgp_ladder.specs.declared.runs.Part.{Part}
use Rattle.bgp_ladder.specs.declared.runs.Run.{Run}

last_of : (o : Option Entry) (xs : List Entry) (x : Entry) → last_or o (xs ++ x ∷ []) ≡ Some x
last_of o [] x = refl
last_of o (y ∷ ys) x = last_of (Some y) ys x

before_of : (b : Before) (xs : List Entry) (x : Entry) → before_in b (xs ++ x ∷ []) ≡ before_behind (shown_of x.record) (before_in b xs)
before_of b [] x = refl
before_of b (y ∷ ys) x = before_of (before_behind (shown_of y.record) b) ys x

greatest_by : (x : Bool) (a b : ℕ) (xs : List Entry) (e : Entry) → ((n : ℕ) → greatest_in n (xs ++ e ∷ []) ≡ greatest_in (greatest_in n xs) (e ∷ []))
    → (if x then greatest_in a (xs ++ e ∷ []) else greatest_in b (xs ++ e ∷ [])) ≡ greatest_in (if x then greatest_in a xs else greatest_in b xs) (e ∷ [])
greatest_by true a b xs e rest = rest a
greatest_by false a b xs e rest = rest b

greatest_of : (xs : List Entry) (e : Entry) (n : ℕ) → greatest_in n (xs ++ e ∷ []) ≡ greatest_in (greatest_in n xs) (e ∷ [])
greatest_of [] e n = refl
greatest_of (y ∷ ys) e n = greatest_by (nat_lt n y.packet) y.packet n ys e (greatest_of ys e)

module _ (ladder : Ladder) (possible : List ℕ) where
  one_row : (earlier xs later : List Entry) (x : Entry) (pieces row : List Piece) → AreRowsBetween ladder possible earlier xs (x ∷ later) pieces
      → IsRow ladder possible (earlier ++ xs) x later row → AreRowsBetween ladder possible earlier (xs ++ x ∷ []) later (pieces ++ row)
  one_row earlier [] later x pieces row are is = (
    row,
    [],
    subst (λ (es : List Entry). IsRow ladder possible es x later row) (append-nil earlier) is,
    refl,
    ap (λ (ps : List Piece). ps ++ row) are ∙ sym (append-nil row),
  )
  one_row earlier (y ∷ ys) later x pieces row (first, rest, its, more, whole) is = (
    first,
    rest ++ row,
    subst (λ (es : List Entry). IsRow ladder possible earlier y es first) (sym (append_assoc ys (x ∷ []) later)) its,
    one_row (earlier ++ y ∷ []) ys later x rest row more (subst (λ (es : List Entry). IsRow ladder possible es x later row) (sym (append_assoc earlier (y ∷ []) ys)) is),
    ap (λ (ps : List Piece). ps ++ row) whole ∙ append_assoc first rest row,
  )

-- what is known before the entry with this number
pub record Known (entries : List Entry) (i : ℕ) (previous : Option Entry) (greatest : ℕ) (opens : Opens) : Type 0 where
  pub last : previous ≡ last_or None (take i entries)
  pub most : greatest ≡ greatest_in 0 (take i entries)
  pub opened : AreOpens (before_in nothing_before (take i entries)).received (before_in nothing_before (take i entries)).sent opens

module _ (ladder : Ladder) (possible : List ℕ) (entries : List Entry) (i : ℕ) (d : Entry) (within : i < length entries) where
  abbrev it : Entry
  it = get_or entries i d

  -- its part
  pub its_part : (run : Run) (part : Part) → IsRun ladder (reverse (take (i + 1) entries)) (drop (i + 1) entries) run
      → ((before : ℕ) → run.length ≡ before + 1 + run.behind → part ≡ part_of before run.behind)
      → part ≡ part_in ladder (take i entries) it (drop (i + 1) entries)
  its_part run part is parted =
      let count : i ≡ length (take i entries) = sym (length-take-le i entries (omega (arith, within))) in
      parted _ (is_whole ladder entries i d within run is)
      ∙ ap (λ (n : ℕ). part_of (run_before ladder (shown_of it.record) (reverse (take i entries))) n)
      (is_behind ladder entries i d within run is
      ∙ ap (λ (n : ℕ). run_behind ladder n (shown_of it.record) (drop (i + 1) entries)) count)

  -- the last one that its row would sum up
  pub its_last : (run : Run) (last : Entry) → IsRun ladder (reverse (take (i + 1) entries)) (drop (i + 1) entries) run
      → ((e : Entry) → last ≡ get_or entries (i + (run.behind - 1)) e) → last ≡ summed_last ladder (take i entries) it (drop (i + 1) entries)
  its_last run last is known =
      let count : i ≡ length (take i entries) = sym (length-take-le i entries (omega (arith, within))) in
      let same : run.behind ≡ run_behind ladder (length (take i entries)) (shown_of it.record) (drop (i + 1) entries) =
      is_behind ladder entries i d within run is ∙ ap (λ (n : ℕ). run_behind ladder n (shown_of it.record) (drop (i + 1) entries)) count in
      known it ∙ sym (get_or-drop i entries (run.behind - 1) it)
      ∙ ap (λ (es : List Entry). get_or es (run.behind - 1) it) (rest_here entries i d within)
      ∙ ap (λ (n : ℕ). get_or (it ∷ drop (i + 1) entries) (n - 1) it) same

  module _ (previous : Option Entry) (greatest : ℕ) (opens : Opens) (last : Entry) (part : Part) (row : List Piece) where
    next_row : Known entries i previous greatest opens → last ≡ summed_last ladder (take i entries) it (drop (i + 1) entries)
        → part ≡ part_in ladder (take i entries) it (drop (i + 1) entries)
        → IsEntryOf ladder possible opens greatest previous i it last part row → IsRow ladder possible (take i entries) it (drop (i + 1) entries) row
    next_row known to is shows =
        let count : i ≡ length (take i entries) = sym (length-take-le i entries (omega (arith, within))) in
        let end = summed_last ladder (take i entries) it (drop (i + 1) entries) in (
          opens,
          known.opened,
          subst (λ (p : Part). IsEntryOf ladder possible opens (greatest_in 0 (take i entries)) (last_or None (take i entries)) (length (take i entries)) it end p row) is
              (subst (λ (e : Entry). IsEntryOf ladder possible opens (greatest_in 0 (take i entries)) (last_or None (take i entries)) (length (take i entries)) it e part row) to
              (subst (λ (n : ℕ). IsEntryOf ladder possible opens (greatest_in 0 (take i entries)) (last_or None (take i entries)) n it last part row) count
              (subst (λ (o : Option Entry). IsEntryOf ladder possible opens (greatest_in 0 (take i entries)) o i it last part row) known.last
              (subst (λ (g : ℕ). IsEntryOf ladder possible opens g previous i it last part row) known.most shows)))),
        )

    -- and it was put
    pub next_rows : {W : Type 0} {sink : sinks.Ghosts W} {a b c : Lines W sink} → Joins sink → Known entries i previous greatest opens
        → last ≡ summed_last ladder (take i entries) it (drop (i + 1) entries) → part ≡ part_in ladder (take i entries) it (drop (i + 1) entries)
        → PutsRowsBefore ladder possible (take i entries) (drop i entries) a b → IsEntryOf ladder possible opens greatest previous i it last part row
        → Writes b c (html_of row) → PutsRowsBefore ladder possible (take (i + 1) entries) (drop (i + 1) entries) a c
    next_rows {W} {sink} {a} {b} {c} law known to is puts shows put =
        let are : AreRowsBefore ladder possible (take i entries) (it ∷ drop (i + 1) entries) puts.0 =
        subst (λ (es : List Entry). AreRowsBefore ladder possible (take i entries) es puts.0) (rest_here entries i d within) puts.1 in (
          puts.0 ++ row,
          subst (λ (es : List Entry). AreRowsBefore ladder possible es (drop (i + 1) entries) (puts.0 ++ row)) (sym (take_more entries i d within))
              (one_row ladder possible [] (take i entries) (drop (i + 1) entries) it puts.0 row are (next_row known to is shows)),
          together puts.0 row (and_then law puts.2 put),
        )

-- ---- what is known before the one behind it

module _ (entries : List Entry) (i : ℕ) (d : Entry) (within : i < length entries) where
  next_last : (previous : Option Entry) → previous ≡ Some (get_or entries i d) → previous ≡ last_or None (take (i + 1) entries)
  next_last previous is =
      is ∙ sym (last_of None (take i entries) (get_or entries i d)) ∙ ap (λ (es : List Entry). last_or None es) (sym (take_more entries i d within))

  next_most : (greatest more : ℕ) → greatest ≡ greatest_in 0 (take i entries) → more ≡ greatest_in greatest (get_or entries i d ∷ [])
      → more ≡ greatest_in 0 (take (i + 1) entries)
  next_most greatest more was is =
      is ∙ ap (λ (g : ℕ). greatest_in g (get_or entries i d ∷ [])) was ∙ sym (greatest_of (take i entries) (get_or entries i d) 0)
      ∙ ap (λ (es : List Entry). greatest_in 0 es) (sym (take_more entries i d within))

  pub next_before : before_behind (shown_of (get_or entries i d).record) (before_in nothing_before (take i entries)) ≡ before_in nothing_before (take (i + 1) entries)
  next_before =
      sym (before_of nothing_before (take i entries) (get_or entries i d)) ∙ ap (λ (es : List Entry). before_in nothing_before es) (sym (take_more entries i d within))

  pub next_known : (previous previous' : Option Entry) (greatest greatest' : ℕ) (opens opens' : Opens) → Known entries i previous greatest opens
      → previous' ≡ Some (get_or entries i d) → greatest' ≡ greatest_in greatest (get_or entries i d ∷ [])
      → ((before : Before) → AreOpens before.received before.sent opens
      → AreOpens (before_behind (shown_of (get_or entries i d).record) before).received (before_behind (shown_of (get_or entries i d).record) before).sent opens')
      → Known entries (i + 1) previous' greatest' opens'
  next_known previous previous' greatest greatest' opens opens' known last most opened = record {
    last = next_last previous' last;
    most = next_most greatest greatest' known.most most;
    opened = subst (λ (b : Before). AreOpens b.received b.sent opens') next_before (opened _ known.opened);
  }
