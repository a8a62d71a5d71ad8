-- Records that can be shown, one by one.
use Rattle.std.proofs.Common.{◌≡◌, ◌+◌, ◌<◌, ◌≤◌, ◌↔◌, ◌∷◌, ℕ, List, subst, sym, length, drop, get_or, add-one, map}
use Rattle.std.proofs.Math.ListN.{drop_of_length-le}
use Rattle.std.proofs.Math.Seq.{drop-cons}
use Rattle.std.specs.List.{AllByRecursion}
use Rattle.bgp_prefix.specs.Shown.{ShownRecord}
use Rattle.mrt.specs.Reader.{shown_of}
use Rattle.mrt.specs.declared.record.Record.{Record}

module _ (Holds : ShownRecord → Type 0) (records : List Record) (i : ℕ) (d : Record) where
  rest_here : i < length records → drop i records ≡ get_or records i d ∷ drop (i + 1) records
  rest_here within = rw add-one (drop-cons records i d within)

  pub one_more : i < length records → Holds (shown_of (get_or records i d))
      → AllByRecursion Holds (map shown_of (drop i records)) ↔ AllByRecursion Holds (map shown_of records)
      → AllByRecursion Holds (map shown_of (drop (i + 1) records)) ↔ AllByRecursion Holds (map shown_of records)
  one_more within holds same = (
    λ later. same.0 (subst (λ (rs : List Record). AllByRecursion Holds (map shown_of rs)) (sym (rest_here within)) (holds, later)),
    λ all. (subst (λ (rs : List Record). AllByRecursion Holds (map shown_of rs)) (rest_here within) (same.1 all)).1,
  )

  pub one_not : i < length records → ¬ Holds (shown_of (get_or records i d))
      → AllByRecursion Holds (map shown_of (drop i records)) ↔ AllByRecursion Holds (map shown_of records)
      → ¬ AllByRecursion Holds (map shown_of records)
  one_not within never same all = never (subst (λ (rs : List Record). AllByRecursion Holds (map shown_of rs)) (rest_here within) (same.1 all)).0

-- at the end none is left
pub none_left : (Holds : ShownRecord → Type 0) (records : List Record) (i : ℕ) → length records ≤ i
    → AllByRecursion Holds (map shown_of (drop i records)) ↔ AllByRecursion Holds (map shown_of records) → AllByRecursion Holds (map shown_of records)
none_left Holds records i past same = same.0 (subst (λ (rs : List Record). AllByRecursion Holds (map shown_of rs)) (sym (drop_of_length-le records past)) tt)
