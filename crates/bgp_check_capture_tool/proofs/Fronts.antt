-- The first stretch of records, and what is told of those before it.
use Rattle.std.proofs.Common.{◌≡◌, ◌∙◌, ◌+◌, ◌<◌, ◌++◌, ℕ, suc, Bool, true, false, List, [], ◌∷◌, refl, sym, ap, subst, append-nil, arith, codes, drop, length, map, take}
use Rattle.std.proofs.Math.Seq.{take-append_seam}
use Rattle.std.proofs.lemmas.List.{length-map, take-map, drop-map}
use Rattle.bgp_prefix.specs.Shown.{ShownRecord}
use Rattle.bgp_prefix.specs.declared.address.Address.{Address}
use Rattle.mrt.specs.Reader.{shown_of}
use Rattle.mrt.specs.declared.record.Record.{Record}
use Rattle.bgp_machine.specs.Lists.{Each}
use Rattle.bgp_check.specs.Stretch.{LeavesIdle}
use Rattle.bgp_check.specs.declared.not_judged.NotJudged.TheVariants.{NothingSent}
use Rattle.bgp_check.specs.BeforeLeaving.{IsAtLeaving, IsBeforeLeaving}
use Rattle.bgp_check_lines.specs.Text.{why_text}
use Rattle.bgp_check_lines.specs.Tally.{with_unjudged}
use Rattle.bgp_check_lines.specs.DeclaredTally.{Tally}
use Rattle.bgp_check_capture_tool.specs.Counted.{with_ends}
use Rattle.bgp_check_capture_tool.specs.Ends.{front_ends, silent_ends}
use Rattle.bgp_check_capture_tool.specs.Stretches.{IsFirst}
use Rattle.bgp_check_capture_tool.specs.Text.{ends_text, unjudged_line}

drop_seam : {X : Type 0} (xs ys : List X) → drop (length xs) (xs ++ ys) ≡ ys
drop_seam [] ys = refl
drop_seam (x ∷ xs) ys = drop_seam xs ys

-- records of which so many stand before the first that leaves Idle
pub taken_are : (records : List Record) (n : ℕ) (is : IsBeforeLeaving (map shown_of records) n) → map shown_of (take n records) ≡ is.front
taken_are records n is =
    sym (take-map shown_of n records) ∙ ap (take n) is.whole ∙ ap (λ m. take m (is.front ++ is.rest)) is.many ∙ take-append_seam is.front is.rest

pub left_are : (records : List Record) (n : ℕ) (is : IsBeforeLeaving (map shown_of records) n) → map shown_of (drop n records) ≡ is.rest
left_are records n is =
    sym (drop-map shown_of n records) ∙ ap (drop n) is.whole ∙ ap (λ m. drop m (is.front ++ is.rest)) is.many ∙ drop_seam is.front is.rest

pub first_cut : (records : List Record) (n : ℕ) → 0 < length records → IsAtLeaving (map shown_of records) → IsBeforeLeaving (map shown_of (drop 1 records)) n
    → IsFirst (map shown_of records) (map shown_of (take (1 + n) records)) (map shown_of (drop (1 + n) records))
first_cut [] n some leaving is = absurd (omega (arith, some))
first_cut (r ∷ records) n some leaving is =
    let one : 1 + n ≡ suc n = omega arith in
    subst (λ (m : ℕ). IsFirst (map shown_of (r ∷ records)) (map shown_of (take m (r ∷ records))) (map shown_of (drop m (r ∷ records)))) (sym one) record {
      whole = ap (λ (rest : List ShownRecord). shown_of r ∷ rest)
          (is.whole ∙ ap (λ (front : List ShownRecord). front ++ is.rest) (sym (taken_are records n is)) ∙ ap (λ (rest : List ShownRecord). map shown_of (take n records) ++ rest) (sym (left_are records n is)));
      stretched = (leaving, subst (Each (λ shown. ¬ LeavesIdle shown)) (sym (taken_are records n is)) is.none);
      next = subst IsAtLeaving (sym (left_are records n is)) is.next;
    }

-- ---- what is told of records at once

pub staying_text : (routes : Bool) (local : Address) (records : List Record) → 0 < length records
    → unjudged_line local (length records) (codes "these records do not begin with a change from Idle") ≡ ends_text (record { routes = routes; quiet = false }) local (front_ends (map shown_of records))
staying_text routes local [] some = absurd (omega (arith, some))
staying_text routes local (r ∷ records) some =
    ap (λ n. unjudged_line local n (codes "these records do not begin with a change from Idle")) (sym (length-map (r ∷ records) shown_of)) ∙ sym (append-nil _)

pub silent_text : (routes : Bool) (local : Address) (records : List Record) → 0 < length records
    → unjudged_line local (length records) (why_text NothingSent) ≡ ends_text (record { routes = routes; quiet = false }) local (silent_ends (map shown_of records))
silent_text routes local [] some = absurd (omega (arith, some))
silent_text routes local (r ∷ records) some =
    ap (λ n. unjudged_line local n (why_text NothingSent)) (sym (length-map (r ∷ records) shown_of)) ∙ sym (append-nil _)

pub staying_counted : (tally : Tally) (records : List Record) → 0 < length records → with_unjudged tally true ≡ with_ends tally (front_ends (map shown_of records))
staying_counted tally [] some = absurd (omega (arith, some))
staying_counted tally (r ∷ records) some = refl

pub silent_counted : (tally : Tally) (records : List Record) → 0 < length records → with_unjudged tally true ≡ with_ends tally (silent_ends (map shown_of records))
silent_counted tally [] some = absurd (omega (arith, some))
silent_counted tally (r ∷ records) some = refl
