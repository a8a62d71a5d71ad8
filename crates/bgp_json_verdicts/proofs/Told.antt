-- Objects that are told in turn are told together.
use Rattle.std.proofs.Common.{◌≡◌, ◌∙◌, ◌++◌, ℕ, Bool, true, false, List, [], ◌∷◌, ap, append-nil, append_assoc, refl, subst, sym}
use Rattle.std.proofs.lemmas.Grind.{flat_map-append}
use Rattle.std.specs.List.{AllByRecursion, flat_map}
use Rattle.json.specs.Json.{Json}
use Rattle.mrt.specs.declared.sink.Sink as sinks
use Rattle.bgp_text.specs.Lines.{Writes}
use Rattle.bgp_text.specs.declared.lines.Lines.{Lines}
use Rattle.bgp_text.proofs.Pieces.{Joins, and_nothing, and_then, nothing_yet}
use Rattle.bgp_tool.specs.Line.{IsOneValue}
use Rattle.bgp_tool.specs.Object.{json_line}
use Rattle.bgp_json_verdicts.specs.Lines.{LineValue, line_text}
use Rattle.bgp_json_verdicts.specs.Objects.{counted_from, counted_with, line_json, objects_from}
use Rattle.bgp_json_verdicts.specs.Telling.{AreValues, PutsObjects, Tells, TellsText, lines_of}
use Rattle.bgp_json_verdicts.specs.declared.telling.Counts.{Counts}
use Rattle.bgp_json_verdicts.specs.declared.telling.Telling.{Telling}

-- ---- lists in two parts

all_both : {X : Type 0} (P : X → Type 0) (xs ys : List X) → AllByRecursion P xs → AllByRecursion P ys → AllByRecursion P (xs ++ ys)
all_both P [] ys all more = more
all_both P (x ∷ xs) ys all more = (all.0, all_both P xs ys all.1 more)

pub values_both : (xs ys : List Json) → AreValues xs → AreValues ys → AreValues (xs ++ ys)
values_both xs ys all more = all_both (λ value. IsOneValue (json_line value)) xs ys all more

pub objects_both : (counts : Counts) (xs ys : List LineValue) → objects_from counts (xs ++ ys) ≡ objects_from counts xs ++ objects_from (counted_from counts xs) ys
objects_both counts [] ys = refl
objects_both counts (x ∷ xs) ys =
    ap (λ (objects : List Json). line_json (counted_with counts x) x ∷ objects) (objects_both (counted_with counts x) xs ys)

pub counted_both : (counts : Counts) (xs ys : List LineValue) → counted_from counts (xs ++ ys) ≡ counted_from (counted_from counts xs) ys
counted_both counts [] ys = refl
counted_both counts (x ∷ xs) ys = counted_both (counted_with counts x) xs ys

-- ---- in turn

module _ {W : Type 0} {sink : sinks.Ghosts W} (law : Joins sink) (old middle new : Lines W sink) (xs ys : List Json) where
  pub and_put : (x y z : Bool) → PutsObjects old middle xs x y → PutsObjects middle new ys y z → PutsObjects old new (xs ++ ys) x z
  and_put false false false first second = (
    subst (λ (t : List ℕ). Writes old new t) (sym (flat_map-append json_line xs ys)) (and_then law first.0 second.0),
    values_both xs ys first.1 second.1,
  )
  and_put false false true first (text, part, wrote) = (
    lines_of xs ++ text,
    record {
      put = xs ++ part.put;
      left = part.left;
      whole = ap (λ (objects : List Json). xs ++ objects) part.whole ∙ sym (append_assoc xs part.put part.left);
      prints = ap (λ (t : List ℕ). lines_of xs ++ t) part.prints ∙ sym (flat_map-append json_line xs part.put);
      values = values_both xs part.put first.1 part.values;
    },
    and_then law first.0 wrote,
  )
  and_put false true true (text, part, wrote) second = (
    text,
    record {
      put = part.put;
      left = part.left ++ ys;
      whole = ap (λ (objects : List Json). objects ++ ys) part.whole ∙ append_assoc part.put part.left ys;
      prints = part.prints;
      values = part.values;
    },
    and_nothing law wrote second,
  )
  and_put true true true first second = and_nothing law first second
  and_put false true false first second = absurd second
  and_put true true false first second = absurd second
  and_put true false z first second = absurd first

-- what is calm in the end was calm before
calm_before : {W : Type 0} {sink : sinks.Ghosts W} (old new : Lines W sink) (objects : List Json) (y z : Bool) → PutsObjects old new objects y z → z ≡ false → y ≡ false
calm_before old new objects false z puts calm = refl
calm_before old new objects true true puts calm = calm
calm_before old new objects true false puts calm = absurd puts

module _ {W : Type 0} {sink : sinks.Ghosts W} (law : Joins sink) (old middle new : Lines W sink) where
  counted_on : (x y z : Bool) (counts between : Counts) (xs ys : List LineValue) → (y ≡ false → between ≡ counted_from counts xs)
      → PutsObjects old middle (objects_from counts xs) x y → PutsObjects middle new (objects_from between ys) y z → PutsObjects old new (objects_from counts (xs ++ ys)) x z
  counted_on x false z counts between xs ys counted first second =
      let next = subst (λ (c : Counts). PutsObjects middle new (objects_from c ys) false z) (counted refl) second in
      subst (λ (objects : List Json). PutsObjects old new objects x z) (sym (objects_both counts xs ys))
      (and_put law old middle new (objects_from counts xs) (objects_from (counted_from counts xs) ys) x false z first next)
  counted_on false true true counts between xs ys counted first second =
      subst (λ (objects : List Json). PutsObjects old new objects false true) (sym (objects_both counts xs ys))
      (and_put law old middle new (objects_from counts xs) (objects_from (counted_from counts xs) ys) false true true first second)
  counted_on true true true counts between xs ys counted first second = and_nothing law first second
  counted_on false true false counts between xs ys counted first second = absurd second
  counted_on true true false counts between xs ys counted first second = absurd second

-- lines were told, and then others
pub and_tell : {W : Type 0} {sink : sinks.Ghosts W} → Joins sink → {a b c : Telling} {old middle new : Lines W sink} {xs ys : List LineValue}
    → Tells a b old middle xs → Tells b c middle new ys → Tells a c old new (xs ++ ys)
and_tell law {a} {b} {c} {old} {middle} {new} {xs} {ys} first second = record {
  counted = λ calm.
      let before = calm_before middle new (objects_from b.counts ys) b.has_failed c.has_failed second.puts calm in
      second.counted calm ∙ ap (λ (counts : Counts). counted_from counts ys) (first.counted before) ∙ sym (counted_both a.counts xs ys);
  puts = counted_on law old middle new a.has_failed b.has_failed c.has_failed a.counts b.counts xs ys first.counted first.puts second.puts;
}

pub and_text : {W : Type 0} {sink : sinks.Ghosts W} → Joins sink → {a b c : Telling} {old middle new : Lines W sink} {t s : List ℕ}
    → TellsText a b old middle t → TellsText b c middle new s → TellsText a c old new (t ++ s)
and_text law {t} {s} (xs, is, told) (ys, so, more) = (
  xs ++ ys,
  flat_map-append line_text xs ys ∙ ap (λ (text : List ℕ). text ++ flat_map line_text ys) is ∙ ap (λ (text : List ℕ). t ++ text) so,
  and_tell law told more,
)

pub as_text : {W : Type 0} {sink : sinks.Ghosts W} {a b : Telling} {old new : Lines W sink} {xs : List LineValue} {text : List ℕ}
    → Tells a b old new xs → flat_map line_text xs ≡ text → TellsText a b old new text
as_text {xs} told is = (xs, is, told)

-- one line is its text
pub one_text : {W : Type 0} {sink : sinks.Ghosts W} {a b : Telling} {old new : Lines W sink} {x : LineValue} {text : List ℕ}
    → Tells a b old new (x ∷ []) → line_text x ≡ text → TellsText a b old new text
one_text {x} told is = (x ∷ [], append-nil (line_text x) ∙ is, told)

-- ---- nothing is put

module _ {W : Type 0} {sink : sinks.Ghosts W} (nothing : (a : W) → sink.takes a a []) (lines : Lines W sink) where
  none : Writes lines lines []
  none = nothing_yet sink nothing lines.outlet lines.held.items

  no_objects : (x : Bool) → PutsObjects lines lines [] x x
  no_objects false = (none, tt)
  no_objects true = none

  -- no lines were told
  pub nothing_told : (a : Telling) → Tells a a lines lines []
  nothing_told a = record { counted = λ calm. refl; puts = no_objects a.has_failed }

  pub no_text : (a : Telling) → TellsText a a lines lines []
  no_text a = ([], refl, nothing_told a)

  lacks : (x : Bool) (objects : List Json) → PutsObjects lines lines objects x true
  lacks false objects = ([], record { put = []; left = objects; whole = refl; prints = refl; values = tt }, none)
  lacks true objects = none

  -- memory was refused for a line
  pub failed : (a : Telling) (xs : List LineValue) → Tells a (record a { has_failed = true }) lines lines xs
  failed a xs = record {
    counted = λ calm. absurd (let k : ⊥ = cc in k);
    puts = lacks a.has_failed (objects_from a.counts xs);
  }

  still : (x : Bool) (objects : List Json) → x ≡ true → PutsObjects lines lines objects x x
  still true objects is = none
  still false objects is = absurd (let k : ⊥ = cc in k)

  -- or it had been refused before
  pub still_failed : (a : Telling) (xs : List LineValue) → a.has_failed ≡ true → Tells a a lines lines xs
  still_failed a xs is = record {
    counted = λ calm. absurd (let k : ⊥ = cc in k);
    puts = still a.has_failed (objects_from a.counts xs) is;
  }

-- ---- one line

module _ {W : Type 0} {sink : sinks.Ghosts W} (old new : Lines W sink) (a : Telling) (x : LineValue) where
  one_puts : (b : Bool) (one : Json) → b ≡ false → Writes old new (json_line one) → IsOneValue (json_line one) → PutsObjects old new (one ∷ []) b b
  one_puts false one calm wrote value = (subst (λ (t : List ℕ). Writes old new t) (sym (append-nil (json_line one))) wrote, (value, tt))
  one_puts true one calm wrote value = absurd (let k : ⊥ = cc in k)

  -- its object was put, with so many verdicts and ends up to it
  pub told_one : (after : Counts) → a.has_failed ≡ false → after ≡ counted_with a.counts x → Writes old new (json_line (line_json after x)) → IsOneValue (json_line (line_json after x))
      → Tells a (record a { counts = after }) old new (x ∷ [])
  told_one after calm is wrote value = record {
    counted = λ still. is;
    puts = one_puts a.has_failed (line_json (counted_with a.counts x) x) calm (subst (λ (c : Counts). Writes old new (json_line (line_json c x))) is wrote)
        (subst (λ (c : Counts). IsOneValue (json_line (line_json c x))) is value);
  }

  left_out : (b : Bool) (objects : List Json) → Writes old new [] → PutsObjects old new objects b true
  left_out false objects wrote = ([], record { put = []; left = objects; whole = refl; prints = refl; values = tt }, wrote)
  left_out true objects wrote = wrote

  -- memory was refused for it
  pub told_none : Writes old new [] → Tells a (record a { has_failed = true }) old new (x ∷ [])
  told_none wrote = record {
    counted = λ calm. absurd (let k : ⊥ = cc in k);
    puts = left_out a.has_failed (objects_from a.counts (x ∷ [])) wrote;
  }
