-- Objects that are told in turn are told together.
use Rattle.std.proofs.Common.{◌≡◌, ◌∙◌, ◌++◌, ℕ, Bool, true, false, List, [], ◌∷◌, ap, append-nil, refl, subst, sym}
use Rattle.json.specs.Json.{Json}
use Rattle.mrt.specs.declared.sink.Sink as sinks
use Rattle.bgp_text.specs.Lines.{Writes}
use Rattle.bgp_text.specs.declared.lines.Lines.{Lines}
use Rattle.bgp_text.proofs.Pieces.{Joins, and_nothing, nothing_yet}
use Rattle.bgp_json.specs.Line.{IsOneValue}
use Rattle.bgp_json.specs.Object.{json_line}
use Rattle.bgp_json_verdicts.specs.Telling.{AreValues, PutsObjects, lines_of}
use Rattle.bgp_json_verdicts.proofs.Told.{and_put}
use Rattle.bgp_json_check.specs.Telling.{Tells, TellsUpTo}
use Rattle.bgp_json_check.specs.declared.teller.CheckTeller.{CheckTeller}

-- what is calm in the end was calm before
calm_before : {W : Type 0} {sink : sinks.Ghosts W} (old new : Lines W sink) (objects : List Json) (y z : Bool) → PutsObjects old new objects y z → z ≡ false → y ≡ false
calm_before old new objects false z puts calm = refl
calm_before old new objects true true puts calm = calm
calm_before old new objects true false puts calm = absurd puts

module _ {W : Type 0} {sink : sinks.Ghosts W} (law : Joins sink) (old middle new : Lines W sink) where
  put_on : (x y z : Bool) (between judged : ℕ) (xs : List Json) (ys : ℕ → List Json) → (y ≡ false → between ≡ judged)
      → PutsObjects old middle xs x y → PutsObjects middle new (ys between) y z → PutsObjects old new (xs ++ ys judged) x z
  put_on x false z between judged xs ys counted first second =
      and_put law old middle new xs (ys judged) x false z first (subst (λ (n : ℕ). PutsObjects middle new (ys n) false z) (counted refl) second)
  put_on false true true between judged xs ys counted first second = and_put law old middle new xs (ys judged) false true true first second
  put_on true true true between judged xs ys counted first second = and_nothing law first second
  put_on false true false between judged xs ys counted first second = absurd second
  put_on true true false between judged xs ys counted first second = absurd second

-- objects were told, and then others, by how many verdicts there were
pub and_tell_on : {W : Type 0} {sink : sinks.Ghosts W} → Joins sink → {a b c : CheckTeller} {old middle new : Lines W sink} {judged : ℕ} {xs : List Json} (next : ℕ → ℕ) (ys : ℕ → List Json)
    → TellsUpTo a b old middle judged xs → TellsUpTo b c middle new (next b.judged) (ys b.judged) → TellsUpTo a c old new (next judged) (xs ++ ys judged)
and_tell_on law {a} {b} {c} {old} {middle} {new} {judged} {xs} next ys first second = record {
  counted = λ calm. second.counted calm ∙ ap next (first.counted (calm_before middle new (ys b.judged) b.has_failed c.has_failed second.puts calm));
  puts = put_on law old middle new a.has_failed b.has_failed c.has_failed b.judged judged xs ys first.counted first.puts second.puts;
}

-- those belong to the last verdict
pub and_tell : {W : Type 0} {sink : sinks.Ghosts W} → Joins sink → {a b c : CheckTeller} {old middle new : Lines W sink} {judged : ℕ} {xs : List Json} (ys : ℕ → List Json)
    → TellsUpTo a b old middle judged xs → Tells b c middle new (ys b.judged) → TellsUpTo a c old new judged (xs ++ ys judged)
and_tell law ys first second = and_tell_on law (λ n. n) ys first second

-- ---- nothing is put

module _ {W : Type 0} {sink : sinks.Ghosts W} (nothing : (a : W) → sink.takes a a []) (lines : Lines W sink) where
  none : Writes lines lines []
  none = nothing_yet sink nothing lines.outlet lines.held.items

  no_objects : (x : Bool) → PutsObjects lines lines [] x x
  no_objects false = (none, tt)
  no_objects true = none

  pub nothing_told : (a : CheckTeller) → Tells a a lines lines []
  nothing_told a = record { counted = λ calm. refl; puts = no_objects a.has_failed }

  lacks : (x : Bool) (objects : List Json) → PutsObjects lines lines objects x true
  lacks false objects = ([], record { put = []; left = objects; whole = refl; prints = refl; values = tt }, none)
  lacks true objects = none

  -- memory was refused for an object
  pub failed : (a : CheckTeller) (judged : ℕ) (objects : List Json) → TellsUpTo a (record a { has_failed = true }) lines lines judged objects
  failed a judged objects = record {
    counted = λ calm. absurd (let k : ⊥ = cc in k);
    puts = lacks a.has_failed objects;
  }

  still : (x : Bool) (objects : List Json) → x ≡ true → PutsObjects lines lines objects x x
  still true objects is = none
  still false objects is = absurd (let k : ⊥ = cc in k)

  -- or it had been refused before
  pub still_failed : (a : CheckTeller) (judged : ℕ) (objects : List Json) → a.has_failed ≡ true → TellsUpTo a a lines lines judged objects
  still_failed a judged objects is = record {
    counted = λ calm. absurd (let k : ⊥ = cc in k);
    puts = still a.has_failed objects is;
  }

-- ---- one object

module _ {W : Type 0} {sink : sinks.Ghosts W} (old new : Lines W sink) (a : CheckTeller) (object : Json) where
  one_puts : (b : Bool) → b ≡ false → Writes old new (json_line object) → IsOneValue (json_line object) → PutsObjects old new (object ∷ []) b b
  one_puts false calm wrote value = (subst (λ (t : List ℕ). Writes old new t) (sym (append-nil (json_line object))) wrote, (value, tt))
  one_puts true calm wrote value = absurd (let k : ⊥ = cc in k)

  -- it was put, with so many verdicts up to it
  pub told_one : (judged : ℕ) → a.has_failed ≡ false → Writes old new (json_line object) → IsOneValue (json_line object) → TellsUpTo a (record a { judged = judged }) old new judged (object ∷ [])
  told_one judged calm wrote value = record {
    counted = λ still. refl;
    puts = one_puts a.has_failed calm wrote value;
  }

  -- it was put behind the last verdict
  pub told_more : a.has_failed ≡ false → Writes old new (json_line object) → IsOneValue (json_line object) → Tells a a old new (object ∷ [])
  told_more calm wrote value = record {
    counted = λ still. refl;
    puts = one_puts a.has_failed calm wrote value;
  }

  left_out : (b : Bool) → Writes old new [] → PutsObjects old new (object ∷ []) b true
  left_out false wrote = ([], record { put = []; left = object ∷ []; whole = refl; prints = refl; values = tt }, wrote)
  left_out true wrote = wrote

  -- memory was refused for it
  pub told_none : (judged : ℕ) → Writes old new [] → TellsUpTo a (record a { has_failed = true }) old new judged (object ∷ [])
  told_none judged wrote = record {
    counted = λ calm. absurd (let k : ⊥ = cc in k);
    puts = left_out a.has_failed wrote;
  }

-- ---- objects that were made in memory

module _ {W : Type 0} {sink : sinks.Ghosts W} (old new : Lines W sink) (a : CheckTeller) (objects : List Json) where
  made_puts : (b : Bool) (text : List ℕ) → b ≡ false → (text ≡ lines_of objects) × AreValues objects → Writes old new text → PutsObjects old new objects b b
  made_puts false text calm are wrote = (subst (λ (t : List ℕ). Writes old new t) are.0 wrote, are.1)
  made_puts true text calm are wrote = absurd (let k : ⊥ = cc in k)

  -- they were put
  pub told_made : (text : List ℕ) → a.has_failed ≡ false → (text ≡ lines_of objects) × AreValues objects → Writes old new text → Tells a a old new objects
  told_made text calm are wrote = record {
    counted = λ still. refl;
    puts = made_puts a.has_failed text calm are wrote;
  }
