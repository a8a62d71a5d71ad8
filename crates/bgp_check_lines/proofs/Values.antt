-- Lines that are told in turn are told together.
use Rattle.std.proofs.Common.{◌≡◌, ◌∙◌, ◌++◌, ℕ, true, List, [], ◌∷◌, ap, append-nil, append_assoc, refl, subst, sym}
use Rattle.std.proofs.lemmas.Grind.{flat_map-append}
use Rattle.std.specs.List.{flat_map}
use Rattle.json.specs.Json.{Json}
use Rattle.mrt.specs.declared.sink.Sink as sinks
use Rattle.bgp_text.specs.declared.lines.Lines.{Lines}
use Rattle.bgp_text.proofs.Pieces.{Joins}
use Rattle.bgp_json_check.specs.JsonVerdictsTelling.{PutsObjects}
use Rattle.bgp_json_check.specs.Telling.{TellsUpTo}
use Rattle.bgp_json_check.specs.declared.teller.CheckTeller.{CheckTeller}
use Rattle.bgp_json_check.proofs.Told.{and_tell_on, failed, nothing_told}
use Rattle.bgp_check_lines.specs.Teller.{TellsText, TellsValues}
use Rattle.bgp_check_lines.specs.Values.{CheckValue, counted_from, counted_with, objects_from, value_objects, value_text}

objects_both : (judged : ℕ) (xs ys : List CheckValue) → objects_from judged (xs ++ ys) ≡ objects_from judged xs ++ objects_from (counted_from judged xs) ys
objects_both judged [] ys = refl
objects_both judged (x ∷ xs) ys =
    let next = counted_with judged x in
    ap (λ (objects : List Json). value_objects next x ++ objects) (objects_both next xs ys)
    ∙ sym (append_assoc (value_objects next x) (objects_from next xs) (objects_from (counted_from next xs) ys))

counted_both : (judged : ℕ) (xs ys : List CheckValue) → counted_from judged (xs ++ ys) ≡ counted_from (counted_from judged xs) ys
counted_both judged [] ys = refl
counted_both judged (x ∷ xs) ys = counted_both (counted_with judged x) xs ys

-- lines were told, and then others
pub and_values : {W : Type 0} {sink : sinks.Ghosts W} → Joins sink → {a b c : CheckTeller} {old middle new : Lines W sink} (xs ys : List CheckValue)
    → TellsValues a b old middle xs → TellsValues b c middle new ys → TellsValues a c old new (xs ++ ys)
and_values law {a} {b} {c} {old} {middle} {new} xs ys first second =
    let both = and_tell_on law (λ (n : ℕ). counted_from n ys) (λ (n : ℕ). objects_from n ys) first second in record {
      counted = λ calm. both.counted calm ∙ sym (counted_both a.judged xs ys);
      puts = subst (λ (objects : List Json). PutsObjects old new objects a.has_failed c.has_failed) (sym (objects_both a.judged xs ys)) both.puts;
    }

pub and_text : {W : Type 0} {sink : sinks.Ghosts W} → Joins sink → {a b c : CheckTeller} {old middle new : Lines W sink} {t s : List ℕ}
    → TellsText a b old middle t → TellsText b c middle new s → TellsText a c old new (t ++ s)
and_text law {t} {s} (xs, is, told) (ys, so, more) = (
  xs ++ ys,
  flat_map-append value_text xs ys ∙ ap (λ (text : List ℕ). text ++ flat_map value_text ys) is ∙ ap (λ (text : List ℕ). t ++ text) so,
  and_values law xs ys told more,
)

pub no_text : {W : Type 0} {sink : sinks.Ghosts W} → ((a : W) → sink.takes a a []) → (lines : Lines W sink) (a : CheckTeller) → TellsText a a lines lines []
no_text nothing lines a = ([], refl, nothing_told nothing lines a)

-- the objects of one line were told
pub one_value : {W : Type 0} {sink : sinks.Ghosts W} {a b : CheckTeller} {old new : Lines W sink} (x : CheckValue)
    → TellsUpTo a b old new (counted_with a.judged x) (value_objects (counted_with a.judged x) x) → TellsValues a b old new (x ∷ [])
one_value {a} {b} {old} {new} x told = record {
  counted = told.counted;
  puts = subst (λ (objects : List Json). PutsObjects old new objects a.has_failed b.has_failed) (sym (append-nil (value_objects (counted_with a.judged x) x))) told.puts;
}

-- memory was refused for lines
pub failed_values : {W : Type 0} {sink : sinks.Ghosts W} → ((a : W) → sink.takes a a []) → (lines : Lines W sink) (a : CheckTeller) (xs : List CheckValue)
    → TellsValues a (record a { has_failed = true }) lines lines xs
failed_values nothing lines a xs = failed nothing lines a (counted_from a.judged xs) (objects_from a.judged xs)
