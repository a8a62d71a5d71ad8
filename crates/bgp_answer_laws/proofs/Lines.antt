-- Texts of whole lines, one behind another, and their answers.
use Rattle.std.proofs.Common.{◌≡◌, ◌∙◌, ◌==◌, ◌||◌, ◌++◌, ℕ, Bool, true, false, List, [], ◌∷◌, All, append-nil, append_assoc, ap, ap₂, codes, if◌then◌else◌, refl, subst, sym}
use Rattle.std.specs.List.{flat_map, list_any}
use Rattle.std.proofs.lemmas.Bool.{false≢true}
use Rattle.std.proofs.lemmas.Grind.{flat_map-append}
use Rattle.std.proofs.lemmas.List.Elements.{All-append, All-cons, All-head, All-nil, All-tail}
use Rattle.bgp_html.specs.Kinds.{kind_of}
use Rattle.bgp_html.specs.Noted.{are_answers, is_answer, is_possible, possible_in}
use Rattle.bgp_html.specs.Report.{lines_from}
use Rattle.bgp_html.specs.Taking.{HasNoEnd}
use Rattle.bgp_html.specs.declared.printed.Kind.{Kind}
use Rattle.bgp_html.specs.declared.printed.Kind.TheVariants as kinds
use Rattle.bgp_answer_laws.specs.Answers.{Answer, IsLine, Says, Tells, answers_in, answers_of, if_possible, possible_before}

-- ---- octets without a line feed

neither : (a b : Bool) → (a || b) ≡ false → (a ≡ false) × (b ≡ false)
neither false b e = (refl, e)
neither true b e = absurd (false≢true (sym e))

or_false : (a b : Bool) → a ≡ false → b ≡ false → (a || b) ≡ false
or_false false b p q = q
or_false true b p q = absurd (false≢true (sym p))

pub no_end_both : (xs ys : List ℕ) → HasNoEnd xs → HasNoEnd ys → HasNoEnd (xs ++ ys)
no_end_both [] ys first second = second
no_end_both (x ∷ xs) ys first second =
    let parts = neither (x == 10) (list_any (λ octet. octet == 10) xs) first in
    or_false (x == 10) (list_any (λ octet. octet == 10) (xs ++ ys)) parts.0 (no_end_both xs ys parts.1 second)

-- as a record, which two texts are seen in
pub record IsPlain (text : List ℕ) : Type 0 where
  pub none : HasNoEnd text

pub nothing : IsPlain []
nothing = record { none = refl }

pub word : (text : List ℕ) → HasNoEnd text → IsPlain text
word text none = record { none = none }

pub both : {xs ys : List ℕ} → IsPlain xs → IsPlain ys → IsPlain (xs ++ ys)
both {xs} {ys} first second = record { none = no_end_both xs ys first.none second.none }

pub if_plain : (is_so : Bool) (text other : List ℕ) → IsPlain text → IsPlain other → IsPlain (if is_so then text else other)
if_plain true text other first second = first
if_plain false text other first second = second

-- ---- lines

-- as a record, too
pub record IsWhole (line : List ℕ) : Type 0 where
  pub is : IsLine line

-- text in front of a line feed
pub ends : {text : List ℕ} → IsPlain text → IsWhole (text ++ codes "\n")
ends {text} plain = record { is = (text, refl, plain.none) }

-- and more in front
pub behind : {xs line : List ℕ} → IsPlain xs → IsWhole line → IsWhole (xs ++ line)
behind {xs} {line} plain whole = record {
  is = (xs ++ whole.is.0, ap (λ (l : List ℕ). xs ++ l) whole.is.1 ∙ sym (append_assoc xs whole.is.0 (codes "\n")), no_end_both xs whole.is.0 plain.none whole.is.2);
}

from_front : (front done rest : List ℕ) → HasNoEnd front → lines_from done ((front ++ codes "\n") ++ rest) ≡ (done ++ (front ++ codes "\n")) ∷ lines_from [] rest
from_front [] done rest none = refl
from_front (x ∷ front) done rest none =
    let parts = neither (x == 10) (list_any (λ octet. octet == 10) front) none in
    rw parts.0
    (from_front front (done ++ x ∷ []) rest parts.1
    ∙ ap (λ (l : List ℕ). l ∷ lines_from [] rest) (append_assoc done (x ∷ []) (front ++ codes "\n")))

from_line : (line rest : List ℕ) → IsLine line → lines_from [] (line ++ rest) ≡ line ∷ lines_from [] rest
from_line line rest is =
    subst (λ (l : List ℕ). lines_from [] (l ++ rest) ≡ l ∷ lines_from [] rest) (sym is.1) (from_front is.0 [] rest is.2)

from_lines : (lines : List (List ℕ)) (rest : List ℕ) → All IsLine lines → lines_from [] (flat_map (λ line. line) lines ++ rest) ≡ lines ++ lines_from [] rest
from_lines [] rest all = refl
from_lines (line ∷ lines) rest all =
    ap (lines_from []) (append_assoc line (flat_map (λ l. l) lines) rest)
    ∙ from_line line (flat_map (λ l. l) lines ++ rest) (All-head IsLine line lines all)
    ∙ ap (λ (ls : List (List ℕ)). line ∷ ls) (from_lines lines rest (All-tail IsLine line lines all))

-- ---- what lines say that begin no answer

pub says_nothing : Says [] []
says_nothing = record { lines = []; is_text = refl; are_lines = All-nil IsLine; no_answer = refl; is_possible = refl }

pub says_both : (xs ys first second : List ℕ) → Says xs first → Says ys second → Says (xs ++ ys) (first ++ second)
says_both xs ys first second a b = record {
  lines = a.lines ++ b.lines;
  is_text = ap₂ (λ (s t : List ℕ). s ++ t) a.is_text b.is_text ∙ sym (flat_map-append (λ (l : List ℕ). l) a.lines b.lines);
  are_lines = All-append IsLine a.lines b.lines a.are_lines b.are_lines;
  no_answer = none a.lines b.lines a.no_answer b.no_answer;
  is_possible = ap₂ (λ (s t : List ℕ). s ++ t) a.is_possible b.is_possible ∙ sym (flat_map-append if_possible a.lines b.lines);
} where
  none : (ls ms : List (List ℕ)) → are_answers ls ≡ false → are_answers ms ≡ false → are_answers (ls ++ ms) ≡ false
  none [] ms p q = q
  none (l ∷ ls) ms p q =
      let parts = neither (is_answer (kind_of l)) (are_answers ls) p in
      or_false (is_answer (kind_of l)) (are_answers (ls ++ ms)) parts.0 (none ls ms parts.1 q)

pub none_both : {xs ys : List ℕ} → Says xs [] → Says ys [] → Says (xs ++ ys) []
none_both {xs} {ys} first second = says_both xs ys [] [] first second

-- one line, by what it says
says_one : (line : List ℕ) → IsLine line → is_answer (kind_of line) ≡ false → Says line (if_possible line)
says_one line is none = record {
  lines = line ∷ [];
  is_text = sym (append-nil line);
  are_lines = All-cons IsLine line [] is (All-nil IsLine);
  no_answer = or_false (is_answer (kind_of line)) false none refl;
  is_possible = sym (append-nil (if_possible line));
}

pub says_aside : (kind : Kind) → is_answer kind ≡ false → is_possible kind ≡ false → (line : List ℕ) → IsWhole line → kind_of line ≡ kind → Says line []
says_aside kind none other line is its =
    subst (λ (possible : List ℕ). Says line possible)
    (ap (λ (k : Kind). if is_possible k then line else []) its ∙ ap (λ (b : Bool). if b then line else []) other)
    (says_one line is.is (ap is_answer its ∙ none))

pub says_beside : (line : List ℕ) → IsWhole line → kind_of line ≡ kinds.Beside → Says line []
says_beside line is its = says_aside kinds.Beside refl refl line is its

pub says_possible : (line : List ℕ) → IsWhole line → kind_of line ≡ kinds.Possible → Says line line
says_possible line is its =
    subst (λ (possible : List ℕ). Says line possible) (ap (λ (k : Kind). if is_possible k then line else []) its)
    (says_one line is.is (ap is_answer its))

-- ---- answers

no_answers : (lines : List (List ℕ)) → are_answers lines ≡ false → answers_in lines ≡ []
no_answers [] none = refl
no_answers (line ∷ lines) none =
    let parts = neither (is_answer (kind_of line)) (are_answers lines) none in
    rw parts.0 (no_answers lines parts.1)

all_before : (lines : List (List ℕ)) → are_answers lines ≡ false → possible_before lines ≡ possible_in lines
all_before [] none = refl
all_before (line ∷ lines) none =
    let parts = neither (is_answer (kind_of line)) (are_answers lines) none in
    rw parts.0 (ap (λ (t : List ℕ). if_possible line ++ t) (all_before lines parts.1))

pub tells_nothing : (text : List ℕ) → Says text [] → Tells text []
tells_nothing text says = record {
  lines = says.lines;
  is_text = says.is_text;
  are_lines = says.are_lines;
  none_before = all_before says.lines says.no_answer ∙ sym says.is_possible;
  are_answers = sym (no_answers says.lines says.no_answer);
}

answer_by : (answer : Bool) (line : List ℕ) (lines : List (List ℕ)) → answer ≡ true
    → ((if answer then [] else if_possible line ++ possible_before lines) ≡ [])
    × ((if answer then record { line = line; possible = possible_before lines } ∷ answers_in lines else answers_in lines)
    ≡ record { line = line; possible = possible_before lines } ∷ answers_in lines)
answer_by true line lines is = (refl, refl)
answer_by false line lines is = absurd (false≢true is)

pub tells_answer : (line text possible : List ℕ) → IsWhole line → is_answer (kind_of line) ≡ true → Says text possible
    → Tells (line ++ text) (record { line = line; possible = possible } ∷ [])
tells_answer line text possible is begins says =
    let by = answer_by (is_answer (kind_of line)) line says.lines begins in
    let those : List ℕ = possible_before says.lines in
    record {
      lines = line ∷ says.lines;
      is_text = ap (λ (t : List ℕ). line ++ t) says.is_text;
      are_lines = All-cons IsLine line says.lines is.is says.are_lines;
      none_before = by.0;
      are_answers =
          ap₂ (λ (t : List ℕ) (rest : List Answer). record { line = line; possible = t } ∷ rest)
          (says.is_possible ∙ sym (all_before says.lines says.no_answer)) (sym (no_answers says.lines says.no_answer))
          ∙ sym by.1;
    }

-- behind others no line says what could have come, before its first answer
before_both : (xs ys : List (List ℕ)) → possible_before ys ≡ [] → possible_before (xs ++ ys) ≡ possible_before xs
before_both [] ys none = none
before_both (x ∷ xs) ys none = ap (λ (t : List ℕ). if is_answer (kind_of x) then [] else if_possible x ++ t) (before_both xs ys none)

answers_both : (xs ys : List (List ℕ)) → possible_before ys ≡ [] → answers_in (xs ++ ys) ≡ answers_in xs ++ answers_in ys
answers_both [] ys none = refl
answers_both (x ∷ xs) ys none =
    ap₂ (λ (t : List ℕ) (rest : List Answer). if is_answer (kind_of x) then record { line = x; possible = t } ∷ rest else rest)
    (before_both xs ys none) (answers_both xs ys none)
    ∙ by (is_answer (kind_of x))
  where
    by : (answer : Bool)
        → (if answer then record { line = x; possible = possible_before xs } ∷ (answers_in xs ++ answers_in ys) else answers_in xs ++ answers_in ys)
        ≡ (if answer then record { line = x; possible = possible_before xs } ∷ answers_in xs else answers_in xs) ++ answers_in ys
    by true = refl
    by false = refl

pub tells_both : (xs ys : List ℕ) (first second : List Answer) → Tells xs first → Tells ys second → Tells (xs ++ ys) (first ++ second)
tells_both xs ys first second a b = record {
  lines = a.lines ++ b.lines;
  is_text = ap₂ (λ (s t : List ℕ). s ++ t) a.is_text b.is_text ∙ sym (flat_map-append (λ (l : List ℕ). l) a.lines b.lines);
  are_lines = All-append IsLine a.lines b.lines a.are_lines b.are_lines;
  none_before = before_both a.lines b.lines b.none_before ∙ a.none_before;
  are_answers = ap₂ (λ (s t : List Answer). s ++ t) a.are_answers b.are_answers ∙ sym (answers_both a.lines b.lines b.none_before);
}

-- ---- of a whole text

pub answers_are : (text : List ℕ) (answers : List Answer) → Tells text answers → answers_of text ≡ answers
answers_are text answers tells =
    ap (λ (t : List ℕ). answers_in (lines_from [] t)) (tells.is_text ∙ sym (append-nil (flat_map (λ line. line) tells.lines)))
    ∙ ap answers_in (from_lines tells.lines [] tells.are_lines)
    ∙ answers_both tells.lines ([] ∷ []) refl
    ∙ append-nil (answers_in tells.lines)
    ∙ sym tells.are_answers

-- the lines of a text that say what could have come, whichever lines it is made of
pub possible_are : (text possible : List ℕ) → Says text possible → possible ≡ possible_in (lines_from [] text)
possible_are text possible says =
    says.is_possible
    ∙ sym (append-nil (possible_in says.lines))
    ∙ sym (flat_map-append if_possible says.lines ([] ∷ []))
    ∙ ap possible_in (sym (from_lines says.lines [] says.are_lines))
    ∙ ap (λ (t : List ℕ). possible_in (lines_from [] t)) (append-nil (flat_map (λ line. line) says.lines) ∙ sym says.is_text)
