-- What is written of octets of a line.
use Rattle.std.proofs.Common.{◌≡◌, ◌≢◌, ◌∙◌, ◌+◌, ◌++◌, ◌==◌, ◌||◌, ◌<◌, ℕ, Bool, true, false, List, [], ◌∷◌, Option, None, Some, length, if◌then◌else◌, refl, sym, ap, ap₂, subst, append_assoc, append-nil, add-one, arith, take}
use Rattle.std.proofs.lemmas.Bool.{eq-eqb, eqb-true, false≢true, ne_eqb}
use Rattle.std.proofs.lemmas.List.{take_all}
use Rattle.std.specs.List.{list_any}
use Rattle.mrt.specs.declared.sink.Sink as sinks
use Rattle.bgp_text.specs.Lines.{Writes}
use Rattle.bgp_text.specs.declared.lines.Lines.{Lines}
use Rattle.bgp_text.proofs.Pieces.{nothing_yet}
use Rattle.bgp_html.specs.Escaped.{escape_octet, escaped}
use Rattle.bgp_html.specs.Kinds.{kind_of}
use Rattle.bgp_html.specs.Noted.{Noted, is_possible, more, with_line, with_rest}
use Rattle.bgp_html.specs.Notes.{IsNotedBy, noted_by}
use Rattle.bgp_html.specs.Printed.{kind_end}
use Rattle.bgp_html.specs.Taking.{Front, HasNoEnd, Place, Puts, Within, begun_html, begun_place, behind_line, count_with, end_html, first_end, html_from, line_end, line_html, line_place, notes_from, open_behind, open_end, place_after, place_of}
use Rattle.bgp_html.specs.declared.notes.Notes.{Notes}
use Rattle.bgp_html.specs.declared.printed.Element.{Element}
use Rattle.bgp_html.specs.declared.printed.Element.TheVariants as elements
use Rattle.bgp_html.specs.declared.printed.Kind.{Kind}

-- ---- the last line

pub last_none : (count : ℕ) (line : List ℕ) → true ≡ (length line == 0) → open_end count ≡ end_html (Front count line)
last_none count [] e = refl
last_none count (x ∷ line) e = let none = eqb-true (length (x ∷ line)) 0 (sym e) in absurd (omega (arith, none))

pub last_some : (count : ℕ) (line : List ℕ) → false ≡ (length line == 0) → begun_html count (kind_of line) line ++ kind_end (kind_of line) ≡ end_html (Front count line)
last_some count [] e = absurd (false≢true e)
last_some count (x ∷ line) e = refl

-- ---- octets of one that has begun

-- what is written and noted, and where the text is then
record IsStep (place : Place) (octets html : List ℕ) (after : Place) (step : Noted → Noted) : Type 0 where
  pub is_html : html_from place octets ≡ html
  pub is_after : place_after place octets ≡ after
  pub is_noted : (noted : Noted) → notes_from place octets noted ≡ step noted

module _ {W : Type 0} {sink : sinks.Ghosts W} {Y : Type 0} (a b : Lines W sink) (element element' : Option Element) (front front' : List ℕ) (notes notes' : Notes Y) where
  puts_step : (place after : Place) (octets html : List ℕ) (step : Noted → Noted) → place_of element front ≡ place → place_of element' front' ≡ after
      → IsStep place octets html after step → Writes a b html → IsNotedBy notes notes' step → Puts a b element element' front front' notes notes' octets
  puts_step place after octets html step is also its wrote noted = record {
    place = also ∙ sym its.is_after ∙ ap (λ (p : Place). place_after p octets) (sym is);
    writes = subst (λ (p : Place). Writes a b (html_from p octets)) (sym is) (subst (λ (o : List ℕ). Writes a b o) (sym its.is_html) wrote);
    noted = λ all. let later = noted all in (
      later.0,
      later.1 ∙ sym (its.is_noted (noted_by notes)) ∙ ap (λ (p : Place). notes_from p octets (noted_by notes)) (sym is),
    );
  }

-- ---- the front of a line

abbrev count_in : Place → ℕ
count_in (Front count front) = count
count_in (Within kind count) = count

abbrev is_front : Place → Bool
is_front (Front count front) = true
is_front (Within kind count) = false

-- which element is open doesn't hang on it
same_front : (element : Option Element) (count : ℕ) (front front' : List ℕ) → place_of element front ≡ Front count front → place_of element front' ≡ Front count front'
same_front None count front front' is = ap (λ (p : Place). Front (count_in p) front') is
same_front (Some (elements.Lines held)) count front front' is = ap (λ (p : Place). Front (count_in p) front') is
same_front (Some (elements.Line kind held)) count front front' is = absurd (false≢true (ap is_front is))

-- an octet of one of which it isn't known yet what it says
not_yet : (count : ℕ) (front : List ℕ) (octet : ℕ) → octet ≢ 10 → length front ≢ 3
    → IsStep (Front count front) (octet ∷ []) [] (Front count (front ++ octet ∷ [])) (λ noted. noted)
not_yet count front octet goes_on short = record {
  is_html = rw (ne_eqb octet 10 goes_on) (rw (ne_eqb (length front) 3 short) refl);
  is_after = rw (ne_eqb octet 10 goes_on) (rw (ne_eqb (length front) 3 short) refl);
  is_noted = λ noted. rw (ne_eqb octet 10 goes_on) (rw (ne_eqb (length front) 3 short) refl);
}

pub begins : {W : Type 0} {sink : sinks.Ghosts W} {Y : Type 0} → ((a : W) → sink.takes a a []) → (a : Lines W sink) (element : Option Element) (front front' : List ℕ) (notes : Notes Y)
    (count octet : ℕ) → place_of element front ≡ Front count front → front' ≡ front ++ octet ∷ [] → octet ≢ 10 → length front ≢ 3
    → Puts a a element element front front' notes notes (octet ∷ [])
begins {W} {sink} nothing a element front front' notes count octet is longer goes_on short =
    puts_step a a element element front front' notes notes (Front count front) (Front count (front ++ octet ∷ [])) (octet ∷ []) [] (λ noted. noted)
    is (same_front element count front front' is ∙ ap (λ (f : List ℕ). Front count f) longer) (not_yet count front octet goes_on short)
    (nothing_yet sink nothing a.outlet a.held.items) (λ all. (all, refl))

-- one by which it is
known_step : (count : ℕ) (front : List ℕ) (octet : ℕ) → octet ≢ 10 → length front ≡ 3
    → IsStep (Front count front) (octet ∷ []) (begun_html count (kind_of (front ++ octet ∷ [])) (front ++ octet ∷ []))
    (begun_place count (kind_of (front ++ octet ∷ []))) (with_line (kind_of (front ++ octet ∷ [])) (front ++ octet ∷ []))
known_step count front octet goes_on full = record {
  is_html = rw (ne_eqb octet 10 goes_on) (rw (eq-eqb (length front) 3 full) (append-nil (begun_html count (kind_of (front ++ octet ∷ [])) (front ++ octet ∷ []))));
  is_after = rw (ne_eqb octet 10 goes_on) (rw (eq-eqb (length front) 3 full) refl);
  is_noted = λ noted. rw (ne_eqb octet 10 goes_on) (rw (eq-eqb (length front) 3 full) refl);
}

pub known : {W : Type 0} {sink : sinks.Ghosts W} {Y : Type 0} (a b : Lines W sink) (element element' : Option Element) (front front' line : List ℕ) (notes notes' : Notes Y)
    (count octet : ℕ) (kind : Kind) → place_of element front ≡ Front count front → line ≡ front ++ octet ∷ [] → kind ≡ kind_of line → octet ≢ 10 → length front ≡ 3
    → element' ≡ Some (elements.Line kind (count_with count kind)) → Writes a b (begun_html count kind line) → IsNotedBy notes notes' (with_line kind line)
    → Puts a b element element' front front' notes notes' (octet ∷ [])
known a b element element' front front' line notes notes' count octet kind is longer says goes_on full opened wrote noted =
    let whole = front ++ octet ∷ [] in
    let also : kind ≡ kind_of whole = says ∙ ap kind_of longer in
    puts_step a b element element' front front' notes notes' (Front count front) (begun_place count (kind_of whole)) (octet ∷ [])
    (begun_html count (kind_of whole) whole) (with_line (kind_of whole) whole) is
    (ap (λ (e : Option Element). place_of e front') opened ∙ ap (λ (k : Kind). begun_place count k) also)
    (known_step count front octet goes_on full)
    (subst (λ (l : List ℕ). Writes a b (begun_html count (kind_of whole) l)) longer (subst (λ (k : Kind). Writes a b (begun_html count k line)) also wrote))
    (subst (λ (l : List ℕ). IsNotedBy notes notes' (with_line (kind_of whole) l)) longer (subst (λ (k : Kind). IsNotedBy notes notes' (with_line k line)) also noted))

-- one that ends it
short_step : (count : ℕ) (front : List ℕ) → IsStep (Front count front) (10 ∷ []) (line_html count (kind_of (front ++ 10 ∷ [])) (front ++ 10 ∷ []))
    (line_place count (kind_of (front ++ 10 ∷ []))) (with_line (kind_of (front ++ 10 ∷ [])) (front ++ 10 ∷ []))
short_step count front = record {
  is_html = append-nil (line_html count (kind_of (front ++ 10 ∷ [])) (front ++ 10 ∷ []));
  is_after = refl;
  is_noted = λ noted. refl;
}

pub short_line : {W : Type 0} {sink : sinks.Ghosts W} {Y : Type 0} (a b : Lines W sink) (element element' : Option Element) (front front' line : List ℕ) (notes notes' : Notes Y)
    (count octet : ℕ) (kind : Kind) → place_of element front ≡ Front count front → line ≡ front ++ octet ∷ [] → kind ≡ kind_of line → octet ≡ 10
    → element' ≡ open_behind kind (count_with count kind) → front' ≡ [] → Writes a b (line_html count kind line) → IsNotedBy notes notes' (with_line kind line)
    → Puts a b element element' front front' notes notes' (octet ∷ [])
short_line a b element element' front front' line notes notes' count octet kind is longer says last opened empty wrote noted =
    let whole = front ++ 10 ∷ [] in
    let ends : line ≡ whole = longer ∙ ap (λ (o : ℕ). front ++ o ∷ []) last in
    let also : kind ≡ kind_of whole = says ∙ ap kind_of ends in
    subst (λ (o : ℕ). Puts a b element element' front front' notes notes' (o ∷ [])) (sym last)
    (puts_step a b element element' front front' notes notes' (Front count front) (line_place count (kind_of whole)) (10 ∷ [])
    (line_html count (kind_of whole) whole) (with_line (kind_of whole) whole) is
    (ap₂ (λ (e : Option Element) (f : List ℕ). place_of e f) opened empty ∙ ap (λ (k : Kind). line_place count k) also)
    (short_step count front)
    (subst (λ (l : List ℕ). Writes a b (line_html count (kind_of whole) l)) ends (subst (λ (k : Kind). Writes a b (line_html count k line)) also wrote))
    (subst (λ (l : List ℕ). IsNotedBy notes notes' (with_line (kind_of whole) l)) ends (subst (λ (k : Kind). IsNotedBy notes notes' (with_line k line)) also noted)))

-- ---- the end of one that has begun

end_step : (kind : Kind) (count : ℕ) → IsStep (Within kind count) (10 ∷ []) (escaped (10 ∷ []) ++ line_end kind) (behind_line kind count) (with_rest kind (10 ∷ []))
end_step kind count = record { is_html = append-nil (escaped (10 ∷ []) ++ line_end kind); is_after = refl; is_noted = λ noted. refl }

pub ends_line : {W : Type 0} {sink : sinks.Ghosts W} {Y : Type 0} (a b : Lines W sink) (element element' : Option Element) (front front' : List ℕ) (notes notes' : Notes Y)
    → (kind : Kind) (count : ℕ) → element ≡ Some (elements.Line kind count) → element' ≡ open_behind kind count → front' ≡ []
    → Writes a b (escaped (10 ∷ []) ++ line_end kind) → IsNotedBy notes notes' (with_rest kind (10 ∷ []))
    → Puts a b element element' front front' notes notes' (10 ∷ [])
ends_line a b element element' front front' notes notes' kind count some opened empty wrote noted =
    puts_step a b element element' front front' notes notes' (Within kind count) (behind_line kind count) (10 ∷ []) _ (with_rest kind (10 ∷ []))
    (ap (λ (e : Option Element). place_of e front) some) (ap₂ (λ (e : Option Element) (f : List ℕ). place_of e f) opened empty) (end_step kind count) wrote noted

-- ---- others

pub neither : (x y : Bool) → (x || y) ≡ false → (x ≡ false) × (y ≡ false)
neither true y is = absurd (false≢true (sym is))
neither false y is = (refl, is)

html_by : (kind : Kind) (count octet : ℕ) (octets : List ℕ) (last : Bool) → last ≡ false
    → (escaped (octet ∷ []) ++ (if last then line_end kind else [])) ++ html_from (if last then behind_line kind count else Within kind count) octets
    ≡ escape_octet octet ++ html_from (Within kind count) octets
html_by kind count octet octets true is = absurd (false≢true (sym is))
html_by kind count octet octets false is =
    ap (λ (o : List ℕ). o ++ html_from (Within kind count) octets) (append-nil (escaped (octet ∷ [])) ∙ append-nil (escape_octet octet))

after_by : (kind : Kind) (count : ℕ) (octets : List ℕ) (last : Bool) → last ≡ false
    → place_after (if last then behind_line kind count else Within kind count) octets ≡ place_after (Within kind count) octets
after_by kind count octets true is = absurd (false≢true (sym is))
after_by kind count octets false is = refl

notes_by : (kind : Kind) (count : ℕ) (octets : List ℕ) (last : Bool) (noted : Noted) → last ≡ false
    → notes_from (if last then behind_line kind count else Within kind count) octets noted ≡ notes_from (Within kind count) octets noted
notes_by kind count octets true noted is = absurd (false≢true (sym is))
notes_by kind count octets false noted is = refl

rest_by : (possible : Bool) (one others : List ℕ) (noted : Noted)
    → (if possible then more others (if possible then more one noted else noted) else (if possible then more one noted else noted))
    ≡ (if possible then more (one ++ others) noted else noted)
rest_by true one others noted = ap (λ (o : List ℕ). record { done = noted.done; last = o }) (append_assoc noted.last one others)
rest_by false one others noted = refl

pub rest_then : (kind : Kind) (one others : List ℕ) (noted : Noted) → with_rest kind others (with_rest kind one noted) ≡ with_rest kind (one ++ others) noted
rest_then kind one others noted = rest_by (is_possible kind) one others noted

nothing_by : (possible : Bool) (noted : Noted) → noted ≡ (if possible then more [] noted else noted)
nothing_by true noted = ap (λ (o : List ℕ). record { done = noted.done; last = o }) (sym (append-nil noted.last))
nothing_by false noted = refl

rest_step : (kind : Kind) (count : ℕ) (octets : List ℕ) → HasNoEnd octets → IsStep (Within kind count) octets (escaped octets) (Within kind count) (with_rest kind octets)
rest_step kind count [] none = record { is_html = refl; is_after = refl; is_noted = λ noted. nothing_by (is_possible kind) noted }
rest_step kind count (octet ∷ octets) none =
    let both = neither (octet == 10) (list_any (λ (o : ℕ). o == 10) octets) none in
    let rest = rest_step kind count octets both.1 in record {
      is_html = html_by kind count octet octets (octet == 10) both.0 ∙ ap (λ (o : List ℕ). escape_octet octet ++ o) rest.is_html;
      is_after = after_by kind count octets (octet == 10) both.0 ∙ rest.is_after;
      is_noted = λ noted. notes_by kind count octets (octet == 10) (with_rest kind (octet ∷ []) noted) both.0
          ∙ rest.is_noted (with_rest kind (octet ∷ []) noted) ∙ rest_then kind (octet ∷ []) octets noted;
    }

pub puts_rest : {W : Type 0} {sink : sinks.Ghosts W} {Y : Type 0} (a b : Lines W sink) (element : Option Element) (front : List ℕ) (notes notes' : Notes Y)
    → (kind : Kind) (count : ℕ) (octets : List ℕ) → element ≡ Some (elements.Line kind count) → HasNoEnd octets → Writes a b (escaped octets)
    → IsNotedBy notes notes' (with_rest kind octets) → Puts a b element element front front notes notes' octets
puts_rest a b element front notes notes' kind count octets some none wrote noted =
    let place = ap (λ (e : Option Element). place_of e front) some in
    puts_step a b element element front front notes notes' (Within kind count) (Within kind count) octets (escaped octets) (with_rest kind octets) place place
    (rest_step kind count octets none) wrote noted

-- ---- the first line feed

none_by : (x : ℕ) (xs : List ℕ) (last : Bool) → (x == 10) ≡ last → HasNoEnd (take (first_end xs) xs)
    → HasNoEnd (take (if last then 0 else first_end xs + 1) (x ∷ xs))
none_by x xs true is none = refl
none_by x xs false is none = rw (add-one (first_end xs)) (rw is none)

-- none is before it
pub none_before : (octets : List ℕ) → HasNoEnd (take (first_end octets) octets)
none_before [] = refl
none_before (x ∷ xs) = none_by x xs (x == 10) refl (none_before xs)

at_by : (x : ℕ) (xs : List ℕ) (last : Bool) → (x == 10) ≡ last
    → (first_end xs < length xs → take (first_end xs + 1) xs ≡ take (first_end xs) xs ++ 10 ∷ [])
    → (if last then 0 else first_end xs + 1) < length (x ∷ xs)
    → take ((if last then 0 else first_end xs + 1) + 1) (x ∷ xs) ≡ take (if last then 0 else first_end xs + 1) (x ∷ xs) ++ 10 ∷ []
at_by x xs true is rest some = ap (λ (o : ℕ). o ∷ []) (eqb-true x 10 is)
at_by x xs false is rest some =
    let within : first_end xs < length xs = omega (arith, some) in
    rw (add-one (first_end xs + 1)) (rw (add-one (first_end xs)) (ap (λ (o : List ℕ). x ∷ o) (ap (λ (k : ℕ). take k xs) (sym (add-one (first_end xs))) ∙ rest within)))

-- and it is the next
pub end_next : (octets : List ℕ) → first_end octets < length octets → take (first_end octets + 1) octets ≡ take (first_end octets) octets ++ 10 ∷ []
end_next [] some = absurd (omega (arith, some))
end_next (x ∷ xs) some = at_by x xs (x == 10) refl (end_next xs) some

-- ---- octets

pub all_of : {W : Type 0} {sink : sinks.Ghosts W} {Y : Type 0} {a b : Lines W sink} {element element' : Option Element} {front front' : List ℕ} {notes notes' : Notes Y}
    (octets : List ℕ) → Puts a b element element' front front' notes notes' octets → Puts a b element element' front front' notes notes' (take (length octets) octets)
all_of {a = a} {b = b} {element = element} {element' = element'} {front = front} {front' = front'} {notes = notes} {notes' = notes'} octets put =
    subst (λ (os : List ℕ). Puts a b element element' front front' notes notes' os) (sym (take_all (length octets) octets (omega arith))) put
