-- Lines are made one after another, and then put.
use Rattle.std.proofs.Common.{◌≡◌, ◌∙◌, ◌++◌, ◌+◌, ◌<◌, ◌≤◌, ℕ, suc, List, [], ◌∷◌, Option, None, Some, Ok, Err, length, map, take, get_or, refl, sym, ap, subst, inl, inr, append-nil}
use Rattle.std.proofs.lemmas.Grind.{flat_map-append}
use Rattle.std.proofs.lemmas.List.{length-map, map-append, take_all, take_more}
use Rattle.std.specs.BTreeMap.{BTreeMap, IsOrdered}
use Rattle.std.specs.List.{AllByRecursion, Contains, flat_map}
use Rattle.std.specs.List.Sorted.{IsStrictlySortedBy}
use Rattle.std.specs.Map.{keys_of}
use Rattle.std.specs.Ordering.{nat_cmp}
use Rattle.packets.specs.Packet.{Recorded}
use Rattle.mrt.specs.declared.sink.Sink as sinks
use Rattle.bgp_text.specs.Lines.{Writes}
use Rattle.bgp_text.specs.declared.lines.Lines.{Lines}
use Rattle.bgp_text.proofs.Pieces.{Joins, and_then}
use Rattle.bgp_import.specs.declared.refusal.Refusal.{Refusal}
use Rattle.bgp_import.specs.declared.refusal.Refusal.TheVariants as refusals
use Rattle.bgp_import.specs.Listed.{AreListed, IsListed, IsPlaceOf}
use Rattle.bgp_import.specs.Places.{HasAll}
use Rattle.bgp_import.specs.Talks.{HoldsEach}
use Rattle.bgp_import.specs.declared.listed.Listed.{Listed}
use Rattle.bgp_import.specs.declared.talks.Talks.{Talks}
use Rattle.bgp_import.proofs.ListedSoFar.{among_keys}
use Rattle.bgp_list.specs.Firsts.{firsts_after, with_first}
use Rattle.bgp_list.specs.Lines.{IsLineAt, LineValue, line_text, line_value, refusal_in}
use Rattle.bgp_list.specs.Forms.{IsInForm, line_in}
use Rattle.bgp_list.specs.Recording.{AreInForm, AreLinesOf, PutsAll, lines_in}
use Rattle.bgp_list.specs.declared.form.ListForm.{ListForm}
use Rattle.bgp_list.specs.declared.line.Line.{Line}

-- ---- lists

firsts_more : (firsts refusals : List (Option Refusal)) (one : Option Refusal) → with_first (firsts_after firsts refusals) one ≡ firsts_after firsts (refusals ++ one ∷ [])
firsts_more firsts [] one = refl
firsts_more firsts (refusal ∷ later) one = firsts_more (with_first firsts refusal) later one

all_of : {X : Type 0} (P : X → Type 0) (xs : List X) (one : X) → AllByRecursion P xs → P one → AllByRecursion P (xs ++ one ∷ [])
all_of P [] one all p = (p, tt)
all_of P (b ∷ xs) one all p = (all.0, all_of P xs one all.1 p)

keys_with : {X : Type 0} (xs : List (ℕ × X)) (one : ℕ × X) (rest : List ℕ) → keys_of (xs ++ one ∷ []) ++ rest ≡ keys_of xs ++ one.0 ∷ rest
keys_with [] one rest = refl
keys_with (x ∷ xs) one rest = ap (λ (ks : List ℕ). x.0 ∷ ks) (keys_with xs one rest)

pub key_count : {X : Type 0} (xs : List (ℕ × X)) → length (keys_of xs) ≡ length xs
key_count [] = refl
key_count (x ∷ xs) = ap (λ (n : ℕ). suc n) (key_count xs)

one_key : {X : Type 0} (x : ℕ × X) (xs : List (ℕ × X)) → keys_of (x ∷ xs) ≡ [] → ⊥
one_key x xs none = cc

pub without_keys : {X : Type 0} (xs : List (ℕ × X)) → keys_of xs ≡ [] → xs ≡ []
without_keys [] none = refl
without_keys (x ∷ xs) none = absurd (one_key x xs none)

-- ---- lines are made

-- the lines of the first entries are made, and these are left
pub record MakesFront {Z : Type 0} (port : ℕ) (packets : List Recorded) (last_packet : ℕ) (entries rest : List (ℕ × Listed Z)) (lines : List LineValue) : Type 0 where
  pub placed : List (ℕ × LineValue)
  pub are : map (λ (l : ℕ × LineValue). l.1) placed ≡ lines
  pub told : AllByRecursion (λ (l : ℕ × LineValue). IsLineAt port packets last_packet l.0 l.1) placed
  pub places : keys_of placed ++ keys_of rest ≡ keys_of entries
  pub left : AreListed port packets rest

one_made : {Z : Type 0} (port : ℕ) (packets : List Recorded) (last_packet place : ℕ) (one : Listed Z) (line : LineValue) (entries before rest : List (ℕ × Listed Z)) (lines : List LineValue)
    → before ≡ (place, one) ∷ rest → MakesFront port packets last_packet entries before lines → (IsListed port packets place one → IsLineAt port packets last_packet place line)
    → MakesFront port packets last_packet entries rest (lines ++ line ∷ [])
one_made {Z} port packets last_packet place one line entries before rest lines is so_far tells =
    let left : AreListed port packets ((place, one) ∷ rest) = subst (λ (es : List (ℕ × Listed Z)). AreListed port packets es) is so_far.left in
    let places : keys_of so_far.placed ++ place ∷ keys_of rest ≡ keys_of entries =
    subst (λ (es : List (ℕ × Listed Z)). keys_of so_far.placed ++ keys_of es ≡ keys_of entries) is so_far.places in
    record {
      placed = so_far.placed ++ (place, line) ∷ [];
      are = map-append (λ (l : ℕ × LineValue). l.1) so_far.placed ((place, line) ∷ []) ∙ ap (λ (ls : List LineValue). ls ++ line ∷ []) so_far.are;
      told = all_of (λ (l : ℕ × LineValue). IsLineAt port packets last_packet l.0 l.1) so_far.placed (place, line) so_far.told (tells left.0);
      places = keys_with so_far.placed (place, line) (keys_of rest) ∙ places;
      left = left.1;
    }

-- the next entry is right
pub one_left : {Z : Type 0} (port : ℕ) (packets : List Recorded) (last_packet place : ℕ) (one : Listed Z) (entries before rest : List (ℕ × Listed Z)) (lines : List LineValue)
    → before ≡ (place, one) ∷ rest → MakesFront port packets last_packet entries before lines → IsListed port packets place one
one_left {Z} port packets last_packet place one entries before rest lines is so_far = (subst (λ (es : List (ℕ × Listed Z)). AreListed port packets es) is so_far.left).0

-- as they are held
pub one_more : {Z : Type 0} (port : ℕ) (packets : List Recorded) (last_packet place : ℕ) (one : Listed Z) (line : Line) (entries before rest : List (ℕ × Listed Z)) (lines lines' : List Line)
    → before ≡ (place, one) ∷ rest → MakesFront port packets last_packet entries before (map line_value lines)
    → (IsListed port packets place one → IsLineAt port packets last_packet place (line_value line)) → lines' ≡ lines ++ line ∷ []
    → MakesFront port packets last_packet entries rest (map line_value lines')
one_more port packets last_packet place one line entries before rest lines lines' is so_far tells more =
    subst (λ (ls : List LineValue). MakesFront port packets last_packet entries rest ls) (sym (ap (map line_value) more ∙ map-append line_value lines (line ∷ [])))
    (one_made port packets last_packet place one (line_value line) entries before rest (map line_value lines) is so_far tells)

-- none is made yet
pub start_made : {Z : Type 0} (port : ℕ) (packets : List Recorded) (last_packet : ℕ) (entries first : List (ℕ × Listed Z)) (lines : List Line) → first ≡ entries → AreListed port packets entries
    → lines ≡ [] → MakesFront port packets last_packet first first (map line_value lines)
start_made {Z} port packets last_packet entries first lines is listed none = record {
  placed = [];
  are = sym (ap (map line_value) none);
  told = tt;
  places = refl;
  left = subst (λ (es : List (ℕ × Listed Z)). AreListed port packets es) (sym is) listed;
}

-- all are
pub all_made : {Z : Type 0} (port : ℕ) (packets : List Recorded) (talks : Talks Z) (last_packet : ℕ) (listed : BTreeMap ℕ (Listed Z)) (first rest : List (ℕ × Listed Z)) (lines : List LineValue)
    → first ≡ listed.entries → rest ≡ [] → IsOrdered nat_cmp listed → (HoldsEach port packets talks → HasAll port packets (IsPlaceOf listed))
    → MakesFront port packets last_packet first rest lines → AreLinesOf port packets talks last_packet lines
all_made {Z} port packets talks last_packet listed first rest lines is done rises all front =
    let whole : keys_of front.placed ≡ keys_of listed.entries =
    sym (append-nil (keys_of front.placed)) ∙ subst (λ (es : List (ℕ × Listed Z)). keys_of front.placed ++ keys_of es ≡ keys_of first) done front.places
    ∙ ap (λ (es : List (ℕ × Listed Z)). keys_of es) is in
    record {
      placed = front.placed;
      are = front.are;
      told = front.told;
      rise = subst (λ (ks : List ℕ). IsStrictlySortedBy nat_cmp ks) (sym whole) rises;
      all = λ each. subst (λ (ks : List ℕ). HasAll port packets (Contains ks)) (sym whole) (among_keys port packets listed (all each));
    }

-- ---- lines are put

more_lines : (lines : List Line) (i : ℕ) (d : Line) → i < length lines → map line_value (take (i + 1) lines) ≡ map line_value (take i lines) ++ line_value (get_or lines i d) ∷ []
more_lines lines i d within = ap (map line_value) (take_more lines i d within) ∙ map-append line_value (take i lines) (get_or lines i d ∷ [])

pub text_more : {T : Type 0} {sink : sinks.Ghosts T} → Joins sink → (list : List Line) (i : ℕ) (d : Line) (old middle new : Lines T sink) → i < length list
    → Writes old middle (flat_map line_text (map line_value (take i list))) → Writes middle new (line_text (line_value (get_or list i d)))
    → Writes old new (flat_map line_text (map line_value (take (i + 1) list)))
text_more law list i d old middle new within so_far one =
    let front = map line_value (take i list) in
    let line = line_value (get_or list i d) in
    let text : flat_map line_text front ++ line_text line ≡ flat_map line_text (map line_value (take (i + 1) list)) =
    ap (λ (t : List ℕ). flat_map line_text front ++ t) (sym (append-nil (line_text line))) ∙ sym (flat_map-append line_text front (line ∷ []))
    ∙ ap (flat_map line_text) (sym (more_lines list i d within)) in
    subst (λ (t : List ℕ). Writes old new t) text (and_then law so_far one)

pub added_more : (list : List Line) (i : ℕ) (d : Line) (firsts middle new : List (Option Refusal)) → i < length list
    → middle ≡ firsts_after firsts (map refusal_in (map line_value (take i list))) → new ≡ with_first middle (refusal_in (line_value (get_or list i d)))
    → new ≡ firsts_after firsts (map refusal_in (map line_value (take (i + 1) list)))
added_more list i d firsts middle new within so_far one =
    let front = map line_value (take i list) in
    let line = line_value (get_or list i d) in
    one ∙ ap (λ (f : List (Option Refusal)). with_first f (refusal_in line)) so_far ∙ firsts_more firsts (map refusal_in front) (refusal_in line)
    ∙ ap (firsts_after firsts) (sym (map-append refusal_in front (line ∷ [])) ∙ ap (map refusal_in) (sym (more_lines list i d within)))

pub all_taken : (list : List Line) (i : ℕ) → length list ≤ i → map line_value (take i list) ≡ map line_value list
all_taken list i past = ap (map line_value) (take_all i list past)

texts_are : (form : ListForm) (placed : List (ℕ × LineValue)) → lines_in form placed ≡ flat_map (line_in form) (map (λ (l : ℕ × LineValue). l.1) placed)
texts_are form [] = refl
texts_are form (l ∷ placed) = ap (λ (t : List ℕ). line_in form l.1 ++ t) (texts_are form placed)

forms_are : (form : ListForm) (placed : List (ℕ × LineValue)) → AllByRecursion (λ line. IsInForm form (line_in form line)) (map (λ (l : ℕ × LineValue). l.1) placed) → AreInForm form placed
forms_are form [] all = tt
forms_are form (l ∷ placed) all = (all.0, forms_are form placed all.1)

refusals_are : (placed : List (ℕ × LineValue)) → map (λ (l : ℕ × LineValue). refusal_in l.1) placed ≡ map refusal_in (map (λ (l : ℕ × LineValue). l.1) placed)
refusals_are [] = refl
refusals_are (l ∷ placed) = ap (λ (rs : List (Option Refusal)). refusal_in l.1 ∷ rs) (refusals_are placed)

pub all_put : {T Z : Type 0} {sink : sinks.Ghosts T} (port : ℕ) (form : ListForm) (packets : List Recorded) (talks : Talks Z) (last_packet : ℕ) (list : List Line) (lines lines' : Lines T sink)
    (firsts firsts' : List (Option Refusal)) (count : ℕ) → AreLinesOf port packets talks last_packet (map line_value list)
    → Writes lines lines' (flat_map (line_in form) (map line_value list)) × AllByRecursion (λ line. IsInForm form (line_in form line)) (map line_value list)
    → firsts' ≡ firsts_after firsts (map refusal_in (map line_value list)) → count ≡ length list → PutsAll port form packets talks last_packet lines lines' firsts firsts' (Ok count)
all_put port form packets talks last_packet list lines lines' firsts firsts' count made wrote added counted = record {
  places = keys_of made.placed;
  rise = made.rise;
  puts = record {
    put = made.placed;
    told = made.told;
    are_places = refl;
    wrote = subst (λ (t : List ℕ). Writes lines lines' t) (sym (texts_are form made.placed ∙ ap (flat_map (line_in form)) made.are)) wrote.0;
    in_form = forms_are form made.placed (subst (λ (ls : List LineValue). AllByRecursion (λ line. IsInForm form (line_in form line)) ls) (sym made.are) wrote.1);
    added = added ∙ ap (firsts_after firsts) (sym (refusals_are made.placed ∙ ap (map refusal_in) made.are));
  };
  lacks = inl refl;
  none = inl refl;
  count = counted ∙ sym (length-map list line_value) ∙ ap length (sym made.are) ∙ length-map made.placed (λ (l : ℕ × LineValue). l.1) ∙ sym (key_count made.placed);
  all = λ ample. made.all;
}

some_none : (r : Refusal) → Some r ≡ None → ⊥
some_none r e = cc

no_keys : IsStrictlySortedBy nat_cmp []
unfolding IsStrictlySortedBy
no_keys = tt

pub none_put : {T Z : Type 0} {sink : sinks.Ghosts T} (port : ℕ) (form : ListForm) (packets : List Recorded) (talks : Talks Z) (last_packet : ℕ) (lines lines' : Lines T sink)
    (firsts : List (Option Refusal)) (refusal : Refusal) → Writes lines lines' [] → refusal ≡ refusals.Memory last_packet
    → PutsAll port form packets talks last_packet lines lines' firsts firsts (Err refusal)
none_put port form packets talks last_packet lines lines' firsts refusal wrote is = record {
  places = [];
  rise = no_keys;
  puts = record { put = []; told = tt; are_places = refl; wrote = wrote; in_form = tt; added = refl };
  lacks = inr (ap (λ (r : Refusal). Some r) is);
  none = inr refl;
  count = refl;
  all = λ ample each. absurd (some_none refusal ample);
}
