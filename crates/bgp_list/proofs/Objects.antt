-- Lines of JSON are made one after another.
use Rattle.std.proofs.Common.{◌≡◌, ◌∙◌, ◌++◌, ◌+◌, ◌<◌, ◌≤◌, ℕ, List, [], ◌∷◌, length, map, take, get_or, refl, sym, ap, subst, append-nil}
use Rattle.std.proofs.lemmas.Grind.{flat_map-append}
use Rattle.std.proofs.lemmas.List.{map-append, take_all, take_more}
use Rattle.std.specs.List.{AllByRecursion, flat_map}
use Rattle.json.specs.Json.{Json}
use Rattle.mrt_sessions.specs.File.{Located}
use Rattle.mrt_sessions.specs.Sessions.{HoldsSessions, held_records, held_sessions, records_between, sessions_in}
use Rattle.mrt_sessions.specs.declared.addresses.Addresses.{Addresses}
use Rattle.mrt_sessions.specs.declared.sessions.Sessions.{Sessions}
use Rattle.bgp_json.specs.Line.{IsOneValue}
use Rattle.bgp_json.specs.Object.{json_line}
use Rattle.bgp_list.specs.Forms.{AreSessionsInForm, IsInForm, line_in, line_json, session_in, sessions_in_form}
use Rattle.bgp_list.specs.Lines.{LineValue, line_value}
use Rattle.bgp_list.specs.Objects.{AreObjects}
use Rattle.bgp_list.specs.SessionJson.{session_json}
use Rattle.bgp_list.specs.declared.form.ListForm.TheVariants.{Text, Json as AsJson}
use Rattle.bgp_list.specs.declared.line.Line.{Line}

-- ---- one more

all_of : {X : Type 0} (P : X → Type 0) (xs : List X) (one : X) → AllByRecursion P xs → P one → AllByRecursion P (xs ++ one ∷ [])
all_of P [] one all p = (p, tt)
all_of P (b ∷ xs) one all p = (all.0, all_of P xs one all.1 p)

abbrev IsValue : Json → Type 0
IsValue value = IsOneValue (json_line value)

one_more : (objects : List Json) (one : Json) (old new : List ℕ) → AreObjects old objects → (new ≡ old ++ json_line one) × IsOneValue (json_line one) → AreObjects new (objects ++ one ∷ [])
one_more objects one old new so_far added = record {
  are_lines = added.0
      ∙ ap (λ (t : List ℕ). t ++ json_line one) so_far.are_lines
      ∙ ap (λ (t : List ℕ). flat_map json_line objects ++ t) (sym (append-nil (json_line one)))
      ∙ sym (flat_map-append json_line objects (one ∷ []));
  are_values = all_of IsValue objects one so_far.are_values added.1;
}

-- of these items, so many have their lines
pub item_more : {X : Type 0} (made : X → Json) (xs : List X) (i : ℕ) (d : X) (old new : List ℕ) → i < length xs → AreObjects old (map made (take i xs))
    → (new ≡ old ++ json_line (made (get_or xs i d))) × IsOneValue (json_line (made (get_or xs i d))) → AreObjects new (map made (take (i + 1) xs))
item_more made xs i d old new within so_far added =
    subst (λ (objects : List Json). AreObjects new objects)
    (sym (ap (map made) (take_more xs i d within) ∙ map-append made (take i xs) (get_or xs i d ∷ [])))
    (one_more (map made (take i xs)) (made (get_or xs i d)) old new so_far added)

pub item_with : {X : Type 0} (made : X → Json) (xs ys : List X) (i : ℕ) (d : X) (old new : List ℕ) → xs ≡ ys → i < length xs → AreObjects old (map made (take i ys))
    → (new ≡ old ++ json_line (made (get_or xs i d))) × IsOneValue (json_line (made (get_or xs i d))) → AreObjects new (map made (take (i + 1) ys))
item_with {X} made xs ys i d old new same within so_far added =
    subst (λ (zs : List X). AreObjects new (map made (take (i + 1) zs))) same
    (item_more made xs i d old new within (subst (λ (zs : List X). AreObjects old (map made (take i zs))) (sym same) so_far) added)

pub none_yet : (text : List ℕ) → text ≡ [] → AreObjects text []
none_yet text none = record { are_lines = none; are_values = tt }

pub all_items : {X : Type 0} (made : X → Json) (xs : List X) (i : ℕ) (text : List ℕ) → length xs ≤ i → AreObjects text (map made (take i xs)) → AreObjects text (map made xs)
all_items {X} made xs i text past so_far = subst (λ (zs : List X). AreObjects text (map made zs)) (take_all i xs past) so_far

-- ---- lines

pub lines_are : (list : List Line) → flat_map json_line (map (λ line. line_json (line_value line)) list) ≡ flat_map (line_in AsJson) (map line_value list)
lines_are [] = refl
lines_are (line ∷ list) = ap (λ (t : List ℕ). json_line (line_json (line_value line)) ++ t) (lines_are list)

pub values_are : (list : List Line) → AllByRecursion IsValue (map (λ line. line_json (line_value line)) list)
    → AllByRecursion (λ line. IsInForm AsJson (line_in AsJson line)) (map line_value list)
values_are [] all = tt
values_are (line ∷ list) all = (all.0, values_are list all.1)

pub all_texts : (list : List LineValue) → AllByRecursion (λ line. IsInForm Text (line_in Text line)) list
all_texts [] = tt
all_texts (line ∷ list) = (tt, all_texts list)

-- ---- sessions

module _ {Z : Type 0} (named : List Located) (sessions : Sessions Z) (holds : HoldsSessions named sessions) where
  sessions_from : (list : List Addresses) → flat_map json_line (map (λ addresses. session_json addresses (held_records sessions addresses)) list)
      ≡ flat_map (λ addresses. session_in AsJson addresses (records_between addresses named)) list
  sessions_from [] = refl
  sessions_from (addresses ∷ list) =
      ap (λ (records : List Located). json_line (session_json addresses records) ++ flat_map json_line (map (λ addresses. session_json addresses (held_records sessions addresses)) list)) (holds.each addresses)
      ∙ ap (λ (t : List ℕ). json_line (session_json addresses (records_between addresses named)) ++ t) (sessions_from list)

  values_from : (list : List Addresses) → AllByRecursion IsValue (map (λ addresses. session_json addresses (held_records sessions addresses)) list)
      → AllByRecursion (λ addresses. IsInForm AsJson (session_in AsJson addresses (records_between addresses named))) list
  values_from [] all = tt
  values_from (addresses ∷ list) all =
      (subst (λ (records : List Located). IsOneValue (json_line (session_json addresses records))) (holds.each addresses) all.0, values_from list all.1)

  pub sessions_are : flat_map json_line (map (λ addresses. session_json addresses (held_records sessions addresses)) (held_sessions sessions)) ≡ sessions_in_form AsJson named
  sessions_are =
      sessions_from (held_sessions sessions)
      ∙ ap (flat_map (λ addresses. session_in AsJson addresses (records_between addresses named))) holds.in_order

  pub session_values_are : AllByRecursion IsValue (map (λ addresses. session_json addresses (held_records sessions addresses)) (held_sessions sessions)) → AreSessionsInForm AsJson named
  session_values_are all =
      subst (λ (list : List Addresses). AllByRecursion (λ addresses. IsInForm AsJson (session_in AsJson addresses (records_between addresses named))) list)
      holds.in_order (values_from (held_sessions sessions) all)

texts_from : (named : List Located) (list : List Addresses) → AllByRecursion (λ addresses. IsInForm Text (session_in Text addresses (records_between addresses named))) list
texts_from named [] = tt
texts_from named (addresses ∷ list) = (tt, texts_from named list)

pub all_session_texts : (named : List Located) → AreSessionsInForm Text named
all_session_texts named = texts_from named (sessions_in named)
