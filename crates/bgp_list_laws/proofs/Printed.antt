-- Lists with one text in JSON have one text.
use Rattle.std.proofs.Common.{◌≡◌, ◌∙◌, ◌++◌, ℕ, true, false, List, [], ◌∷◌, All, Option, None, Some, append-nil, append_assoc, bytes_eq, codes, refl, sym, ap, ap₂, subst}
use Rattle.std.specs.List.{flat_map}
use Rattle.std.proofs.lemmas.List.Elements.{All-cons, All-head, All-nil, All-tail}
use Rattle.json.specs.Json.{Json}
use Rattle.json.specs.Print.{print}
use Rattle.json.specs.Tree.{json_tokens}
use Rattle.bgp_import.specs.declared.refusal.Refusal.{Refusal}
use Rattle.bgp_json.specs.Object.{json_line}
use Rattle.bgp_json_laws.proofs.Lookups.{text_of, value_at}
use Rattle.bgp_json_laws.proofs.Printing.{IsPrinted, same_first_line, same_line}
use Rattle.bgp_list.specs.ConnectionJson.{refused_json}
use Rattle.bgp_list.specs.Connections.{refused_text}
use Rattle.bgp_list.specs.Forms.{line_in, line_json, refused_in as refused_in_form}
use Rattle.bgp_list.specs.Lines.{LineValue, Octets, Refused, AllRefused, line_text}
use Rattle.bgp_list.specs.Recording.{file_in, lines_in}
use Rattle.bgp_list.specs.declared.form.ListForm.{ListForm}
use Rattle.bgp_list.specs.declared.form.ListForm.TheVariants.{Text, Json as AsJson}
use Rattle.bgp_list_laws.specs.Laws.{IsListed, Listed, ListsAreDetermined, RefusalsAreDetermined, listed_in}
use Rattle.bgp_list_laws.specs.Ranges.{IsLine, IsRefusal, IsRefusalIfAny}
use Rattle.bgp_list_laws.proofs.Lines.{refused_text_back, same_text}
use Rattle.bgp_list_laws.proofs.Numbers.{line_printed, refused_printed}
use Rattle.bgp_list_laws.proofs.Reading.{refused_in}

-- ---- why a recording can't be read on

refused_reads : (refusal : Refusal) → refused_in (refused_json refusal) ≡ refused_text refusal
refused_reads refusal = refused_text_back refusal

pub same_refused : (refusal other : Refusal) → refused_json refusal ≡ refused_json other → refused_text refusal ≡ refused_text other
same_refused refusal other e = sym (refused_reads refusal) ∙ ap refused_in e ∙ refused_reads other

pub same_refusals : RefusalsAreDetermined
same_refusals refusal other is also e =
    same_refused refusal other (same_line (refused_json refusal) (refused_json other) (refused_printed refusal is) (refused_printed other also) e)

-- ---- items, each with an object and a text

no_line : (text rest : List ℕ) → (text ++ codes "\n") ++ rest ≡ [] → ⊥
no_line [] rest e = cc
no_line (c ∷ text) rest e = cc

pub none_printed : (v : Json) (rest : List ℕ) → json_line v ++ rest ≡ [] → ⊥
unfolding json_line
none_printed v rest e = no_line (print (json_tokens v)) rest e

-- An item is a value with its text: two of one value have one text.
module _ {A : Type 0} (Is : A → Type 0) (value : A → Json) (text : A → List ℕ) (printed : (a : A) → Is a → IsPrinted (value a))
    (same : (a b : A) → Is a → Is b → value a ≡ value b → text a ≡ text b) where
  abbrev lines_of : List A → List ℕ
  lines_of items = flat_map (λ (a : A). json_line (value a)) items

  pub same_items : (items others : List A) → All Is items → All Is others → lines_of items ≡ lines_of others → flat_map text items ≡ flat_map text others
  same_items [] [] are too e = refl
  same_items [] (b ∷ others) are too e = absurd (none_printed (value b) (lines_of others) (sym e))
  same_items (a ∷ items) [] are too e = absurd (none_printed (value a) (lines_of items) e)
  same_items (a ∷ items) (b ∷ others) are too e =
      let is = All-head Is a items are in
      let also = All-head Is b others too in
      let both = same_first_line (value a) (value b) (lines_of items) (lines_of others) (printed a is) (printed b also) e in
      ap₂ ◌++◌ (same a b is also both.0) (same_items items others (All-tail Is a items are) (All-tail Is b others too) both.1)

-- ---- what is listed of a recording, item by item

data Item : Type 0 where
  OfLine : LineValue → Item
  OfFile : Refusal → Item

abbrev IsItem : Item → Type 0
IsItem (OfLine line) = IsLine line
IsItem (OfFile refusal) = IsRefusal refusal

abbrev item_json : Item → Json
item_json (OfLine line) = line_json line
item_json (OfFile refusal) = refused_json refusal

abbrev item_text : Item → List ℕ
item_text (OfLine line) = line_text line
item_text (OfFile refusal) = refused_text refusal

-- an object says what it is of
abbrev type_in : Json → List ℕ
type_in j = text_of (value_at (codes "type") j)

pub not_refused : (kind : List ℕ) (v : Json) (refusal : Json) → bytes_eq kind (codes "refused") ≡ false → type_in v ≡ kind → type_in refusal ≡ codes "refused" → v ≡ refusal → ⊥
not_refused kind v refusal differ of_kind of_refusal e =
    let same : kind ≡ codes "refused" = sym of_kind ∙ ap type_in e ∙ of_refusal in
    let found : bytes_eq (codes "refused") (codes "refused") ≡ false = subst (λ (k : List ℕ). bytes_eq k (codes "refused") ≡ false) same differ in
    let true_is_false : true ≡ false = found in
    let k : ⊥ = cc in
    k

line_isnt : (line : LineValue) (refusal : Refusal) → line_json line ≡ refused_json refusal → ⊥
line_isnt (Octets session opening outline first second) refusal e = not_refused (codes "connection") _ (refused_json refusal) refl refl refl e
line_isnt (Refused session opening refused) refusal e = not_refused (codes "connection") _ (refused_json refusal) refl refl refl e
line_isnt (AllRefused addresses refused) refusal e = not_refused (codes "session") _ (refused_json refusal) refl refl refl e

item_printed : (item : Item) → IsItem item → IsPrinted (item_json item)
item_printed (OfLine line) is = line_printed line is
item_printed (OfFile refusal) is = refused_printed refusal is

same_item : (item other : Item) → IsItem item → IsItem other → item_json item ≡ item_json other → item_text item ≡ item_text other
same_item (OfLine line) (OfLine other) is also e = same_text line other is also e
same_item (OfLine line) (OfFile refusal) is also e = absurd (line_isnt line refusal e)
same_item (OfFile refusal) (OfLine line) is also e = absurd (line_isnt line refusal (sym e))
same_item (OfFile refusal) (OfFile other) is also e = same_refused refusal other e

abbrev item_in : ListForm → Item → List ℕ
item_in Text item = item_text item
item_in AsJson item = json_line (item_json item)

line_item : (form : ListForm) (line : LineValue) → line_in form line ≡ item_in form (OfLine line)
line_item Text line = refl
line_item AsJson line = refl

file_item : (form : ListForm) (refusal : Refusal) → refused_in_form form refusal ≡ item_in form (OfFile refusal)
file_item Text refusal = refl
file_item AsJson refusal = refl

-- those of the lines, and then these
abbrev items_from : List (ℕ × LineValue) → List Item → List Item
items_from [] rest = rest
items_from (l ∷ lines) rest = OfLine l.1 ∷ items_from lines rest

abbrev file_items : Option Refusal → List Item → List Item
file_items None rest = rest
file_items (Some refusal) rest = OfFile refusal ∷ rest

abbrev items_of : Listed → List Item
items_of listed = items_from listed.lines (file_items listed.stopped (file_items listed.lacking []))

lines_are : (form : ListForm) (lines : List (ℕ × LineValue)) (rest : List Item) → lines_in form lines ++ flat_map (item_in form) rest ≡ flat_map (item_in form) (items_from lines rest)
lines_are form [] rest = refl
lines_are form (l ∷ lines) rest =
    append_assoc (line_in form l.1) (lines_in form lines) (flat_map (item_in form) rest) ∙ ap₂ ◌++◌ (line_item form l.1) (lines_are form lines rest)

file_is : (form : ListForm) (refusal : Option Refusal) (rest : List Item) → file_in form refusal ++ flat_map (item_in form) rest ≡ flat_map (item_in form) (file_items refusal rest)
file_is form None rest = refl
file_is form (Some refusal) rest = ap (λ (t : List ℕ). t ++ flat_map (item_in form) rest) (file_item form refusal)

whole : (form : ListForm) (listed : Listed) → listed_in form listed ≡ flat_map (item_in form) (items_of listed)
whole form listed =
    let last = file_items listed.lacking [] in
    ap (λ (t : List ℕ). lines_in form listed.lines ++ (file_in form listed.stopped ++ t)) (sym (append-nil (file_in form listed.lacking)) ∙ file_is form listed.lacking [])
    ∙ ap (λ (t : List ℕ). lines_in form listed.lines ++ t) (file_is form listed.stopped last)
    ∙ lines_are form listed.lines (file_items listed.stopped last)

all_file : (refusal : Option Refusal) (rest : List Item) → IsRefusalIfAny refusal → All IsItem rest → All IsItem (file_items refusal rest)
all_file None rest is all = all
all_file (Some refusal) rest is all = All-cons IsItem (OfFile refusal) rest is all

all_from : (lines : List (ℕ × LineValue)) (rest : List Item) → All (λ (l : ℕ × LineValue). IsLine l.1) lines → All IsItem rest → All IsItem (items_from lines rest)
all_from [] rest are all = all
all_from (l ∷ lines) rest are all =
    All-cons IsItem (OfLine l.1) (items_from lines rest) (All-head (λ (l : ℕ × LineValue). IsLine l.1) l lines are)
    (all_from lines rest (All-tail (λ (l : ℕ × LineValue). IsLine l.1) l lines are) all)

all_items : (listed : Listed) → IsListed listed → All IsItem (items_of listed)
all_items listed is =
    all_from listed.lines (file_items listed.stopped (file_items listed.lacking [])) is.lines
    (all_file listed.stopped (file_items listed.lacking []) is.stopped (all_file listed.lacking [] is.lacking (All-nil IsItem)))

pub same_lists : ListsAreDetermined
same_lists listed other is also e =
    whole Text listed
    ∙ same_items IsItem item_json item_text item_printed same_item (items_of listed) (items_of other) (all_items listed is) (all_items other also)
    (sym (whole AsJson listed) ∙ e ∙ whole AsJson other)
    ∙ sym (whole Text other)
