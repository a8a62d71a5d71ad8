-- Values of JSON whose texts have nothing hidden are printed without control characters.
use Rattle.std.proofs.Common.{◌≡◌, ◌++◌, ◌&&◌, ℕ, Bool, true, false, List, [], ◌∷◌, All, codes, map, nat_lt, refl}
use Rattle.std.specs.List.{list_any}
use Rattle.std.specs.Str.{chars}
use Rattle.std.specs.Prelude.{⊤}
use Rattle.std.proofs.lemmas.Bool.{cond_both}
use Rattle.std.proofs.lemmas.List.Elements.{All-head, All-tail}
use Rattle.json.specs.Json.{Json, Items, Members, null, boolean, number, string, array, object, no_items, item, no_members, member}
use Rattle.json.specs.Print.{begins, ends, print, print_from, separator, token_text}
use Rattle.json.specs.Token.{Token}
use Rattle.json.specs.Tree.{items_tokens, json_tokens, members_tokens}
use Rattle.bgp_values.specs.Readable.{is_hidden}
use Rattle.bgp_json_values.specs.Objects.{array_of, in_array, in_object, number_of, object_of}
use Rattle.bgp_visible_laws.specs.Visible.{IsVisible, is_control}
use Rattle.bgp_visible_laws.proofs.Texts.{decimal_visible}
use Rattle.bgp_visible_laws.proofs.Visible.{IsReadable, between_quotes, both, is_word, neither, nothing, or_false, word}

-- ---- texts

any_weaker : (cs : List ℕ) → list_any is_control cs ≡ false → list_any is_hidden cs ≡ false
any_weaker [] none = refl
any_weaker (c ∷ cs) none =
    let parts = neither (is_control c) (list_any is_control cs) none in
    or_false (is_hidden c) (list_any is_hidden cs) (neither (nat_lt c 32) (is_hidden c) parts.0).1 (any_weaker cs parts.1)

pub as_readable : {text : List ℕ} → IsVisible text → IsReadable text
as_readable {text} visible = record { utf8 = visible.utf8; shown = any_weaker (chars text) visible.shown }

-- ---- values

abbrev mutual
  pub AreTexts : Json → Type 0
  AreTexts null = ⊤
  AreTexts (boolean b) = ⊤
  AreTexts (number s) = IsVisible s
  AreTexts (string s) = IsReadable s
  AreTexts (array js) = ItemsAreTexts js
  AreTexts (object ms) = MembersAreTexts ms

  pub ItemsAreTexts : Items → Type 0
  ItemsAreTexts no_items = ⊤
  ItemsAreTexts (item j js) = AreTexts j × ItemsAreTexts js

  pub MembersAreTexts : Members → Type 0
  MembersAreTexts no_members = ⊤
  MembersAreTexts (member k j ms) = IsReadable k × AreTexts j × MembersAreTexts ms

-- the same of members in a list
abbrev pub HaveTexts : List (List ℕ × Json) → Type 0
HaveTexts [] = ⊤
HaveTexts (m ∷ ms) = IsReadable m.0 × AreTexts m.1 × HaveTexts ms

pub as_key : (key : List ℕ) → is_word key ≡ true → IsReadable key
as_key key is = as_readable (word key is)

-- a member with such a key, and others
pub field : (key : List ℕ) → is_word key ≡ true → {A B : Type 0} → A → B → IsReadable key × A × B
field key is value rest = (as_key key is, value, rest)

pub of_number : (n : ℕ) → AreTexts (number_of n)
of_number n = decimal_visible n

pub of_text : {text : List ℕ} → IsVisible text → AreTexts (string text)
of_text visible = as_readable visible

in_members : (ms : List (List ℕ × Json)) → HaveTexts ms → MembersAreTexts (in_object ms)
in_members [] each = tt
in_members (m ∷ ms) each = (each.0, each.1, in_members ms each.2)

pub of_object : (ms : List (List ℕ × Json)) → HaveTexts ms → AreTexts (object_of ms)
of_object ms each = in_members ms each

in_items : {A : Type 0} (f : A → Json) (P : A → Type 0) → ((x : A) → P x → AreTexts (f x)) → (xs : List A) → All P xs → ItemsAreTexts (in_array (map f xs))
in_items f P each [] all = tt
in_items f P each (x ∷ xs) all = (each x (All-head P x xs all), in_items f P each xs (All-tail P x xs all))

pub of_array : {A : Type 0} (f : A → Json) (P : A → Type 0) → ((x : A) → P x → AreTexts (f x)) → (xs : List A) → All P xs → AreTexts (array_of f xs)
of_array f P each xs all = in_items f P each xs all

in_any : {A : Type 0} (f : A → Json) → ((x : A) → AreTexts (f x)) → (xs : List A) → ItemsAreTexts (in_array (map f xs))
in_any f each [] = tt
in_any f each (x ∷ xs) = (each x, in_any f each xs)

pub of_any : {A : Type 0} (f : A → Json) → ((x : A) → AreTexts (f x)) → (xs : List A) → AreTexts (array_of f xs)
of_any f each xs = in_any f each xs

pub of_both : (ms ns : List (List ℕ × Json)) → HaveTexts ms → HaveTexts ns → HaveTexts (ms ++ ns)
of_both [] ns first second = second
of_both (m ∷ ms) ns first second = (first.0, first.1, of_both ms ns first.2 second)

-- ---- tokens

abbrev IsShown : Token → Type 0
IsShown Token.begin_object = ⊤
IsShown Token.end_object = ⊤
IsShown Token.begin_array = ⊤
IsShown Token.end_array = ⊤
IsShown (Token.key s) = IsReadable s
IsShown (Token.string s) = IsReadable s
IsShown (Token.number s) = IsVisible s
IsShown (Token.boolean b) = ⊤
IsShown Token.null = ⊤
IsShown Token.bad = ⊤

abbrev AreShown : List Token → Type 0
AreShown [] = ⊤
AreShown (t ∷ ts) = IsShown t × AreShown ts

both_shown : (ts us : List Token) → AreShown ts → AreShown us → AreShown (ts ++ us)
both_shown [] us first second = second
both_shown (t ∷ ts) us first second = (first.0, both_shown ts us first.1 second)

mutual
  shown_tokens : (j : Json) → AreTexts j → AreShown (json_tokens j)
  shown_tokens null are = (tt, tt)
  shown_tokens (boolean b) are = (tt, tt)
  shown_tokens (number s) are = (are, tt)
  shown_tokens (string s) are = (are, tt)
  shown_tokens (array js) are = (tt, shown_items js are)
  shown_tokens (object ms) are = (tt, shown_members ms are)

  shown_items : (js : Items) → ItemsAreTexts js → AreShown (items_tokens js)
  shown_items no_items are = (tt, tt)
  shown_items (item j js) are = both_shown (json_tokens j) (items_tokens js) (shown_tokens j are.0) (shown_items js are.1)

  shown_members : (ms : Members) → MembersAreTexts ms → AreShown (members_tokens ms)
  shown_members no_members are = (tt, tt)
  shown_members (member k j ms) are = (are.0, both_shown (json_tokens j) (members_tokens ms) (shown_tokens j are.1) (shown_members ms are.2))

token_visible : (t : Token) → IsShown t → IsVisible (token_text t)
token_visible Token.begin_object is = word (codes "{") refl
token_visible Token.end_object is = word (codes "}") refl
token_visible Token.begin_array is = word (codes "[") refl
token_visible Token.end_array is = word (codes "]") refl
token_visible (Token.key s) is = both (between_quotes s is) (word (codes ":") refl)
token_visible (Token.string s) is = between_quotes s is
token_visible (Token.number s) is = is
token_visible (Token.boolean true) is = word (codes "true") refl
token_visible (Token.boolean false) is = word (codes "false") refl
token_visible Token.null is = word (codes "null") refl
token_visible Token.bad is = nothing

separator_visible : (after : Bool) (t : Token) → IsVisible (separator after t)
separator_visible after t = cond_both (after && begins t) (44 ∷ []) [] IsVisible (λ _. word (codes ",") refl) (λ _. nothing)

tokens_visible : (after : Bool) (ts : List Token) → AreShown ts → IsVisible (print_from after ts)
unfolding print_from
tokens_visible after [] are = nothing
tokens_visible after (t ∷ ts) are = both (separator_visible after t) (both (token_visible t are.0) (tokens_visible (ends t) ts are.1))

pub print_visible : (j : Json) → AreTexts j → IsVisible (print (json_tokens j))
print_visible j are = tokens_visible false (json_tokens j) (shown_tokens j are)
