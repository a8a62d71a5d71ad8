-- Members of an object: those that are put in two parts, and the braces around them.
use Rattle.std.proofs.Common.{◌≡◌, ◌∙◌, ◌++◌, ◌∷◌, [], List, ℕ, Result, Ok, refl, sym, ap, subst, append-nil, append_assoc}
use Rattle.json.specs.Json.{Json}
use Rattle.json.specs.Token.{Token, key, begin_object, end_object}
use Rattle.json.specs.Tree as tree
use Rattle.json.specs.Tree.{json_tokens}
use Rattle.json.specs.Written.{Written, Writes}
use Rattle.bgp_json_values.specs.Adding.{Adds}
use Rattle.bgp_json_values.specs.Objects.{in_object, members_tokens, object_of}
use Rattle.bgp_json_values.proofs.Chains.{one, then}

pub closed : (ms : List (List ℕ × Json)) → tree.members_tokens (in_object ms) ≡ members_tokens ms ++ end_object ∷ []
closed [] = refl
closed (m ∷ ms) =
    ap (λ (ts : List Token). key m.0 ∷ (json_tokens m.1 ++ ts)) (closed ms)
    ∙ ap (λ (ts : List Token). key m.0 ∷ ts) (sym (append_assoc (json_tokens m.1) (members_tokens ms) (end_object ∷ [])))

pub in_two : (ms others : List (List ℕ × Json)) → members_tokens (ms ++ others) ≡ members_tokens ms ++ members_tokens others
in_two [] others = refl
in_two (m ∷ ms) others =
    ap (λ (ts : List Token). key m.0 ∷ (json_tokens m.1 ++ ts)) (in_two ms others)
    ∙ ap (λ (ts : List Token). key m.0 ∷ ts) (sym (append_assoc (json_tokens m.1) (members_tokens ms) (members_tokens others)))

-- members were put, and then others
pub then_members : {E : Type 0} {u : Unit {0}} {r : Result (Unit {0}) E} {a b c : Written} (ms others : List (List ℕ × Json))
    → Adds {E = E} (Ok u) a b (members_tokens ms) → Adds r b c (members_tokens others) → Adds r a c (members_tokens (ms ++ others))
then_members {r} {a} {c} ms others first second = subst (λ (ts : List Token). Adds r a c ts) (sym (in_two ms others)) (then first second)

-- members were put between braces
pub object : {E : Type 0} {u v : Unit {0}} {r : Result (Unit {0}) E} {a b c d : Written} (ms : List (List ℕ × Json)) → Writes {E = E} (Ok u) a b begin_object
    → Adds {E = E} (Ok v) b c (members_tokens ms) → Writes r c d end_object → Adds r a d (json_tokens (object_of ms))
object {r} {a} {d} ms opened inside ended =
    subst (λ (ts : List Token). Adds r a d (begin_object ∷ ts)) (sym (closed ms)) (then (one opened) (then inside (one ended)))

-- members were put behind the opening brace, and then the closing one
pub braced : {E : Type 0} {u : Unit {0}} {r : Result (Unit {0}) E} {a b c : Written} (ms : List (List ℕ × Json))
    → Adds {E = E} (Ok u) a b (begin_object ∷ members_tokens ms) → Writes r b c end_object → Adds r a c (json_tokens (object_of ms))
braced {r} {a} {c} ms inside ended = subst (λ (ts : List Token). Adds r a c (begin_object ∷ ts)) (sym (closed ms)) (then inside (one ended))

-- the last member: its key and its value
pub member : {E : Type 0} {u : Unit {0}} {r : Result (Unit {0}) E} {a b c : Written} (name : List ℕ) (value : Json) → Writes {E = E} (Ok u) a b (key name)
    → Adds r b c (json_tokens value) → Adds r a c (members_tokens ((name, value) ∷ []))
member {r} {a} {c} name value named put = subst (λ (ts : List Token). Adds r a c (key name ∷ ts)) (sym (append-nil (json_tokens value))) (then (one named) put)

-- the last value, behind what stands before it
pub last : {E : Type 0} {u : Unit {0}} {r : Result (Unit {0}) E} {a b c : Written} (front : List Token) (value : Json) → Adds {E = E} (Ok u) a b front
    → Adds r b c (json_tokens value) → Adds r a c (front ++ (json_tokens value ++ []))
last {r} {a} {c} front value first put = subst (λ (ts : List Token). Adds r a c (front ++ ts)) (sym (append-nil (json_tokens value))) (then first put)
