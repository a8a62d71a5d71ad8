-- The tokens of an object that says first what it tells of; and those of an array.
use Rattle.std.proofs.Common.{◌≡◌, ◌∙◌, ◌++◌, ℕ, List, [], ◌∷◌, Result, Ok, refl, sym, ap, append_assoc, codes, map, subst}
use Rattle.json.specs.Json.{Json, string}
use Rattle.json.specs.Token as tokens
use Rattle.json.specs.Token.{Token}
use Rattle.json.specs.Tree as tree
use Rattle.json.specs.Tree.{json_tokens}
use Rattle.json.specs.Written.{Written, Writes}
use Rattle.bgp_json_values.specs.Adding.{Adds}
use Rattle.bgp_json_values.specs.Objects.{array_of, in_array, members_tokens, values_tokens}
use Rattle.bgp_json_values.proofs.Chains.{one, then}
use Rattle.bgp_json_values.proofs.Members.{closed}
use Rattle.bgp_json.specs.Object.{typed}

pub array_closed : (values : List Json) → tree.items_tokens (in_array values) ≡ values_tokens values ++ tokens.end_array ∷ []
array_closed [] = refl
array_closed (v ∷ vs) =
    ap (λ (t : List Token). json_tokens v ++ t) (array_closed vs)
    ∙ sym (append_assoc (json_tokens v) (values_tokens vs) (tokens.end_array ∷ []))

-- an object was begun, its members were put, and it was ended
pub whole : {E : Type 0} {u v : Unit {0}} {r : Result (Unit {0}) E} {a b c d : Written} (kind : List ℕ) (ms : List (List ℕ × Json))
    → Adds {E = E} (Ok u) a b (tokens.begin_object ∷ members_tokens ((codes "type", string kind) ∷ [])) → Adds {E = E} (Ok v) b c (members_tokens ms)
    → Writes r c d tokens.end_object → Adds r a d (json_tokens (typed kind ms))
whole {r} {a} {d} kind ms begun inside ended =
    subst (λ (ts : List Token). Adds r a d (tokens.begin_object ∷ tokens.key (codes "type") ∷ tokens.string kind ∷ ts)) (sym (closed ms))
    (then begun (then inside (one ended)))

values_both : {A : Type 0} (f : A → Json) (xs ys : List A) → values_tokens (map f (xs ++ ys)) ≡ values_tokens (map f xs) ++ values_tokens (map f ys)
values_both f [] ys = refl
values_both f (x ∷ xs) ys =
    ap (λ (ts : List Token). json_tokens (f x) ++ ts) (values_both f xs ys)
    ∙ sym (append_assoc (json_tokens (f x)) (values_tokens (map f xs)) (values_tokens (map f ys)))

-- values were put, and then others
pub then_values : {A E : Type 0} {u : Unit {0}} {r : Result (Unit {0}) E} {a b c : Written} (f : A → Json) (xs ys : List A)
    → Adds {E = E} (Ok u) a b (values_tokens (map f xs)) → Adds r b c (values_tokens (map f ys)) → Adds r a c (values_tokens (map f (xs ++ ys)))
then_values {r} {a} {c} f xs ys first second = subst (λ (ts : List Token). Adds r a c ts) (sym (values_both f xs ys)) (then first second)

-- values were put between brackets
pub array : {A E : Type 0} {u v : Unit {0}} {r : Result (Unit {0}) E} {a b c d : Written} (f : A → Json) (xs : List A) → Writes {E = E} (Ok u) a b tokens.begin_array
    → Adds {E = E} (Ok v) b c (values_tokens (map f xs)) → Writes r c d tokens.end_array → Adds r a d (json_tokens (array_of f xs))
array {r} {a} {d} f xs opened inside ended =
    subst (λ (ts : List Token). Adds r a d (tokens.begin_array ∷ ts)) (sym (array_closed (map f xs))) (then (one opened) (then inside (one ended)))
