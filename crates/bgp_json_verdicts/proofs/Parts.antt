-- Lists that are put in parts.
use Rattle.std.proofs.Common.{◌≡◌, ◌∙◌, ◌++◌, ◌+◌, ◌<◌, ℕ, suc, List, [], ◌∷◌, Result, Ok, refl, sym, ap, subst, length, map, drop, get_or, append-nil, append_assoc, add-one}
use Rattle.std.proofs.Math.Seq.{drop-cons}
use Rattle.std.specs.List.{flat_map}
use Rattle.json.specs.Json.{Json, array}
use Rattle.json.specs.Token as tokens
use Rattle.json.specs.Token.{Token}
use Rattle.json.specs.Tree.{json_tokens}
use Rattle.json.specs.Written.{Written, Writes}
use Rattle.bgp_path.specs.AsPath.{PathSegment}
use Rattle.bgp_path.specs.declared.as_path.SegmentKind.TheVariants.{Sequence}
use Rattle.bgp_json_values.specs.Adding.{Adds}
use Rattle.bgp_json_values.specs.Objects.{array_of, in_array, number_of, values_tokens}
use Rattle.bgp_json_values.proofs.Chains.{one, then}
use Rattle.bgp_tool.proofs.Tokens.{array_closed}
use Rattle.bgp_json_verdicts.specs.RouteJson.{kind_values, list_members, path_values}

-- ---- of elements one by one

-- one more of a list is there, whose element at i is x
pub one_more : {X Y : Type 0} (f : X → List Y) (done whole : List Y) (xs : List X) (i : ℕ) (x : X) → i < length xs → x ≡ get_or xs i x
    → done ++ flat_map f (drop i xs) ≡ whole → (done ++ f x) ++ flat_map f (drop (i + 1) xs) ≡ whole
one_more f done whole xs i x within is so_far =
    let rest : drop i xs ≡ x ∷ drop (i + 1) xs =
    rw add-one (drop-cons xs i x within ∙ ap (λ y. y ∷ drop (suc i) xs) (sym is)) in
    append_assoc done (f x) (flat_map f (drop (i + 1) xs))
    ∙ ap (λ o. done ++ o) (sym (ap (flat_map f) rest))
    ∙ so_far

-- nothing is left of a list that was gone through
pub none_left : {X Y : Type 0} (f : X → List Y) (done whole : List Y) (xs : List X) (i : ℕ) → drop i xs ≡ []
    → done ++ flat_map f (drop i xs) ≡ whole → done ≡ whole
none_left f done whole xs i none so_far =
    sym (append-nil done) ∙ sym (ap (λ rest. done ++ flat_map f rest) none) ∙ so_far

-- ---- tokens

pub values_in_two : (xs ys : List Json) → values_tokens (xs ++ ys) ≡ values_tokens xs ++ values_tokens ys
values_in_two [] ys = refl
values_in_two (x ∷ xs) ys =
    ap (λ (ts : List Token). json_tokens x ++ ts) (values_in_two xs ys)
    ∙ sym (append_assoc (json_tokens x) (values_tokens xs) (values_tokens ys))

-- values were put, and then others
pub then_both : {E : Type 0} {u : Unit {0}} {r : Result (Unit {0}) E} {a b c : Written} (xs ys : List Json) → Adds {E = E} (Ok u) a b (values_tokens xs) → Adds r b c (values_tokens ys)
    → Adds r a c (values_tokens (xs ++ ys))
then_both {r} {a} {c} xs ys first second = subst (λ (ts : List Token). Adds r a c ts) (sym (values_in_two xs ys)) (then first second)

-- one value was put
pub lone : {E : Type 0} {r : Result (Unit {0}) E} {a b : Written} (value : Json) → Adds r a b (json_tokens value) → Adds r a b (values_tokens (value ∷ []))
lone {r} {a} {b} value put = subst (λ (ts : List Token). Adds r a b ts) (sym (append-nil (json_tokens value))) put

-- values were put between brackets
pub between : {E : Type 0} {u v : Unit {0}} {r : Result (Unit {0}) E} {a b c d : Written} (xs : List Json) → Writes {E = E} (Ok u) a b tokens.begin_array
    → Adds {E = E} (Ok v) b c (values_tokens xs) → Writes r c d tokens.end_array → Adds r a d (json_tokens (array (in_array xs)))
between {r} {a} {d} xs opened inside ended =
    subst (λ (ts : List Token). Adds r a d (tokens.begin_array ∷ ts)) (sym (array_closed xs)) (then (one opened) (then inside (one ended)))

-- ---- AS paths

pub sequence_values : (numbers : List ℕ) → map number_of numbers ≡ kind_values Sequence numbers
sequence_values [] = refl
sequence_values (n ∷ numbers) = ap (λ (values : List Json). number_of n ∷ values) (sequence_values numbers)

abbrev pub segment_tokens : PathSegment → List Token
segment_tokens s = values_tokens (kind_values s.kind s.numbers)

pub path_tokens : (segments : List PathSegment) → flat_map segment_tokens segments ≡ values_tokens (path_values segments)
path_tokens [] = refl
path_tokens (s ∷ segments) =
    ap (λ (ts : List Token). segment_tokens s ++ ts) (path_tokens segments)
    ∙ sym (values_in_two (kind_values s.kind s.numbers) (path_values segments))

-- ---- lists that may be empty

pub no_list : {X : Type 0} (name : List ℕ) (json : X → Json) (xs : List X) → length xs ≡ 0 → list_members name json xs ≡ []
no_list name json [] none = refl
no_list name json (x ∷ xs) none = absurd (let k : ⊥ = cc in k)

pub some_list : {X : Type 0} (name : List ℕ) (json : X → Json) (xs : List X) → ¬ (length xs ≡ 0) → list_members name json xs ≡ (name, array_of json xs) ∷ []
some_list name json [] some = absurd (some refl)
some_list name json (x ∷ xs) some = refl
