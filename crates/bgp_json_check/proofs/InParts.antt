-- Lists that are put one by one.
use Rattle.std.proofs.Common.{◌≡◌, ◌∙◌, ◌++◌, ◌+◌, ◌<◌, ℕ, suc, List, [], ◌∷◌, refl, sym, ap, length, map, drop, get_or, append-nil, append_assoc, add-one}
use Rattle.std.proofs.Math.Seq.{drop-cons}
use Rattle.std.specs.List.{flat_map}
use Rattle.json.specs.Json.{Json}
use Rattle.json.specs.Token.{Token}
use Rattle.bgp_machine.specs.Run.{End}
use Rattle.bgp_json_values.specs.Objects.{members_tokens}
use Rattle.bgp_json_values.proofs.Members.{in_two}
use Rattle.bgp_json_check.specs.Members.{all_members, member_of}
use Rattle.bgp_json_check.specs.Objects.{numbered_json}
use Rattle.bgp_json_check.specs.declared.member.Member.{Member}

-- one more of a list is there, whose element at i is x
pub one_more : {X Y : Type 0} (f : X → List Y) (done whole : List Y) (xs : List X) (i : ℕ) (x : X) → i < length xs → x ≡ get_or xs i x
    → done ++ flat_map f (drop i xs) ≡ whole → (done ++ f x) ++ flat_map f (drop (i + 1) xs) ≡ whole
one_more f done whole xs i x within is so_far =
    let rest : drop i xs ≡ x ∷ drop (i + 1) xs =
    rw add-one (drop-cons xs i x within ∙ ap (λ y. y ∷ drop (suc i) xs) (sym is)) in
    append_assoc done (f x) (flat_map f (drop (i + 1) xs))
    ∙ ap (λ o. done ++ o) (sym (ap (flat_map f) rest))
    ∙ so_far

-- the same, whichever element stands for none
pub one_more_at : {X Y : Type 0} (f : X → List Y) (done whole : List Y) (xs : List X) (i : ℕ) (d : X) → i < length xs
    → done ++ flat_map f (drop i xs) ≡ whole → (done ++ f (get_or xs i d)) ++ flat_map f (drop (i + 1) xs) ≡ whole
one_more_at f done whole xs i d within so_far =
    let rest : drop i xs ≡ get_or xs i d ∷ drop (i + 1) xs = rw add-one (drop-cons xs i d within) in
    append_assoc done (f (get_or xs i d)) (flat_map f (drop (i + 1) xs))
    ∙ ap (λ o. done ++ o) (sym (ap (flat_map f) rest))
    ∙ so_far

-- nothing is left of a list that was gone through
pub none_left : {X Y : Type 0} (f : X → List Y) (done whole : List Y) (xs : List X) (i : ℕ) → drop i xs ≡ []
    → done ++ flat_map f (drop i xs) ≡ whole → done ≡ whole
none_left f done whole xs i none so_far =
    sym (append-nil done) ∙ sym (ap (λ rest. done ++ flat_map f rest) none) ∙ so_far

-- the tokens of a member
abbrev pub member_tokens : Member → List Token
member_tokens m = members_tokens (member_of m)

pub all_tokens : (ms : List Member) → flat_map member_tokens ms ≡ members_tokens (all_members ms)
all_tokens [] = refl
all_tokens (m ∷ []) = append-nil (member_tokens m)
all_tokens (m ∷ n ∷ ms) =
    ap (λ (ts : List Token). member_tokens m ++ ts) (all_tokens (n ∷ ms))
    ∙ sym (in_two (member_of m) (all_members (n ∷ ms)))

-- ---- ends that are numbered

-- one more end is told, whose number is i + 1
pub one_end : {X : Type 0} (value : X → End) (json : ℕ → End → List Json) (done whole : List Json) (xs : List X) (i : ℕ) (x : X) → i < length xs → x ≡ get_or xs i x
    → done ++ numbered_json json (i + 1) (map value (drop i xs)) ≡ whole → (done ++ json (i + 1) (value x)) ++ numbered_json json (i + 1 + 1) (map value (drop (i + 1) xs)) ≡ whole
one_end value json done whole xs i x within is so_far =
    let rest : drop i xs ≡ x ∷ drop (i + 1) xs =
    rw add-one (drop-cons xs i x within ∙ ap (λ y. y ∷ drop (suc i) xs) (sym is)) in
    append_assoc done (json (i + 1) (value x)) (numbered_json json (i + 1 + 1) (map value (drop (i + 1) xs)))
    ∙ ap (λ o. done ++ o) (sym (ap (λ ys. numbered_json json (i + 1) (map value ys)) rest))
    ∙ so_far

-- no end is left
pub no_end : {X : Type 0} (value : X → End) (json : ℕ → End → List Json) (done whole : List Json) (xs : List X) (i : ℕ) → drop i xs ≡ []
    → done ++ numbered_json json (i + 1) (map value (drop i xs)) ≡ whole → done ≡ whole
no_end value json done whole xs i none so_far =
    sym (append-nil done) ∙ sym (ap (λ ys. done ++ numbered_json json (i + 1) (map value ys)) none) ∙ so_far
