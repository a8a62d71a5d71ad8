-- What a turn of a loop over destinations, or over routes, is to the whole list.
use Rattle.std.proofs.Common.{◌≡◌, ℕ, ◌+◌, ◌<◌, ◌++◌, true, List, [], ◌∷◌, Some, length, take, get_or, All, Result, Ok, Err, OnOk, OnErr, sym, ap, ◌∙◌}
use Rattle.std.proofs.lemmas.List.{take_more}
use Rattle.std.proofs.lemmas.List.Elements.{All-map, All-contains}
use Rattle.std.proofs.lemmas.Map.Keys.{any_passes_from_place}
use Rattle.std.proofs.lemmas.Map.Views.{Contains-from_any}
use Rattle.std.proofs.lemmas.Option.{slice_get-get_or, slice_get-map}
use Rattle.std.specs.Option.{option_map}
use Rattle.std.specs.Map.{keys_of}
use Rattle.std.specs.Set.{is_member}
use Rattle.bgp_update.specs.declared.destination.Destination.{Destination}
use Rattle.bgp_rib.specs.DestinationOrder.{destination_eq}
use Rattle.bgp_rib.proofs.DestinationKeys.{equal_destinations}

-- the destination of the turn is one of the list
pub member_at : (ps : List Destination) (i : ℕ) (p q : Destination) → i < length ps → p ≡ get_or ps i p
    → destination_eq q p ≡ true → is_member destination_eq ps q ≡ true
member_at ps i p q lt is same =
    any_passes_from_place (destination_eq q) ps i p (slice_get-get_or ps i p lt ∙ ap Some (sym is)) same

pub key_at : {V : Type 0} (es : List (Destination × V)) (i : ℕ) (e : Destination × V) (q : Destination) → i < length es → e ≡ get_or es i e
    → destination_eq q e.0 ≡ true → is_member destination_eq (keys_of es) q ≡ true
key_at es i e q lt is same =
    any_passes_from_place (destination_eq q) (keys_of es) i e.0
    (slice_get-map (λ e. e.0) es i ∙ ap (option_map (λ e. e.0)) (slice_get-get_or es i e lt ∙ ap Some (sym is))) same

-- one turn more
pub taken_more : {X : Type 0} (xs : List X) (i : ℕ) (x : X) → i < length xs → x ≡ get_or xs i x
    → take (i + 1) xs ≡ take i xs ++ x ∷ []
taken_more xs i x lt is = take_more xs i x lt ∙ ap (λ y. take i xs ++ y ∷ []) (sym is)

-- what holds of each of a list holds of a destination that is among it
pub among : (P : Destination → Type 0) (ps : List Destination) (q : Destination) → All P ps → is_member destination_eq ps q ≡ true → P q
among P ps q all is = All-contains P ps q all (Contains-from_any equal_destinations q ps is)

pub among_keys : {V : Type 0} (P : Destination → Type 0) (es : List (Destination × V)) (q : Destination) → All (λ e. P e.0) es
    → is_member destination_eq (keys_of es) q ≡ true → P q
among_keys {V} P es q all is = among P (keys_of es) q (All-map P (λ (e : Destination × V). e.0) es all) is

-- of a call that was not refused
pub on_ok : {X E : Type 0} (r : Result X E) {P Q : Type 0} → OnOk r P → (P → Q) → OnOk r Q
on_ok (Ok x) h f = f h
on_ok (Err e) h f = h

pub on_both : {X E : Type 0} (r : Result X E) {P Q R : Type 0} → OnOk r P → OnOk r Q → (P → Q → R) → OnOk r R
on_both (Ok x) h k f = f h k
on_both (Err e) h k f = h

pub either : {X E : Type 0} (r : Result X E) {P Q R : Type 0} → OnOk r P → OnErr r Q → (P → R) → (Q → R) → R
either (Ok x) p q f h = f p
either (Err x) p q f h = h q
