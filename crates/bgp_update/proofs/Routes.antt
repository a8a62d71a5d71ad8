-- Routes in groups, and the changes that they make.
use Rattle.std.proofs.Common.{◌≡◌, ℕ, ◌==◌, List, [], ◌∷◌, ◌++◌, length, Bool, true, false, Option, None, Some, Result, Ok, Err, refl, ap, sym, ◌∙◌, append_assoc, inl, inr}
use Rattle.std.specs.Prelude.{IfOk, OnOk}
use Rattle.bgp_open.specs.Family.{Family}
use Rattle.bgp_open.specs.Family.TheVariants.{V4}
use Rattle.bgp_update.specs.declared.destination.Destination.{Destination}
use Rattle.bgp_open.specs.declared.link.Link.{Link}
use Rattle.bgp_open.specs.Families.{contains}
use Rattle.bgp_attr.specs.NextHop.{NextHop}
use Rattle.bgp_attr.specs.Path.{PathValue}
use Rattle.bgp_attr.specs.declared.classes.Side.{Side}
use Rattle.bgp_attr.specs.declared.types.AttrType.{AttrType}
use Rattle.bgp_attr.specs.declared.types.AttrType.TheVariants as types
use Rattle.bgp_attr.specs.Field.{Attribute}
use Rattle.bgp_attr.specs.First.{first_by_type, value_by_type}
use Rattle.bgp_attr.specs.PathFrom.{path_from, next_hop_from}
use Rattle.bgp_attr.specs.Types.{type_number}
use Rattle.bgp_update.specs.Changes.{Route, routes_with, base_destinations, destinations_among, mp_hop, mp_destinations, AreChanges}
use Rattle.bgp_update.specs.Found.{Found, MpFound, mp_found, is_repeated, side_of}
use Rattle.bgp_update.specs.Groups.{group_with}
use Rattle.bgp_update.specs.Listed.{listed}
use Rattle.bgp_update.specs.Mp.{Mp, mp_state, has_other_bits}
use Rattle.bgp_update.specs.MpValue.{Contents}
use Rattle.bgp_update.specs.WithdrawFaults.{HasWithdrawFault}

pub on_ok : {T E : Type 0} (result : Result T E) (P Q : Type 0) → (P → Q) → OnOk result P → OnOk result Q
on_ok (Ok value) P Q f p = f p
on_ok (Err error) P Q f p = tt

pub if_ok : {T E : Type 0} (result : Result T E) (P Q : T → Type 0) → ((value : T) → P value → Q value) → IfOk result P → IfOk result Q
if_ok (Ok value) P Q f p = f value p
if_ok (Err error) P Q f p = tt

-- ---- what is found of an MP attribute

pub is_found : (link : Link) (read : Family → List ℕ → Option Contents) (t : AttrType) (attributes : List Attribute) (attr : Option Attribute) (state : Mp) (bits repeated : Bool)
    → attr ≡ first_by_type attributes t → state ≡ mp_state link.families read attr → bits ≡ has_other_bits t attr → repeated ≡ is_repeated (type_number t) attributes
    → ◌≡◌ {A = MpFound} (record { state = state; other_bits = bits; is_repeated = repeated }) (mp_found link read t attributes)
is_found link read t attributes attr state bits repeated e s b r = λ i. record {
  state = (s ∙ ap (mp_state link.families read) e) i;
  other_bits = (b ∙ ap (has_other_bits t) e) i;
  is_repeated = r i;
}

-- ---- destinations of routes

alone : (path : PathValue) (ps : List Destination) → destinations_among (routes_with path ps) ≡ ps
alone path [] = refl
alone path (p ∷ ps) = ap (λ (t : List Destination). p ∷ t) (alone path ps)

pub among_both : (a b : PathValue) (ps qs : List Destination) → destinations_among (routes_with a ps ++ routes_with b qs) ≡ ps ++ qs
among_both a b [] qs = alone b qs
among_both a b (p ∷ ps) qs = ap (λ (t : List Destination). p ∷ t) (among_both a b ps qs)

pub announced : (old middle new ps qs : List Destination) (a b : PathValue) → middle ≡ old ++ ps → new ≡ middle ++ qs → new ≡ old ++ destinations_among (routes_with a ps ++ routes_with b qs)
announced old middle new ps qs a b first second = rw (second, first, append_assoc) (ap (λ (t : List Destination). old ++ t) (sym (among_both a b ps qs)))

pub base_listed : (link : Link) (o : Option (List Destination)) → contains link.families V4 ≡ true → listed o ≡ base_destinations link o
base_listed link None used = refl
base_listed link (Some ps) used = rw used refl

pub same_routes : (value : Side → AttrType → Option (List ℕ)) (side also : Side) (hop : NextHop) (ps qs : List Destination)
    → side ≡ also → hop ≡ next_hop_from (value side types.NextHop) → ps ≡ qs
    → routes_with (path_from side (value side) hop) ps ≡ routes_with (path_from also (value also) (next_hop_from (value also types.NextHop))) qs
same_routes value side also hop ps qs s h p = rw (h, s, p) refl

pub mp_routes : (value : Side → AttrType → Option (List ℕ)) (side also : Side) (hop : NextHop) (ps : List Destination) (state : Mp)
    → side ≡ also → hop ≡ mp_hop state → ps ≡ mp_destinations state
    → routes_with (path_from side (value side) hop) ps ≡ routes_with (path_from also (value also) (mp_hop state)) (mp_destinations state)
mp_routes value side also hop ps state s h p = rw (h, s, p) refl

pub appended : (old new group routes : List Route) → new ≡ old ++ group → group ≡ routes → new ≡ old ++ routes
appended old new group routes e same = e ∙ ap (λ (t : List Route). old ++ t) same

-- ---- the changes

pub withdrawn_changes : (x : Found) (w : List Destination) (a : List Route) (middle remove : List Destination) (put : List Route) → HasWithdrawFault x
    → middle ≡ w → remove ≡ middle ++ destinations_among a → put ≡ [] → AreChanges x w a (record { remove = remove; put = put })
withdrawn_changes x w a middle remove put fault first second none = inl (fault, rw (second, first, none) refl)

pub sound_changes : (x : Found) (w : List Destination) (a b : List Route) (remove : List Destination) (one put : List Route) → ¬ HasWithdrawFault x
    → remove ≡ w → one ≡ a → put ≡ one ++ b → AreChanges x w (a ++ b) (record { remove = remove; put = put })
sound_changes x w a b remove one put none first o p = inr (none, rw (first, p, o) refl)

pub from_nothing : {A : Type 0} (old new added also : List A) → new ≡ old ++ added → old ≡ [] → added ≡ also → new ≡ also
from_nothing old new added also e none same = rw (e, none) same

-- the routes of either kind, by the first attribute of each type
abbrev pub base_by : Link → Found → (AttrType → Option Attribute) → List Route
base_by link x first =
    routes_with (path_from (side_of link) (value_by_type (side_of link) first) (next_hop_from (value_by_type (side_of link) first types.NextHop)))
    (base_destinations link x.nlri)

abbrev pub mp_by : Link → Found → (AttrType → Option Attribute) → List Route
mp_by link x first =
    routes_with (path_from (side_of link) (value_by_type (side_of link) first) (mp_hop x.reach.state)) (mp_destinations x.reach.state)

pub never : {b : Bool} → b ≡ true → b ≡ false → ⊥
never h k = absurd cc

-- what was appended to nothing, and isn't empty, is a group
pub one_group : (out old all : List Destination) (n : ℕ) → n ≡ length out → old ≡ [] → out ≡ old ++ all → (n == 0) ≡ false → out ∷ [] ≡ group_with all
one_group out old [] n len none is some =
    let nothing : out ≡ [] = is ∙ ap (λ (t : List Destination). t ++ []) none in
    let e : true ≡ false = ap (λ (k : ℕ). k == 0) (sym (len ∙ ap length nothing)) ∙ some in
    absurd cc
one_group out old (d ∷ ds) n len none is some = ap (λ (t : List Destination). t ∷ []) (is ∙ ap (λ (t : List Destination). t ++ d ∷ ds) none)
