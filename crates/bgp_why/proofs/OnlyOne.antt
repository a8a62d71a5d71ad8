-- The one message of a list of items, found item by item.
use Rattle.std.proofs.Common.{◌≡◌, ◌∙◌, ◌+◌, ◌∷◌, ◌<◌, ◌≤◌, ℕ, Bool, true, false, List, [], Option, None, Some, if◌then◌else◌, refl, ap, sym, inl, inr, length, drop, get_or, add-one}
use Rattle.std.proofs.Math.ListN.{drop_of_length-le}
use Rattle.std.proofs.Math.Seq.{drop-cons}
use Rattle.std.proofs.lemmas.Bool.{cases_Bool}
use Rattle.bgp_why.specs.declared.cause.Found.{Found}
use Rattle.bgp_why.specs.declared.cause.Found.TheVariants.{Nothing, One, Several}
use Rattle.bgp_why.specs.declared.items.Item.{Item}
use Rattle.bgp_why.specs.Deed.{is_message, messages_in, only}
use Rattle.bgp_why.specs.Found.{found_with, the_one, with_message}
use Rattle.bgp_why.specs.Items.{those_possible}

-- the one message, if these follow what is found
abbrev pub one_of : Found → List Item → Option Item
one_of Nothing items = only items
one_of (One item) items = only (item ∷ items)
one_of Several items = None

-- the one message among items that may be there
abbrev pub one_in : Found → List (Option Item) → Option Item
one_in found items = one_of found (messages_in (those_possible items))

with_one : (item : Item) (found : Found) (items : List Item) → one_of (with_message item found) items ≡ one_of found (item ∷ items)
with_one item Nothing items = refl
with_one item (One other) items = refl
with_one item Several items = refl

step : (found : Found) (item : Option Item) (items : List (Option Item)) → one_in (found_with item found) items ≡ one_in found (item ∷ items)
step found None items = refl
step found (Some item) items = elim (cases_Bool (is_message item)) [
  | inl is ↦ rw is (with_one item found (messages_in (those_possible items)))
  | inr isnt ↦ rw isnt refl
]

-- one more of the items was taken, the one at i
pub one_more : (found : Found) (whole : Option Item) (items : List (Option Item)) (i : ℕ) → i < length items
    → one_in found (drop i items) ≡ whole → one_in (found_with (get_or items i None) found) (drop (i + 1) items) ≡ whole
one_more found whole items i within so_far =
    let item = get_or items i None in
    let rest : drop i items ≡ item ∷ drop (i + 1) items = rw add-one (drop-cons items i None within) in
    step found item (drop (i + 1) items) ∙ ap (λ (left : List (Option Item)). one_in found left) (sym rest) ∙ so_far

last_is : (found : Found) → the_one found ≡ one_of found []
last_is Nothing = refl
last_is (One item) = refl
last_is Several = refl

-- none of them is left
pub none_left : (found : Found) (whole : Option Item) (items : List (Option Item)) (i : ℕ) → length items ≤ i
    → one_in found (drop i items) ≡ whole → the_one found ≡ whole
none_left found whole items i past so_far =
    last_is found ∙ ap (λ (left : List (Option Item)). one_in found left) (sym (drop_of_length-le items past)) ∙ so_far
