-- The lines of what may follow a session's records, and what the impossible record lacks of each.
use Rattle.std.specs.Prelude.{◌++◌, ℕ, Bool, true, false, List, [], ◌∷◌, if◌then◌else◌, codes}
use Rattle.bgp_machine.specs.declared.fsm.Fsm.{Fsm}
use Rattle.bgp_machine.specs.declared.fsm.Fsm.TheVariants as states
use Rattle.bgp_why_parts.specs.DeclaredPossible.{Possible}
use Rattle.bgp_why_parts.specs.States.{States}
use Rattle.bgp_why.specs.declared.items.Item.{Item}
use Rattle.bgp_why.specs.declared.lacks.Lacks.{Lacks}
use Rattle.bgp_why.specs.declared.other_orders.OtherOrders.{OtherOrders}
use Rattle.bgp_why.specs.declared.other_orders.OtherOrders.TheVariants.{Unasked, Unknown, Known}
use Rattle.bgp_why.specs.declared.style.Style.{Style}
use Rattle.bgp_why.specs.Items.{all_items, first_word, item_text, those_possible}
use Rattle.bgp_why.specs.Lacks.{but_text}
use Rattle.bgp_why.specs.OtherOrders.{besides}

-- all states of a set but this one
abbrev pub states_without : Fsm → States → States
states_without states.Idle s = record s { idle = false }
states_without states.Connect s = record s { connect = false }
states_without states.Active s = record s { active = false }
states_without states.OpenSent s = record s { open_sent = false }
states_without states.OpenConfirm s = record s { open_confirm = false }
states_without states.Established s = record s { established = false }

-- what may follow, as it is shown: no packet of a recording shows a state that is as it was
abbrev pub possible_shown : Bool → Possible → Possible
possible_shown is_recording p =
    if is_recording then record p { changes = states_without p.state p.changes } else p

-- an item after words, and what follows it
unfoldable pub item_line : ℕ → (Item → List ℕ) → List ℕ → Item → List ℕ
item_line first but word item =
    codes "  " ++ (word ++ (item_text first item ++ (but item ++ codes "\n")))

-- the lines of items, each with what follows it: these words stand before the first, and
-- `or: ` before each other
abbrev pub item_lines : ℕ → (Item → List ℕ) → List ℕ → List Item → List ℕ
item_lines first but word [] = []
item_lines first but word (item ∷ items) =
    item_line first but word item ++ item_lines first but (codes "or: ") items

-- those that are shown: in a record's place, or after all records
abbrev pub shown_lines : Style → Bool → (Item → List ℕ) → Possible → List ℕ
shown_lines style is_next but p =
    item_lines style.first but (first_word p.message is_next)
    (those_possible (all_items (possible_shown style.is_recording p)))

-- the lines of items that could have been sent in another order
abbrev pub other_item_lines : ℕ → List Item → List ℕ
other_item_lines first [] = []
other_item_lines first (item ∷ items) =
    item_line first (λ item. []) (codes "or: in another order, ") item
    ++ other_item_lines first items

-- it isn't known what could have been
abbrev pub unknown_line : List ℕ
unknown_line =
    codes "  or: perhaps more in another order (too many to try, or out of memory)\n"

-- what could have been sent in other orders, and isn't among those that may stand in the record's
-- place by the records before it
abbrev pub other_lines : ℕ → Possible → OtherOrders → List ℕ
other_lines first p Unasked = []
other_lines first p Unknown = unknown_line
other_lines first p (Known others) =
    other_item_lines first (those_possible (all_items (besides p others)))

-- what may stand in a record's place, and what the record lacks of it; and what could have been
-- sent there in other orders
abbrev pub possible_but_lines : {X : Type 0} → Style → Possible → Lacks X → List ℕ
possible_but_lines style p lacks =
    shown_lines style false (but_text style.own_faults lacks) p
    ++ other_lines style.first p style.other_orders

-- what may follow all records
abbrev pub possible_lines : Style → Possible → List ℕ
possible_lines style p = shown_lines style true (λ item. []) p
