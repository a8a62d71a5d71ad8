-- Walks: orders of what packets tell, item by item, where each item may stand next when it does.
use Rattle.std.specs.Prelude.{◌≡◌, ℕ, List, [], ◌∷◌, Option, None, Some}
use Rattle.streams.specs.declared.connection.End.{End}
use Rattle.bgp_recording.specs.declared.message.Message.{Message}
use Rattle.bgp_recording.specs.Allowed.{Item, Received, Sent, Ended, IsAllowed}
use Rattle.bgp_recording.specs.Leads.{MayReceive, MayPass}
use Rattle.bgp_recording.specs.Told.{AreClocked}

-- Each item is the next one of what is left, and may stand next. At the end nothing is left.
abbrev pub IsWalk : ℕ → List Message → List Message → Option End → List Item → Type 0
IsWalk within received sent end [] = (received ≡ []) × (sent ≡ []) × (end ≡ None)
IsWalk within received sent end (Received m ∷ later) =
    (left : List Message) × (received ≡ m ∷ left) × MayReceive m sent end
    × IsWalk within left sent end later
IsWalk within received sent end (Sent m ∷ later) =
    (left : List Message) × (sent ≡ m ∷ left) × MayPass within m.second received
    × IsWalk within received left end later
IsWalk within received sent end (Ended e ∷ later) =
    (end ≡ Some e) × (sent ≡ []) × MayPass within e.second received
    × IsWalk within received sent None later

-- ---- the laws

-- a walk is an allowed order, if what packets tell goes by a clock
abbrev pub WalksAreOrders : Type 0
WalksAreOrders =
    (within : ℕ) (clock : ℕ → ℕ) (received sent : List Message) (end : Option End)
    (order : List Item) → AreClocked clock received sent end
    → IsWalk within received sent end order → IsAllowed within received sent end order

-- an allowed order is a walk
abbrev pub OrdersAreWalks : Type 0
OrdersAreWalks =
    (within : ℕ) (received sent : List Message) (end : Option End) (order : List Item)
    → IsAllowed within received sent end order → IsWalk within received sent end order

-- From each place some walk leads to the end. So whatever stands in an order so far, it begins one
-- that is allowed.
abbrev pub WalksGoOn : Type 0
WalksGoOn =
    (within : ℕ) (clock : ℕ → ℕ) (received sent : List Message) (end : Option End)
    → AreClocked clock received sent end
    → (order : List Item) × IsWalk within received sent end order
