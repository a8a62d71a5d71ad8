-- What the lines of a reason say: which records are of an item, and that they tell all that may
-- follow.
use Rattle.std.specs.Prelude.{◌≡◌, ◌≤◌, ◌<◌, ◌^◌, ◌↔◌, ◌⊎◌, ℕ, List, Option, IfSome}
use Rattle.bgp_prefix.specs.Shown.{ShownRecord, Received, Sent, Changed}
use Rattle.bgp_wire.specs.Framing.{IsFrame}
use Rattle.bgp_wire.specs.Message.{IsMessage}
use Rattle.bgp_wire.specs.Verdict.{Names as NamesHeaderError}
use Rattle.bgp_open.specs.declared.config.Config.{Config}
use Rattle.bgp_open.specs.declared.link.Link.{Link}
use Rattle.bgp_open.specs.OpenSubcodes.{Names as NamesOpenError}
use Rattle.bgp_open.specs.OwnOpen.{IsOwnOpen}
use Rattle.bgp_update.specs.Subcodes.{HasSubcode}
use Rattle.bgp_machine.specs.Lists.{Each, Has}
use Rattle.bgp_machine.specs.State.{number_of}
use Rattle.bgp_machine.specs.Want.{Tells, limit_on}
use Rattle.bgp_why_parts.specs.DeclaredPossible.{Possible}
use Rattle.bgp_why_parts.specs.Asked.{AreAsked}
use Rattle.bgp_why_parts.specs.Following.{MayFollow}
use Rattle.bgp_why_parts.specs.Possible.{ArePossible, HasFsmError, IsAmong, IsCapturable}
use Rattle.bgp_why_parts.specs.Possible.{IsCleanOn}
use Rattle.bgp_why_parts.specs.Sending.{sending_link}
use Rattle.bgp_why.specs.declared.items.Item.{Item}
use Rattle.bgp_why.specs.declared.items.Item.TheVariants as items
use Rattle.bgp_why.specs.Items.{all_items, those_possible}
use Rattle.bgp_why.specs.OtherOrders.{besides}

-- a message that is sent at this second, on this link, is what an item says
abbrev pub SaysItem : Config → Option Link → ℕ → List ℕ → Item → Type 0
SaysItem config link second octets items.ReceivedMessage = ⊥
SaysItem config link second octets items.SentOpen = IsOwnOpen config octets
SaysItem config link second octets items.SentKeepalive = IsMessage 4 octets
SaysItem config link second octets items.SentUpdate = IsCleanOn link octets
SaysItem config link second octets (items.HeaderErrors errors) =
    Tells octets (λ code subcode detail. (code ≡ 1) × NamesHeaderError errors subcode detail)
SaysItem config link second octets (items.OpenErrors errors) =
    Tells octets (λ code subcode detail. (code ≡ 2) × NamesOpenError errors subcode detail)
SaysItem config link second octets (items.UpdateErrors errors) =
    Tells octets (λ code subcode detail. (code ≡ 3) × HasSubcode errors subcode)
SaysItem config link second octets (items.HoldTimerExpired from) =
    Tells octets (λ code subcode detail. (code ≡ 4) × (subcode ≡ 0) × (from ≤ second))
SaysItem config link second octets items.SendHoldTimerExpired =
    Tells octets (λ code subcode detail. (code ≡ 8) × (subcode ≡ 0))
SaysItem config link second octets (items.StateErrors errors) =
    Tells octets (λ code subcode detail. (code ≡ 5) × HasFsmError errors subcode)
SaysItem config link second octets items.Cease = Tells octets (λ code subcode detail. code ≡ 6)
SaysItem config link second octets (items.Change from to) = ⊥

abbrev pub IsChangeOf : ℕ → ℕ → Item → Type 0
IsChangeOf old new (items.Change from to) = (old ≡ number_of from) × (new ≡ number_of to)
IsChangeOf old new item = ⊥

-- the record is of the item: a message that is received; a whole message that is sent on the link;
-- or a change
abbrev pub IsOfItem : Config → Option Link → ShownRecord → Item → Type 0
IsOfItem config link (Received second octets) item = item ≡ items.ReceivedMessage
IsOfItem config link (Sent second octets) item =
    IsFrame (limit_on link) octets × SaysItem config link second octets item
IsOfItem config link (Changed second old new) item = IsChangeOf old new item

-- the items that have a line each
abbrev pub items_told : Possible → List Item
items_told possible = those_possible (all_items possible)

-- ---- the law

-- A record that a capture can hold may follow just where it is of an item that has a line; and no
-- line is without such a record.
pub record TellAll (config : Config) (records : List ShownRecord) (possible : Possible) : Type 0
  where
    pub all : (shown : ShownRecord) → IsCapturable config records shown
        → MayFollow config records shown
        ↔ Has (IsOfItem config (sending_link config records) shown) (items_told possible)
    pub none_idle : Each (λ item. (shown : ShownRecord) × IsCapturable config records shown
        × IsOfItem config (sending_link config records) shown item) (items_told possible)

abbrev pub LinesTellAll : Type 0
LinesTellAll =
    (config : Config) (records : List ShownRecord) (possible : Possible)
    → ArePossible config records possible → AreAsked config records possible
    → IfSome possible.hold_timer_expired (λ from. from < 2 ^ 32)
    → TellAll config records possible

-- ---- other orders

-- Each message that the others say could be sent, at a second from which Hold Timer Expired is so if
-- they have it, is of an item that is printed already, or of one of a line of other orders; and each
-- of such a line is one of these messages.
pub record TellTheRest (config : Config) (link : Option Link) (told others : Possible) : Type 0
  where
    pub all : (second : ℕ) (octets : List ℕ) → IsAmong config link others (Sent second octets)
        → Has (IsOfItem config link (Sent second octets)) (items_told told)
        ⊎ Has (IsOfItem config link (Sent second octets)) (items_told (besides told others))
    pub only : (second : ℕ) (octets : List ℕ)
        → IfSome others.hold_timer_expired (λ from. from ≤ second)
        → Has (IsOfItem config link (Sent second octets)) (items_told (besides told others))
        → IsAmong config link others (Sent second octets)

abbrev pub OthersTellTheRest : Type 0
OthersTellTheRest =
    (config : Config) (link : Option Link) (told others : Possible)
    → TellTheRest config link told others
