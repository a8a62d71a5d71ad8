-- Two items of a reason have two texts: an item can be read back from its text, with each error that
-- is in it and their data, and the second from which on it is possible.
use Rattle.std.specs.Prelude.{◌≡◌, ◌<◌, ◌^◌, ℕ, IfSome}
use Rattle.bgp_why.specs.declared.items.Item.{Item}
use Rattle.bgp_why.specs.declared.items.Item.TheVariants as items
use Rattle.bgp_why.specs.Items.{item_text}

-- the numbers in an item fit the fields that they are of: Length, Type, and a second
abbrev pub HasFields : Item → Type 0
HasFields (items.HeaderErrors errors) =
    IfSome errors.length (λ n. n < 2 ^ 16) × IfSome errors.kind (λ n. n < 2 ^ 8)
HasFields (items.HoldTimerExpired from) = from < 2 ^ 32
HasFields item = Unit {0}

-- wherever times of the day of this second have no date
abbrev pub ItemsDiffer : Type 0
ItemsDiffer =
    (first : ℕ) (one other : Item) → HasFields one → HasFields other
    → item_text first one ≡ item_text first other → one ≡ other
