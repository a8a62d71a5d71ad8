-- ROUTE-REFRESH messages (RFC 2918) that are passed over, and what is left of records without them.
use Rattle.std.specs.Prelude.{◌≡◌, ◌⊎◌, ◌+◌, ◌++◌, IsTrue, ℕ, List, [], ◌∷◌, map}
use Rattle.bgp_prefix.specs.Shown.{Changed, Received, Sent, ShownRecord}
use Rattle.mrt.specs.Reader.{shown_of}
use Rattle.mrt.specs.Rules.{IsWholeRefresh}
use Rattle.bgp_check.specs.declared.passing.Kept.{Kept}
use Rattle.bgp_check.specs.declared.passing.RefreshOffers.{RefreshOffers}

-- The record is a whole ROUTE-REFRESH, whose type is the one fault of its header, and its receiver
-- offers route refresh.
abbrev pub IsPassedOver : RefreshOffers → ShownRecord → Type 0
IsPassedOver offers (Received t octets) = IsTrue offers.received × IsWholeRefresh octets
IsPassedOver offers (Sent t octets) = IsTrue offers.sent × IsWholeRefresh octets
IsPassedOver offers (Changed t old new) = ⊥

-- What is left: the records, how many stood before each, and how many messages are passed over that
-- were received, and that were sent.
pub record Left : Type 0 where
  pub places : List ℕ
  pub records : List ShownRecord
  pub received : ℕ
  pub sent : ℕ

abbrev pub nothing_left : Left
nothing_left = record { places = []; records = []; received = 0; sent = 0 }

abbrev pub one_passed : ShownRecord → Left → Left
one_passed (Received t octets) left = record left { received = left.received + 1 }
one_passed (Sent t octets) left = record left { sent = left.sent + 1 }
one_passed (Changed t old new) left = left

-- one more is left, behind those that are
abbrev pub one_kept : ℕ → ShownRecord → Left → Left
one_kept place shown left = record left {
  places = left.places ++ place ∷ [];
  records = left.records ++ shown ∷ [];
}

-- a record is taken of which so many stand before it
abbrev pub Takes : RefreshOffers → ℕ → ShownRecord → Left → Left → Type 0
Takes offers place shown old new =
    (IsPassedOver offers shown × (new ≡ one_passed shown old))
    ⊎ ((¬ IsPassedOver offers shown) × (new ≡ one_kept place shown old))

-- The records are taken one after another, of which so many stand before the first.
abbrev pub Keeps : RefreshOffers → ℕ → List ShownRecord → Left → Left → Type 0
Keeps offers place [] old new = new ≡ old
Keeps offers place (shown ∷ records) old new =
    (next : Left) × Takes offers place shown old next × Keeps offers (place + 1) records next new

-- as it is held
abbrev pub left_value : {Z : Type 0} → Kept Z → Left
left_value kept = record {
  places = kept.places.items;
  records = map shown_of kept.records.items;
  received = kept.received;
  sent = kept.sent;
}
