-- What both OPENs of a session offer about routes, and judging leaves out.
use Rattle.std.specs.Prelude.{◌≡◌, ◌≤◌, ◌<◌, ◌++◌, ◌⊎◌, ℕ, IsTrue, List, [], ◌∷◌}
use Rattle.std.specs.Prelude.{Option, None, Some}
use Rattle.bgp_prefix.specs.Shown.{ShownRecord}
use Rattle.bgp_open.specs.declared.config.Config.{Config}
use Rattle.bgp_open.specs.declared.route_offer.RouteOffer.{RouteOffer}
use Rattle.bgp_open.specs.RouteOffer.{nothing}
use Rattle.bgp_machine.specs.Run.{Begins}
use Rattle.bgp_parts.specs.BothOffers.{settle_something}
use Rattle.bgp_parts.specs.Opens.{HasOwnOpen}
use Rattle.bgp_explain.specs.declared.left_out.LeftOut.{LeftOut}
use Rattle.bgp_explain.specs.Offers.{IsOfferOf, settling_open}

abbrev pub nothing_left_out : LeftOut
nothing_left_out = record { without = None }

-- nothing is configured to be offered, though both OPENs settle something: several paths to a prefix,
-- in one direction at least, or IPv6 next hops of IPv4 routes in both
abbrev pub LacksOffers : RouteOffer → RouteOffer → RouteOffer → Type 0
LacksOffers configured own peers =
    (configured ≡ nothing) × IsTrue (settle_something own peers)

-- then what the own OPEN offers
abbrev pub IsWithout : RouteOffer → RouteOffer → RouteOffer → Option RouteOffer → Type 0
IsWithout configured own peers None = ¬ LacksOffers configured own peers
IsWithout configured own peers (Some offer) =
    LacksOffers configured own peers × (offer ≡ own)

-- by what both OPENs offer
pub record IsLeftOut (config : Config) (own peers : RouteOffer) (left_out : LeftOut) : Type 0 where
  pub without : IsWithout config.parts.offers own peers left_out.without

-- of a session's records: by what the first OPEN offers that was sent, and the one that settles the
-- link
pub record LeavesOut (config : Config) (records : List ShownRecord) (left_out : LeftOut) : Type 0
  where
    pub own : Option (List ℕ)
    pub has_own : HasOwnOpen records own
    pub own_offer : RouteOffer
    pub is_own : IsOfferOf own own_offer
    pub peers_offer : RouteOffer
    pub is_peers : IsOfferOf (settling_open records) peers_offer
    pub is_left_out : IsLeftOut config own_offer peers_offer left_out

-- ---- of records that are judged

-- those that are judged: all, where they begin a run, and else those before the first impossible
-- one
abbrev pub AreJudged : Config → List ShownRecord → List ShownRecord → Type 0
AreJudged config records judged =
    Begins config judged
    × ((records ≡ judged)
    ⊎ ((shown : ShownRecord) × (after : List ShownRecord) × (records ≡ judged ++ shown ∷ after)
    × (¬ Begins config (judged ++ shown ∷ []))))

-- what is left out of them
pub record JudgesWithout (config : Config) (records : List ShownRecord) (left_out : LeftOut)
    : Type 0 where
  pub judged : List ShownRecord
  pub are_judged : AreJudged config records judged
  pub leaves_out : LeavesOut config judged left_out

-- where there is a verdict, whose status is one of three; and else nothing
pub record IsLeftOutBy (config : Config) (code : ℕ) (records : List ShownRecord)
    (left_out : LeftOut) : Type 0 where
  pub verdict : code < 3 → JudgesWithout config records left_out
  pub none : 3 ≤ code → left_out ≡ nothing_left_out
