-- What both OPENs of a session offer about routes, as its records tell them: the first one that was
-- sent, and the one that settles the link on which the local system sends.
use Rattle.std.specs.Prelude.{◌≡◌, ℕ, List, [], ◌∷◌, Option, None, Some}
use Rattle.bgp_prefix.specs.Shown.{ShownRecord}
use Rattle.bgp_machine.specs.declared.fsm.Fsm.{Fsm}
use Rattle.bgp_machine.specs.declared.fsm.Fsm.TheVariants as fsms
use Rattle.bgp_judge.specs.Told.{Told, fresh_told, told, told_next}
use Rattle.bgp_parts.specs.Opens.{HasOwnOpen}
use Rattle.bgp_open.specs.RouteOffer.{IsRouteOffer, nothing}
use Rattle.bgp_open.specs.declared.route_offer.RouteOffer.{RouteOffer}
use Rattle.bgp_explain.specs.declared.offers.Offers.{Offers}

-- ---- the OPEN that settles the link

-- It does in OpenConfirm and Established. In another state it is the one that stood before: the
-- NOTIFICATION that ends a session may be shown after its change of state, and an answer on records
-- that go on to another session is about this one, too.
abbrev pub settling_in : Fsm → Option (List ℕ) → List ℕ → Option (List ℕ)
settling_in fsms.Idle before octets = before
settling_in fsms.Connect before octets = before
settling_in fsms.Active before octets = before
settling_in fsms.OpenSent before octets = before
settling_in fsms.OpenConfirm before octets = Some octets
settling_in fsms.Established before octets = Some octets

abbrev pub settling_next : Told → Option (List ℕ) → Option (List ℕ)
settling_next t before = settling_in t.fsm before t.peer_open

-- record after record
abbrev pub settling_from : Told → Option (List ℕ) → List ShownRecord → Option (List ℕ)
settling_from t before [] = before
settling_from t before (shown ∷ records) =
    settling_from (told_next t shown) (settling_next (told_next t shown) before) records

abbrev pub settling_open : List ShownRecord → Option (List ℕ)
settling_open records = settling_from fresh_told None records

-- ---- what they offer

-- what an OPEN offers, where there is one
abbrev pub IsOfferOf : Option (List ℕ) → RouteOffer → Type 0
IsOfferOf None offer = offer ≡ nothing
IsOfferOf (Some octets) offer = IsRouteOffer octets offer

-- ---- what is kept of it

abbrev pub no_offers : Offers
no_offers = record { own = None; peers = nothing; settling = nothing }

-- the first OPEN that was sent offers this, if one was
abbrev pub IsOwnOffer : List ShownRecord → Option RouteOffer → Type 0
IsOwnOffer records None = HasOwnOpen records None
IsOwnOffer records (Some offer) =
    (octets : List ℕ) × HasOwnOpen records (Some octets) × IsRouteOffer octets offer

-- by what was offered before and what the message offers that was received last before OpenConfirm
abbrev pub settling_by : Fsm → RouteOffer → RouteOffer → RouteOffer
settling_by fsms.Idle before offer = before
settling_by fsms.Connect before offer = before
settling_by fsms.Active before offer = before
settling_by fsms.OpenSent before offer = before
settling_by fsms.OpenConfirm before offer = offer
settling_by fsms.Established before offer = offer

pub record AreOffersAt (records : List ShownRecord) (offers : Offers) : Type 0 where
  pub own : IsOwnOffer records offers.own
  pub peers : IsRouteOffer (told records).peer_open offers.peers
  pub settling : IsOfferOf (settling_open records) offers.settling
