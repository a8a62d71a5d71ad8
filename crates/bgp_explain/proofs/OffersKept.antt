-- What both OPENs offer is kept record by record.
use Rattle.std.proofs.Common.{◌≡◌, ◌∙◌, ◌++◌, ◌∷◌, [], List, ℕ, Option, None, Some, IfSome, IfNone, inl, inr, refl, sym, ap, subst, rules}
use Rattle.bgp_prefix.specs.Shown.{ShownRecord, Received, Sent, Changed}
use Rattle.bgp_open.specs.OpenFault.{IsReadable, IsWellFormed}
use Rattle.bgp_machine.specs.declared.fsm.Fsm.{Fsm}
use Rattle.bgp_machine.specs.declared.fsm.Fsm.TheVariants as fsms
use Rattle.bgp_judge.specs.Told.{Told, fresh_told, told, told_from, told_next}
use Rattle.bgp_judge.proofs.Telling.{told_one_more}
use Rattle.bgp_parts.specs.Opens.{FirstSent, IsSent, SendsNone}
use Rattle.bgp_open.specs.declared.config.Config.{Config}
use Rattle.bgp_open.specs.declared.route_offer.RouteOffer.{RouteOffer}
use Rattle.bgp_open.specs.RouteOffer.{IsRouteOffer, nothing}
use Rattle.bgp_explain.specs.declared.left_out.LeftOut.{LeftOut}
use Rattle.bgp_explain.specs.LeftOut.{IsLeftOut, LeavesOut}
use Rattle.bgp_explain.specs.Offers.{IsOfferOf, IsOwnOffer, settling_by, settling_from, settling_in, settling_next, settling_open}

-- ---- the first OPEN that was sent

module _ (Is : List ℕ → Type 0) where
  -- the first one stays the first
  pub first_stays : (records : List ShownRecord) (r : ShownRecord) (octets : List ℕ) → FirstSent Is records (Some octets)
      → FirstSent Is (records ++ r ∷ []) (Some octets)
  first_stays [] r octets none = absurd (let k : None ≡ Some octets = sym none in cc)
  first_stays (Received t o ∷ records) r octets has = first_stays records r octets has
  first_stays (Changed t x y ∷ records) r octets has = first_stays records r octets has
  first_stays (Sent t o ∷ records) r octets (inl is) = inl is
  first_stays (Sent t o ∷ records) r octets (inr later) = inr (later.0, first_stays records r octets later.1)

  alone : (r : ShownRecord) (octets : List ℕ) → IsSent Is r octets → FirstSent Is (r ∷ []) (Some octets)
  alone (Sent t o) octets is = inl (is.0, ap Some is.1)
  alone (Received t o) octets is = absurd is
  alone (Changed t x y) octets is = absurd is

  none_alone : (r : ShownRecord) → SendsNone Is r → FirstSent Is (r ∷ []) None
  none_alone (Sent t o) none = inr (none, refl)
  none_alone (Received t o) none = refl
  none_alone (Changed t x y) none = refl

  -- where none was sent, the next one may be the first
  pub first_after : (records : List ShownRecord) (r : ShownRecord) (found : Option (List ℕ)) → FirstSent Is records None → FirstSent Is (r ∷ []) found
      → FirstSent Is (records ++ r ∷ []) found
  first_after [] r found none has = has
  first_after (Received t o ∷ records) r found none has = first_after records r found none has
  first_after (Changed t x y ∷ records) r found none has = first_after records r found none has
  first_after (Sent t o ∷ records) r found (inl is) has = absurd (let k = is.1 in cc)
  first_after (Sent t o ∷ records) r found (inr later) has = inr (later.0, first_after records r found later.1 has)

  pub first_here : (records : List ShownRecord) (r : ShownRecord) (octets : List ℕ) → FirstSent Is records None → IsSent Is r octets
      → FirstSent Is (records ++ r ∷ []) (Some octets)
  first_here records r octets none is = first_after records r (Some octets) none (alone r octets is)

  pub none_here : (records : List ShownRecord) (r : ShownRecord) → FirstSent Is records None → SendsNone Is r
      → FirstSent Is (records ++ r ∷ []) None
  none_here records r none sends = first_after records r None none (none_alone r sends)

-- ---- the one that settles the link

-- no octets are no OPEN
nothing_is_unread : IsReadable [] → ⊥
nothing_is_unread is = let few = is.whole.fields in let k : ⊥ = search rules in k

pub nothing_offered : IsRouteOffer [] nothing
nothing_offered = record { readable = λ is. absurd (nothing_is_unread is); unreadable = λ unread. refl }

settling_joined : (t : Told) (before : Option (List ℕ)) (xs : List ShownRecord) (r : ShownRecord)
    → settling_from t before (xs ++ r ∷ []) ≡ settling_next (told_next (told_from t xs) r) (settling_from t before xs)
settling_joined t before [] r = refl
settling_joined t before (x ∷ xs) r = settling_joined (told_next t x) (settling_next (told_next t x) before) xs r

settling_more : (records : List ShownRecord) (r : ShownRecord)
    → settling_open (records ++ r ∷ []) ≡ settling_next (told (records ++ r ∷ [])) (settling_open records)
settling_more records r =
    settling_joined fresh_told None records r
    ∙ ap (λ (t : Told). settling_next t (settling_open records)) (sym (told_one_more records r))

by_state : (f : Fsm) (octets : List ℕ) (stood : Option (List ℕ)) (before offer : RouteOffer) → IsOfferOf stood before → IsRouteOffer octets offer
    → IsOfferOf (settling_in f stood octets) (settling_by f before offer)
by_state fsms.Idle octets stood before offer stands is = stands
by_state fsms.Connect octets stood before offer stands is = stands
by_state fsms.Active octets stood before offer stands is = stands
by_state fsms.OpenSent octets stood before offer stands is = stands
by_state fsms.OpenConfirm octets stood before offer stands is = is
by_state fsms.Established octets stood before offer stands is = is

pub settling_kept : (records : List ShownRecord) (r : ShownRecord) (after : Fsm) (before offer : RouteOffer) → after ≡ (told (records ++ r ∷ [])).fsm
    → IsOfferOf (settling_open records) before → IsRouteOffer (told (records ++ r ∷ [])).peer_open offer
    → IsOfferOf (settling_open (records ++ r ∷ [])) (settling_by after before offer)
settling_kept records r after before offer e stands is =
    let t = told (records ++ r ∷ []) in
    subst (λ (o : Option (List ℕ)). IsOfferOf o (settling_by after before offer)) (sym (settling_more records r))
    (subst (λ (f : Fsm). IsOfferOf (settling_next t (settling_open records)) (settling_by f before offer)) (sym e)
    (by_state t.fsm t.peer_open (settling_open records) before offer stands is))

pub peers_then : (records : List ShownRecord) (shown : ShownRecord) (offer : RouteOffer)
    → IsRouteOffer (told_next (told records) shown).peer_open offer → IsRouteOffer (told (records ++ shown ∷ [])).peer_open offer
peers_then records shown offer is =
    subst (λ (t : Told). IsRouteOffer t.peer_open offer) (sym (told_one_more records shown)) is

-- ---- what is kept of both

own_stays : (records : List ShownRecord) (r : ShownRecord) (offer : RouteOffer) → IsOwnOffer records (Some offer) → IsOwnOffer (records ++ r ∷ []) (Some offer)
own_stays records r offer is = (is.0, first_stays IsWellFormed records r is.0 is.1, is.2)

own_begins : (records : List ShownRecord) (r : ShownRecord) (found : Option RouteOffer) → IsOwnOffer records None
    → IfSome found (λ offer. (octets : List ℕ) × IsSent IsWellFormed r octets × IsRouteOffer octets offer) → IfNone found (SendsNone IsWellFormed r)
    → IsOwnOffer (records ++ r ∷ []) found
own_begins records r None none some sends = none_here IsWellFormed records r none sends
own_begins records r (Some offer) none is sends = (is.0, first_here IsWellFormed records r is.0 none is.1, is.2)

pub own_then : (records : List ShownRecord) (r : ShownRecord) (before : Option RouteOffer) (offer : RouteOffer) → before ≡ Some offer → IsOwnOffer records before
    → IsOwnOffer (records ++ r ∷ []) (Some offer)
own_then records r before offer e is = own_stays records r offer (subst (λ (o : Option RouteOffer). IsOwnOffer records o) e is)

pub own_now : (records : List ShownRecord) (r : ShownRecord) (before found : Option RouteOffer) → before ≡ None → IsOwnOffer records before
    → IfSome found (λ offer. (octets : List ℕ) × IsSent IsWellFormed r octets × IsRouteOffer octets offer) → IfNone found (SendsNone IsWellFormed r)
    → IsOwnOffer (records ++ r ∷ []) found
own_now records r before found e is some none = own_begins records r found (subst (λ (o : Option RouteOffer). IsOwnOffer records o) e is) some none

-- the first OPEN's offer, or none
abbrev pub IsGiven : Option RouteOffer → RouteOffer → Type 0
IsGiven None own = own ≡ nothing
IsGiven (Some offer) own = own ≡ offer

pub left_out_of : (config : Config) (records : List ShownRecord) (o : Option RouteOffer) (own settling : RouteOffer) (left_out : LeftOut) → IsOwnOffer records o
    → IsOfferOf (settling_open records) settling → IsGiven o own → IsLeftOut config own settling left_out → LeavesOut config records left_out
left_out_of config records None own settling left_out has is e left = record {
  own = None;
  has_own = has;
  own_offer = own;
  is_own = e;
  peers_offer = settling;
  is_peers = is;
  is_left_out = left;
}
left_out_of config records (Some offer) own settling left_out has is e left = record {
  own = Some has.0;
  has_own = has.1;
  own_offer = own;
  is_own = subst (λ (o : RouteOffer). IsRouteOffer has.0 o) (sym e) has.2;
  peers_offer = settling;
  is_peers = is;
  is_left_out = left;
}
