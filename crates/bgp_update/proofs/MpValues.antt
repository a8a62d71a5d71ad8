-- The values of MP attributes, field by field.
use Rattle.std.proofs.Common.{◌≡◌, ℕ, suc, ◌+◌, ◌<◌, ◌≤◌, nat_lt, List, get_or, inl, inr, ◌∷◌, ◌++◌, length, take, drop, slice_index, Option, None, Some, option_map, refl, sym, ap, ◌∙◌, arith}
use Rattle.std.proofs.lemmas.Bool.{cases_Bool, le-ltb, ltb-false}
use Rattle.std.proofs.lemmas.List.{drop-drop, length-drop, length-take, length-append, take-append-drop}
use Rattle.std.proofs.Math.Seq.{drop-cons, take-append_seam, drop-append_seam}
use Rattle.bgp_open.specs.Family.{Family}
use Rattle.bgp_open.specs.declared.route_form.RouteForm.{RouteForm}
use Rattle.bgp_attr.specs.NextHop.{NextHop}
use Rattle.bgp_update.specs.declared.destination.Destination.{Destination}
use Rattle.bgp_update.specs.MpValue.{Contents, next_hop_in, with_hop, reach_contents, IsReachValue, ReadsMpValues}
use Rattle.bgp_update.specs.Destinations.{destinations_of, is_identified}
use Rattle.bgp_update.proofs.DestinationLists.{reads_destinations}

pub reached : (form : RouteForm) (family : Family) (value rest hop after destinations : List ℕ) (h : ℕ) (address : NextHop)
    → h ≡ slice_index value 3 → rest ≡ drop 4 value → hop ≡ take h rest → after ≡ drop h rest → destinations ≡ drop 1 after
    → 5 + h ≤ length value → Some address ≡ next_hop_in form.ipv6_next_hops family hop
    → reach_contents form family value ≡ with_hop (Some address) (destinations_of (is_identified form family) family destinations)
reached form family value rest hop after destinations h address is r o a p enough some =
    let five : (4 + h) + 1 ≡ 5 + h = omega arith in
    let gone : drop (5 + h) value ≡ destinations =
    sym (p ∙ ap (drop 1) (a ∙ ap (drop h) r ∙ drop-drop h 4 value) ∙ drop-drop 1 (4 + h) value ∙ ap (λ (n : ℕ). drop n value) five) in
    let front : take h (drop 4 value) ≡ hop = sym (o ∙ ap (take h) r) in
    rw (← is, le-ltb (length value) (5 + h) enough, front, gone, ← some) refl

-- ---- the functions are the relations

with_both : (o : Option NextHop) (ps : Option (List Destination)) (address : NextHop) (contents : Contents) → o ≡ Some address → contents.next_hop ≡ Some address → ps ≡ Some contents.destinations
    → with_hop o ps ≡ Some contents
with_both o ps address contents h same p = rw (h, p) (ap Some (λ i. record { next_hop = sym same i; destinations = contents.destinations }))

to_reach : (form : RouteForm) (family : Family) (value : List ℕ) (contents : Contents) → IsReachValue form family value contents → reach_contents form family value ≡ Some contents
to_reach form family value contents v =
    let h = length v.hop in
    let rest = v.hop ++ v.reserved ∷ v.nlri in
    let long = length-drop 3 value in
    let counted : length (drop 3 value) ≡ suc (length rest) = ap length v.spelled in
    let joined = length-append v.hop (v.reserved ∷ v.nlri) in
    let enough : 5 + h ≤ length value = omega arith in
    let three : 3 < length value = omega arith in
    let split : get_or value 3 0 ∷ drop 4 value ≡ h ∷ rest = sym (drop-cons value 3 0 three) ∙ v.spelled in
    let first : h ≡ slice_index value 3 = sym (ap (λ (t : List ℕ). get_or t 0 0) split) in
    let behind : rest ≡ drop 4 value = sym (ap (λ (t : List ℕ). drop 1 t) split) in
    reached form family value rest v.hop (v.reserved ∷ v.nlri) v.nlri h v.address first behind (sym (take-append_seam v.hop (v.reserved ∷ v.nlri)))
    (sym (drop-append_seam v.hop (v.reserved ∷ v.nlri))) refl enough (sym v.is_hop)
    ∙ with_both (Some v.address) (destinations_of (is_identified form family) family v.nlri) v.address contents refl v.next_hop ((reads_destinations (is_identified form family) family v.nlri contents.destinations).0 v.destinations)

record Both (o : Option NextHop) (ps : Option (List Destination)) (contents : Contents) : Type 0 where
  address : NextHop
  is_hop : o ≡ Some address
  next_hop : contents.next_hop ≡ Some address
  destinations : ps ≡ Some contents.destinations

both : (o : Option NextHop) (ps : Option (List Destination)) (contents : Contents) → with_hop o ps ≡ Some contents → Both o ps contents
both None ps contents e = absurd cc
both (Some address) None contents e = absurd cc
both (Some address) (Some ps) contents e =
    let is : record { next_hop = Some address; destinations = ps } ≡ contents = cc in
    record { address = address; is_hop = refl; next_hop = sym (ap (λ (c : Contents). c.next_hop) is); destinations = ap (λ (c : Contents). Some c.destinations) is }

from_reach : (form : RouteForm) (family : Family) (value : List ℕ) (contents : Contents) → reach_contents form family value ≡ Some contents → IsReachValue form family value contents
from_reach form family value contents e = elim (cases_Bool (nat_lt (length value) (5 + slice_index value 3))) [
  | inl short ↦ let none = rw short at e in absurd cc
  | inr long ↦
      let h = slice_index value 3 in
      let enough : 5 + h ≤ length value = ltb-false (length value) (5 + h) long in
      let b = both (next_hop_in form.ipv6_next_hops family (take h (drop 4 value))) (destinations_of (is_identified form family) family (drop (5 + h) value)) contents (rw long at e) in
      let gone = length-drop 4 value in
      let taken : length (take h (drop 4 value)) ≡ h = omega (arith, length-take h (drop 4 value)) in
      let behind : drop (4 + h) value ≡ get_or value (4 + h) 0 ∷ drop (5 + h) value = drop-cons value (4 + h) 0 (omega arith) ∙ ap (λ (n : ℕ). get_or value (4 + h) 0 ∷ drop n value) (next h) in
      record {
        hop = take h (drop 4 value);
        address = b.address;
        reserved = get_or value (4 + h) 0;
        nlri = drop (5 + h) value;
        spelled = drop-cons value 3 0 (omega arith) ∙ rw taken (ap (λ (t : List ℕ). h ∷ t)
            (sym (take-append-drop h (drop 4 value)) ∙ ap (λ (t : List ℕ). take h (drop 4 value) ++ t) (drop-drop h 4 value ∙ behind)));
        is_hop = b.is_hop;
        next_hop = b.next_hop;
        destinations = (reads_destinations (is_identified form family) family (drop (5 + h) value) contents.destinations).1 b.destinations;
      }
]
  where
    next : (h : ℕ) → suc (4 + h) ≡ 5 + h
    next h = omega arith

unread : (ps : Option (List Destination)) (contents : Contents) → contents.next_hop ≡ None → ps ≡ Some contents.destinations
    → option_map (λ destinations. record { next_hop = None; destinations = destinations }) ps ≡ Some contents
unread ps contents none p = rw p (ap Some (λ i. record { next_hop = sym none i; destinations = contents.destinations }))

record Alone (ps : Option (List Destination)) (contents : Contents) : Type 0 where
  next_hop : contents.next_hop ≡ None
  destinations : ps ≡ Some contents.destinations

alone : (ps : Option (List Destination)) (contents : Contents) → option_map (λ destinations. record { next_hop = None; destinations = destinations }) ps ≡ Some contents → Alone ps contents
alone None contents e = absurd cc
alone (Some ps) contents e =
    let is : record { next_hop = None; destinations = ps } ≡ contents = cc in
    record { next_hop = sym (ap (λ (c : Contents). c.next_hop) is); destinations = ap (λ (c : Contents). Some c.destinations) is }

pub reads_mp_values : ReadsMpValues
reads_mp_values = record {
  reach = λ form family value contents. (to_reach form family value contents, from_reach form family value contents);
  unreach = λ form family value contents. (
    λ v. unread (destinations_of (is_identified form family) family (drop 3 value)) contents v.next_hop ((reads_destinations (is_identified form family) family (drop 3 value) contents.destinations).0 v.destinations),
    λ e. let a = alone (destinations_of (is_identified form family) family (drop 3 value)) contents e in
        record { next_hop = a.next_hop; destinations = (reads_destinations (is_identified form family) family (drop 3 value) contents.destinations).1 a.destinations },
  );
}
