-- Links over which an UPDATE is read alike.
use Rattle.std.proofs.Common.{◌≡◌, ◌⊎◌, ◌≤◌, ◌++◌, List, [], length, Option, None, Some, IsTrue, refl, sym, ap, subst, inl, inr}
use Rattle.bgp_open.specs.Family.TheVariants.{V4}
use Rattle.bgp_update.specs.declared.destination.Destination.{Destination}
use Rattle.bgp_open.specs.declared.families.Families.{Families}
use Rattle.bgp_open.specs.declared.link.Link.{Link}
use Rattle.bgp_open.specs.declared.route_form.RouteForm.{RouteForm}
use Rattle.bgp_open.specs.Families.{contains}
use Rattle.bgp_open.proofs.TwoEnds.{settle_ends}
use Rattle.bgp_attr.specs.Header.{greatest_length, limit_with}
use Rattle.bgp_attr.specs.declared.types.AttrType.TheVariants as types
use Rattle.bgp_attr.specs.Field.{Attribute}
use Rattle.bgp_attr.specs.First.{value_among}
use Rattle.bgp_attr.specs.PathFrom.{next_hop_from, path_from}
use Rattle.bgp_attr.specs.Split.{attributes_of}
use Rattle.bgp_update.specs.Changes.{Route, AreChanges, announcements, base_destinations, mp_hop, mp_destinations, routes_with, withdrawals}
use Rattle.bgp_update.specs.Clean.{IsCleanBy}
use Rattle.bgp_update.specs.Found.{Found, found_by_form}
use Rattle.bgp_update.specs.Laws.{DependsOnForm, IsReadAlike, PeersReadAlike}
use Rattle.bgp_update.specs.Outcome.{Outcome, Applied, Reset, IsOutcomeBy}
use Rattle.bgp_update.specs.Sections.{Sections}

-- the same is found
pub same_found : (one : Link) (form : RouteForm) (other : Link) (another : RouteForm) → IsReadAlike one form other another
    → (s : Sections) → found_by_form one form s ≡ found_by_form other another s
same_found one form other another h s = λ i.
    found_by_form
    (record { hold = one.hold; as4 = h.as4 i; families = h.families i; internal = h.internal i; extended = one.extended; received = one.received; sent = one.sent })
    (h.form i) s

module _ (one : Link) (form : RouteForm) (other : Link) (another : RouteForm) (h : IsReadAlike one form other another) where
  same_base : (o : Option (List Destination)) → base_destinations one o ≡ base_destinations other o
  same_base None = refl
  same_base (Some ps) = rw h.families refl

  same_withdrawals : (x : Found) → withdrawals one x ≡ withdrawals other x
  same_withdrawals x = ap (λ (t : List Destination). t ++ mp_destinations x.unreach.state) (same_base x.withdrawn)

  same_announcements : (x : Found) (attributes : List Attribute) → announcements one x attributes ≡ announcements other x attributes
  same_announcements x attributes = λ i.
      routes_with
      (path_from (record { as4 = h.as4 i; internal = h.internal i }) (value_among (record { as4 = h.as4 i; internal = h.internal i }) attributes)
      (next_hop_from (value_among (record { as4 = h.as4 i; internal = h.internal i }) attributes types.NextHop)))
      (same_base x.nlri i)
      ++ routes_with
      (path_from (record { as4 = h.as4 i; internal = h.internal i }) (value_among (record { as4 = h.as4 i; internal = h.internal i }) attributes) (mp_hop x.reach.state))
      (mp_destinations x.reach.state)

  by_alike : (x : Found) (attributes : List Attribute) (outcome : Outcome) → IsOutcomeBy one x attributes outcome → IsOutcomeBy other x attributes outcome
  by_alike x attributes (Reset n) o = o
  by_alike x attributes (Applied changes disabled) (none, are, d) = (
    none,
    subst (λ (w : List Destination). AreChanges x w (announcements other x attributes) changes) (same_withdrawals x)
        (subst (λ (a : List Route). AreChanges x (withdrawals one x) a changes) (same_announcements x attributes) are),
    d,
  )

  clean_alike : (x : Found) → IsCleanBy one x → IsCleanBy other x
  clean_alike x c = record {
    alone = c.alone;
    whole = c.whole;
    used = record {
      base = subst (λ (f : Families). IsTrue (contains f V4) ⊎ ((x.withdrawn ≡ Some []) × (x.nlri ≡ Some []))) h.families c.used.base;
      reach = c.used.reach;
      unreach = c.used.unreach;
    };
  }

pub depends_on_form : DependsOnForm
depends_on_form = record {
  outcome = λ one other octets outcome h is. elim is [
    | inl malformed ↦ inl malformed
    | inr o ↦
        inr (
          o.0,
          o.1,
          subst (λ (x : Found). IsOutcomeBy other x (attributes_of o.0.attributes) outcome) (same_found one one.received other other.received h o.0)
              (by_alike one one.received other other.received h (found_by_form one one.received o.0) (attributes_of o.0.attributes) outcome o.2),
        )
  ];
  clean = λ one other octets h longest c. (
    subst (λ (b : _). length octets ≤ greatest_length (limit_with b) 2) longest c.0,
    c.1,
    c.2,
    subst (IsCleanBy other) (same_found one one.sent other other.sent h c.1) (clean_alike one one.sent other other.sent h (found_by_form one one.sent c.1) c.3),
  );
}

pub peers_read_alike : PeersReadAlike
peers_read_alike config other octets others peers =
    let ends = settle_ends config other octets others peers in
    record {
      sent = record { as4 = ends.as4; internal = ends.internal; families = ends.families; form = ends.sent };
      received = record { as4 = sym ends.as4; internal = sym ends.internal; families = sym ends.families; form = sym ends.received };
    }
