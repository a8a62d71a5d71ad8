-- What is listed, one more.
use Rattle.std.proofs.Common.{◌≡◌, ◌∙◌, ◌⊎◌, ◌+◌, ◌≤◌, ℕ, Bool, true, false, cond, List, [], ◌∷◌, length, reverse, Option, None, Some, IsSome, refl, sym, ap, subst, arith, inl, inr}
use Rattle.std.proofs.lemmas.Bool.{cases_lt}
use Rattle.std.proofs.lemmas.List.Elements.{Contains-append_right}
use Rattle.std.proofs.lemmas.Map.Lookups.{exact_unsigned}
use Rattle.std.specs.BTreeMap.{BTreeMap, get, insert_entry, is_at}
use Rattle.std.specs.List.{AllByRecursion, Contains}
use Rattle.std.specs.Map.{keys_of, lookup}
use Rattle.std.specs.Ordering.{is_eq, match_ordering, nat_cmp}
use Rattle.std.specs.declared.cmp.Ordering.{Ordering}
use Rattle.std.specs.declared.cmp.Ordering.TheVariants.{Less, Equal, Greater}
use Rattle.packets.specs.Packet.{Recorded}
use Rattle.segments.specs.contracts.found.AddressesOrd.TheImpl as order
use Rattle.segments.specs.declared.fault.PacketFault.{PacketFault}
use Rattle.segments.specs.declared.found.Addresses.{Addresses}
use Rattle.streams.specs.Choice.{IsNoNumber, OpensAs, first_packet, numbered_one}
use Rattle.streams.specs.Connections.{connections_of, numbered}
use Rattle.streams.specs.Passed.{Segment}
use Rattle.streams.specs.declared.connections.Connections.{Connections}
use Rattle.streams.specs.declared.connection.Opening.{Opening}
use Rattle.bgp_import.specs.Selecting.{AreTaken}
use Rattle.bgp_import.proofs.InOrder.{in_order}
use Rattle.bgp_import.specs.Listed.{AreListed, CanBeTold, IsListed, IsPlaceOf, KeepsPlaces, ListsAll, ListsOne}
use Rattle.bgp_import.specs.Pairs.{AreOrdered, selection_of}
use Rattle.bgp_import.specs.Places.{HasAll, HasEach, IsNumber, connection_in}
use Rattle.bgp_import.specs.Talks.{HoldsAll, HoldsBy, HoldsEach, talk_at}
use Rattle.bgp_import.specs.declared.listed.Listed.{Listed}
use Rattle.bgp_import.specs.declared.listed.Listed.TheVariants as listed
use Rattle.bgp_import.specs.declared.talk.Talk.{Talk}
use Rattle.bgp_import.specs.declared.talks.Talks.{Talks}
use Rattle.bgp_import.proofs.AddressOrder.{tied}

-- ---- an entry more

module _ {X : Type 0} (P : ℕ → X → Type 0) (k : ℕ) (v : X) where
  abbrev Holds : List (ℕ × X) → Type 0
  Holds es = AllByRecursion (λ (e : ℕ × X). P e.0 e.1) es

  by_order : (o : Ordering) (e : ℕ × X) (es rest : List (ℕ × X)) → nat_cmp k e.0 ≡ o → P k v → P e.0 e.1 → Holds es → Holds rest
      → Holds (match_ordering o ((k, v) ∷ e ∷ es) ((e.0, v) ∷ es) (e ∷ rest))
  by_order Less e es rest is one its all more = (one, (its, all))
  by_order Equal e es rest is one its all more = (subst (λ (n : ℕ). P n v) (exact_unsigned k e.0 is) one, all)
  by_order Greater e es rest is one its all more = (its, more)

  pub all_inserted : (es : List (ℕ × X)) → P k v → Holds es → Holds (insert_entry nat_cmp es k v)
  all_inserted [] one all = (one, tt)
  all_inserted (e ∷ es) one all =
      by_order (nat_cmp k e.0) e es (insert_entry nat_cmp es k v) refl one all.0 all.1 (all_inserted es one all.1)

some_by : {X : Type 0} (b : Bool) (v : X) (o : Option X) → IsSome o → IsSome (cond b (Some v) o)
some_by true v o some = refl
some_by false v o some = some

-- what an insertion leaves: places stay, and there is one more
pub keeps_by : {Z : Type 0} (old new : BTreeMap ℕ (Listed Z)) (k : ℕ) (v : Listed Z)
    → ((q : ℕ) → get nat_cmp new q ≡ cond (is_eq (nat_cmp k q)) (Some v) (get nat_cmp old q)) → KeepsPlaces old new
keeps_by {Z} old new k v is place some =
    subst (λ (o : Option (Listed Z)). IsSome o) (sym (is place)) (some_by (is_eq (nat_cmp k place)) v (get nat_cmp old place) some)

pub place_by : {Z : Type 0} (new : BTreeMap ℕ (Listed Z)) (k : ℕ) (v : Listed Z) → get nat_cmp new k ≡ Some v → IsPlaceOf new k
place_by {Z} new k v is = subst (λ (o : Option (Listed Z)). IsSome o) (sym is) refl

-- ---- connections

first_of : (segments : List Segment) (opening : Opening) → OpensAs segments opening → opening.packet ≡ first_packet segments
first_of [] opening opens = absurd opens
first_of (s ∷ before) opening opens = opens.packet

pub place_of : (segments : List Segment) (number : ℕ) (opening : Opening) → opening.number ≡ number → OpensAs (connection_in segments number) opening
    → opening.packet ≡ first_packet (connection_in segments number)
place_of segments number opening is opens = first_of (connection_in segments number) opening opens

pub lists_one : {Z : Type 0} (port : ℕ) (packets : List Recorded) (addresses : Addresses) (talk : Talk Z) (opening : Opening) (number : ℕ)
    → AreOrdered addresses → (h : HoldsAll port packets addresses talk.connections) → 1 ≤ number → number ≤ length (numbered (reverse h.segments))
    → opening.number ≡ number → OpensAs (numbered_one (numbered (reverse h.segments)) number) opening → ListsOne port packets opening.packet addresses talk opening
lists_one port packets addresses talk opening number is_ordered h first last same opens = record {
  segments = h.segments;
  has = record {
    ordered = is_ordered;
    taken = h.taken;
    number = (omega (arith, same, first), omega (arith, same, last));
    opens = subst (λ (n : ℕ). OpensAs (connection_in h.segments n) opening) (sym same) opens;
  };
  holds = h.holds;
  is_place = refl;
}

-- there is a connection of each number
pub no_number : (number : ℕ) (connections : List (List Segment)) → IsNoNumber number connections → 1 ≤ number → number ≤ length connections → ⊥
no_number number connections (inl zero) first last = omega (arith, zero, first)
no_number number connections (inr beyond) first last = omega (arith, beyond, last)

-- ---- two addresses

pub has_by : {Z : Type 0} (port : ℕ) (packets : List Recorded) (old new : BTreeMap ℕ (Listed Z)) (q : Addresses) → KeepsPlaces old new
    → HasEach port packets (IsPlaceOf old) q → HasEach port packets (IsPlaceOf new) q
has_by port packets old new q keeps (inl theirs) = inl (record { segments = theirs.segments; taken = theirs.taken; each = λ number is. keeps _ (theirs.each number is) })
has_by port packets old new q keeps (inr refused) =
    inr (record { fault = refused.fault; place = refused.place; refused = refused.refused; is_place = keeps refused.place refused.is_place })

none_numbered : length (numbered []) ≡ 0
unfolding connections_of
none_numbered = refl

none_in : (number : ℕ) → IsNumber [] number → ⊥
none_in number is = let le : number ≤ length (numbered []) = is.1 in omega (arith, is.0, le, none_numbered)

pub has_none : {Z : Type 0} (port : ℕ) (packets : List Recorded) (listed : BTreeMap ℕ (Listed Z)) (q : Addresses) → AreTaken (selection_of q port) 0 packets []
    → HasEach port packets (IsPlaceOf listed) q
has_none port packets listed q taken = inl (record { segments = []; taken = taken; each = λ number is. absurd (none_in number is) })

-- ---- places among keys

equal_is : (o : Ordering) → is_eq o ≡ true → o ≡ Equal
equal_is Less e = absurd cc
equal_is Equal e = refl
equal_is Greater e = absurd cc

among_by : {X : Type 0} (place : ℕ) (b : Bool) (k : ℕ) (v : X) (es : List (ℕ × X)) → is_eq (nat_cmp place k) ≡ b → IsSome (cond b (Some v) (lookup (is_at (nat_cmp place)) es))
    → (IsSome (lookup (is_at (nat_cmp place)) es) → Contains (keys_of es) place) → Contains (k ∷ keys_of es) place
among_by place true k v es is some later = (0, omega arith, sym (exact_unsigned place k (equal_is (nat_cmp place k) is)))
among_by place false k v es is some later = Contains-append_right (k ∷ []) (keys_of es) place (later some)

no_some : false ≡ true → ⊥
no_some e = cc

among : {X : Type 0} (place : ℕ) (es : List (ℕ × X)) → IsSome (lookup (is_at (nat_cmp place)) es) → Contains (keys_of es) place
among place [] some = absurd (no_some some)
among place (e ∷ es) some = among_by place (is_eq (nat_cmp place e.0)) e.0 e.1 es refl some (among place es)

pub among_keys : {Z : Type 0} (port : ℕ) (packets : List Recorded) (listed : BTreeMap ℕ (Listed Z)) → HasAll port packets (IsPlaceOf listed)
    → HasAll port packets (Contains (keys_of listed.entries))
among_keys {Z} port packets listed all q is = elim (all q is) [
  | inl theirs ↦ inl (record { segments = theirs.segments; taken = theirs.taken; each = λ number there. among _ listed.entries (theirs.each number there) })
  | inr refused ↦ inr (record { fault = refused.fault; place = refused.place; refused = refused.refused; is_place = among refused.place listed.entries refused.is_place })
]

-- ---- what is listed of two addresses

pub listed_more : {Z : Type 0} (port : ℕ) (packets : List Recorded) (entries entries' : List (ℕ × Listed Z)) (place : ℕ) (one : Listed Z) → entries' ≡ insert_entry nat_cmp entries place one
    → IsListed port packets place one → AreListed port packets entries → AreListed port packets entries'
listed_more {Z} port packets entries entries' place one is told all =
    subst (λ (es : List (ℕ × Listed Z)). AreListed port packets es) (sym is) (all_inserted (IsListed port packets) place one entries told all)

pub lists_refused : {Z : Type 0} (port : ℕ) (packets : List Recorded) (q : Addresses) (connections : Connections Z) (refusal : Option (PacketFault × ℕ)) (fault : PacketFault) (number : ℕ)
    → refusal ≡ Some (fault, number) → AreOrdered q → HoldsBy port packets q connections refusal → ListsAll port packets number q fault
lists_refused port packets q connections refusal fault number is o h = record {
  ordered = o;
  refused = subst (λ (r : Option (PacketFault × ℕ)). HoldsBy port packets q connections r) is h;
}

pub holds_all : {Z : Type 0} (port : ℕ) (packets : List Recorded) (q : Addresses) (connections : Connections Z) (refusal : Option (PacketFault × ℕ)) → refusal ≡ None
    → HoldsBy port packets q connections refusal → HoldsAll port packets q connections
holds_all port packets q connections refusal none h = subst (λ (r : Option (PacketFault × ℕ)). HoldsBy port packets q connections r) none h

-- what is listed can be told
pub can_be_told : {Z : Type 0} (port : ℕ) (packets : List Recorded) (place : ℕ) (one : Listed Z) → IsListed port packets place one → CanBeTold one
can_be_told port packets place (listed.Connection addresses talk opening) is = record {
  segments = _;
  holds = is.holds;
  order = in_order (selection_of addresses port) packets is.segments is.has.taken;
}
can_be_told port packets place (listed.Refused addresses fault) is = tt

-- ---- addresses that are gone through

by_tie : {Z : Type 0} (q k : Addresses) (v : Talk Z) (rest : List (Addresses × Talk Z)) (b : Bool) → is_eq (order.ghosts.cmp q k) ≡ b
    → (lookup (is_at (order.ghosts.cmp q)) ((k, v) ∷ rest) ≡ lookup (is_at (order.ghosts.cmp q)) rest) ⊎ (q ≡ k)
by_tie {Z} q k v rest true is = inr (tied q k is)
by_tie {Z} q k v rest false is = inl (ap (λ (b : Bool). cond b (Some v) (lookup (is_at (order.ghosts.cmp q)) rest)) is)

pub gone_through : {Z : Type 0} (port : ℕ) (packets : List Recorded) (talks : Talks Z) (old new : BTreeMap ℕ (Listed Z)) (k q : Addresses) (v : Talk Z) (left rest : List (Addresses × Talk Z))
    → left ≡ (k, v) ∷ rest → KeepsPlaces old new → HasEach port packets (IsPlaceOf new) k
    → (lookup (is_at (order.ghosts.cmp q)) left ≡ talk_at talks q) ⊎ HasEach port packets (IsPlaceOf old) q
    → (lookup (is_at (order.ghosts.cmp q)) rest ≡ talk_at talks q) ⊎ HasEach port packets (IsPlaceOf new) q
gone_through port packets talks old new k q v left rest is keeps has (inr there) = inr (has_by port packets old new q keeps there)
gone_through {Z} port packets talks old new k q v left rest is keeps has (inl same) = elim (by_tie q k v rest (is_eq (order.ghosts.cmp q k)) refl) [
  | inl later ↦ inl (sym later ∙ sym (ap (λ (es : List (Addresses × Talk Z)). lookup (is_at (order.ghosts.cmp q)) es) is) ∙ same)
  | inr own ↦ inr (subst (λ (x : Addresses). HasEach port packets (IsPlaceOf new) x) (sym own) has)
]

pub all_through : {Z : Type 0} (port : ℕ) (packets : List Recorded) (talks : Talks Z) (listed : BTreeMap ℕ (Listed Z)) (q : Addresses) (left : List (Addresses × Talk Z)) → left ≡ []
    → HoldsEach port packets talks → AreOrdered q → (lookup (is_at (order.ghosts.cmp q)) left ≡ talk_at talks q) ⊎ HasEach port packets (IsPlaceOf listed) q
    → HasEach port packets (IsPlaceOf listed) q
all_through port packets talks listed q left none h o (inr there) = there
all_through {Z} port packets talks listed q left none h o (inl same) =
    has_none port packets listed q (h.none q o (sym same ∙ ap (λ (es : List (Addresses × Talk Z)). lookup (is_at (order.ghosts.cmp q)) es) none))

-- ---- numbers up to one more

pub up_to_more : (P : ℕ → Type 0) (index number : ℕ) → (number ≤ index → P number) → P (index + 1) → number ≤ index + 1 → P number
up_to_more P index number below next last = elim (cases_lt index number) [
  | inl more ↦ let same : index + 1 ≡ number = omega (arith, more, last) in subst P same next
  | inr le ↦ below le
]
