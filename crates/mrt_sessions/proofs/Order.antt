-- Which addresses are the same, and the sessions of one record more.
use Rattle.std.proofs.Common.{◌≡◌, ◌≢◌, ◌∙◌, ◌⊎◌, Bool, true, false, List, [], ◌∷◌, ◌++◌, ◌||◌, refl, sym, ap, subst, inl, inr, if◌then◌else◌}
use Rattle.std.proofs.lemmas.Cmp.{tied_itself}
use Rattle.std.proofs.lemmas.Map.Lookups.{CmpEqualImpliesEq, exact_unsigned}
use Rattle.std.specs.Cmp.{IsTotalOrder}
use Rattle.std.specs.List.{list_any}
use Rattle.std.specs.declared.cmp.Ordering.{Ordering}
use Rattle.std.specs.declared.cmp.Ordering.TheVariants.{Less, Equal, Greater}
use Rattle.std.specs.Ordering.{is_eq, ordering_reverse, ordering_then}
use Rattle.bgp_prefix.specs.contracts.address.AddressOrd.TheImpl as address_order
use Rattle.bgp_prefix.specs.contracts.address.AddressOrd.TheImpl.Laws as address_laws
use Rattle.bgp_prefix.specs.declared.address.Address.{Address}
use Rattle.bgp_prefix.specs.declared.address.Address.TheVariants.{V4, V6}
use Rattle.mrt_sessions.specs.contracts.addresses.AddressesOrd.TheImpl as order
use Rattle.mrt_sessions.specs.contracts.addresses.AddressesOrd.TheImpl.Laws as order_laws
use Rattle.mrt_sessions.specs.declared.addresses.Addresses.{Addresses}
use Rattle.mrt_sessions.specs.File.{Located, addresses_of}
use Rattle.mrt_sessions.specs.Sessions.{are_same, is_between, sessions_besides}

abbrev cmp : Address → Address → Ordering
cmp = address_order.ghosts.cmp

exact_address : CmpEqualImpliesEq cmp
exact_address (V4 a) (V4 b) e = ap V4 (exact_unsigned a b e)
exact_address (V4 a) (V6 b) e = absurd cc
exact_address (V6 a) (V4 b) e = absurd cc
exact_address (V6 a) (V6 b) e = ap V6 (exact_unsigned a b e)

equal_is : (o : Ordering) → is_eq o ≡ true → o ≡ Equal
equal_is Less e = absurd cc
equal_is Equal e = refl
equal_is Greater e = absurd cc

then_equal : (a b : Ordering) → ordering_then a b ≡ Equal → (a ≡ Equal) × (b ≡ Equal)
then_equal Less b e = absurd cc
then_equal Equal b e = (refl, e)
then_equal Greater b e = absurd cc

pair : (a b : Addresses) → a.peer ≡ b.peer → a.local ≡ b.local → a ≡ b
pair a b e f = λ i. record { peer = e i; local = f i }

total : IsTotalOrder order.ghosts.cmp
total = order_laws.total-law

pub same_is : (a b : Addresses) → are_same a b ≡ true → a ≡ b
same_is a b e =
    let both = then_equal (cmp a.peer b.peer) (cmp a.local b.local) (equal_is (order.ghosts.cmp a b) e) in
    pair a b (exact_address a.peer b.peer both.0) (exact_address a.local b.local both.1)

pub same_itself : (a : Addresses) → are_same a a ≡ true
same_itself a = ap is_eq (tied_itself total a)

reversed : (o p : Ordering) → p ≡ ordering_reverse o → is_eq o ≡ is_eq p
reversed Less p e = ap is_eq (sym e)
reversed Equal p e = ap is_eq (sym e)
reversed Greater p e = ap is_eq (sym e)

pub same_back : (a b : Addresses) → are_same a b ≡ are_same b a
same_back a b = reversed (order.ghosts.cmp a b) (order.ghosts.cmp b a) (total.antisymm b a)

-- that differ in one address at least
not_tied : (o : Ordering) → o ≡ Equal → is_eq o ≡ false → ⊥
not_tied Less e f = cc
not_tied Equal e f = cc
not_tied Greater e f = cc

itself : (a : Address) → cmp a a ≡ Equal
itself a = tied_itself address_laws.total-law a

differ_by : (a b : Addresses) (o : Ordering) → cmp a.peer b.peer ≡ o → is_eq (ordering_then o (cmp a.local b.local)) ≡ false → (b.peer ≢ a.peer) ⊎ (b.local ≢ a.local)
differ_by a b Less is apart = inl (λ same. let k = subst (λ (x : Address). cmp a.peer x ≡ Less) same is in let t = itself a.peer in cc)
differ_by a b Equal is apart = inr (λ same. not_tied (cmp a.local b.local) (subst (λ (x : Address). cmp a.local x ≡ Equal) (sym same) (itself a.local)) apart)
differ_by a b Greater is apart = inl (λ same. let k = subst (λ (x : Address). cmp a.peer x ≡ Greater) same is in let t = itself a.peer in cc)

pub differ : (a b : Addresses) → are_same a b ≡ false → (b.peer ≢ a.peer) ⊎ (b.local ≢ a.local)
differ a b apart = differ_by a b (cmp a.peer b.peer) refl apart

-- ---- a record more

or_false : (b : Bool) → (b || false) ≡ b
or_false true = refl
or_false false = refl

or_true : (b : Bool) → (b || true) ≡ true
or_true true = refl
or_true false = refl

or_swapped : (a b c : Bool) → ((a || b) || c) ≡ (b || (a || c))
or_swapped true true c = refl
or_swapped true false c = refl
or_swapped false true c = refl
or_swapped false false c = refl

abbrev one_unless : Bool → Addresses → List Addresses
one_unless known addresses = if known then [] else addresses ∷ []

-- the first is one of those that are known
known_already : (known : List Addresses) (first x : Addresses) (others : Bool) → list_any (are_same first) known ≡ true
    → (list_any (are_same x) known || others) ≡ (list_any (are_same x) known || (are_same x first || others))
known_already known first x others there = by (are_same x first) refl where
  by : (b : Bool) → are_same x first ≡ b → (list_any (are_same x) known || others) ≡ (list_any (are_same x) known || (are_same x first || others))
  by false is = ap (λ (c : Bool). list_any (are_same x) known || (c || others)) (sym is)
  by true is =
      let its : list_any (are_same x) known ≡ true = subst (λ (a : Addresses). list_any (are_same a) known ≡ true) (sym (same_is x first is)) there in
      ap (λ (c : Bool). c || others) its ∙ sym (ap (λ (c : Bool). c || (are_same x first || others)) its)

more_known : (known : List Addresses) (named : List Located) (x : Located) (a b : Addresses) (there : Bool) → list_any (are_same a) known ≡ there
    → sessions_besides known (named ++ x ∷ []) ≡ sessions_besides known named ++ one_unless (list_any (are_same b) known || list_any (is_between b) named) b
    → sessions_besides (a ∷ known) (named ++ x ∷ []) ≡ sessions_besides (a ∷ known) named ++ one_unless ((are_same b a || list_any (are_same b) known) || list_any (is_between b) named) b
    → (if there then sessions_besides known (named ++ x ∷ []) else a ∷ sessions_besides (a ∷ known) (named ++ x ∷ []))
    ≡ (if there then sessions_besides known named else a ∷ sessions_besides (a ∷ known) named)
    ++ one_unless (list_any (are_same b) known || (are_same b a || list_any (is_between b) named)) b
more_known known named x a b true is same more =
    same ∙ ap (λ (c : Bool). sessions_besides known named ++ one_unless c b) (known_already known a b (list_any (is_between b) named) is)
more_known known named x a b false is same more =
    ap (λ (ls : List Addresses). a ∷ ls) more
    ∙ ap (λ (c : Bool). a ∷ (sessions_besides (a ∷ known) named ++ one_unless c b)) (or_swapped (are_same b a) (list_any (are_same b) known) (list_any (is_between b) named))

first_known : (there : Bool) (a : Addresses) → (if there then [] else a ∷ []) ≡ one_unless (there || false) a
first_known true a = refl
first_known false a = refl

pub besides_more : (known : List Addresses) (named : List Located) (x : Located)
    → sessions_besides known (named ++ x ∷ [])
    ≡ sessions_besides known named ++ one_unless (list_any (are_same (addresses_of x.octets)) known || list_any (is_between (addresses_of x.octets)) named) (addresses_of x.octets)
besides_more known [] x = first_known (list_any (are_same (addresses_of x.octets)) known) (addresses_of x.octets)
besides_more known (first ∷ named) x =
    more_known known named x (addresses_of first.octets) (addresses_of x.octets) (list_any (are_same (addresses_of first.octets)) known) refl
    (besides_more known named x) (besides_more (addresses_of first.octets ∷ known) named x)
