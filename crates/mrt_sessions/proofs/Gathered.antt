-- The sessions of the records so far, and of one more.
use Rattle.std.proofs.Common.{◌≡◌, ◌∙◌, Bool, true, false, List, [], ◌∷◌, ◌++◌, ◌||◌, Option, None, Some, is_some, refl, sym, ap, subst, map, append-nil, if◌then◌else◌}
use Rattle.std.specs.Prelude.{option_map, unwrap_or}
use Rattle.std.proofs.lemmas.List.Elements.{filter-append}
use Rattle.std.proofs.lemmas.List.Folds.{list_any-append}
use Rattle.std.specs.BTreeMap.{UpdatesBy, get, is_at}
use Rattle.std.specs.List.{filter, list_any}
use Rattle.std.specs.Map.{lookup}
use Rattle.std.specs.declared.vec.Vec.{Vec}
use Rattle.mrt_sessions.specs.contracts.addresses.AddressesOrd.TheImpl as order
use Rattle.mrt_sessions.specs.declared.addresses.Addresses.{Addresses}
use Rattle.mrt_sessions.specs.declared.named.NamedRecord.{NamedRecord}
use Rattle.mrt_sessions.specs.declared.sessions.Sessions.{Sessions}
use Rattle.mrt_sessions.specs.File.{Located, addresses_of}
use Rattle.mrt_sessions.specs.Located.{located}
use Rattle.mrt_sessions.specs.Sessions.{are_same, held_records, held_sessions, is_between, records_between, sessions_in}
use Rattle.mrt_sessions.specs.Gathering.{Begins, Gathers, is_held}
use Rattle.mrt_sessions.proofs.Order.{besides_more, same_back, same_is, same_itself}

-- ---- what is held of one, by what the map has there

module _ {Z : Type 0} (sessions : Sessions Z) (a : Addresses) where
  pub held_some : (v : Vec NamedRecord Z) → get order.ghosts.cmp sessions.by_addresses a ≡ Some v → held_records sessions a ≡ map located v.items
  held_some v is = ap (λ (o : Option (Vec NamedRecord Z)). unwrap_or (option_map (λ (w : Vec NamedRecord Z). map located w.items) o) []) is

  pub held_none : get order.ghosts.cmp sessions.by_addresses a ≡ None → held_records sessions a ≡ []
  held_none is = ap (λ (o : Option (Vec NamedRecord Z)). unwrap_or (option_map (λ (w : Vec NamedRecord Z). map located w.items) o) []) is

  pub known_some : (v : Vec NamedRecord Z) → get order.ghosts.cmp sessions.by_addresses a ≡ Some v → is_held sessions a ≡ true
  known_some v is = ap is_some is

none_of : {X : Type 0} (o : Option X) → is_some o ≡ false → o ≡ None
none_of None is = refl
none_of (Some x) is = absurd cc

-- ---- none yet

pub none_yet : {Z : Type 0} (sessions : Sessions Z) → sessions.order.items ≡ [] → sessions.by_addresses.entries ≡ [] → Gathers [] sessions
none_yet {Z} sessions order_is entries_are =
    let none : (a : Addresses) → get order.ghosts.cmp sessions.by_addresses a ≡ None =
    λ a. ap (λ (es : List (Addresses × Vec NamedRecord Z)). lookup (is_at (order.ghosts.cmp a)) es) entries_are in
    record {
      holds = record { in_order = order_is; each = λ a. held_none sessions a (none a) };
      known = λ a. ap is_some (none a);
    }

-- ---- one that may be new

pub begun_already : {Z : Type 0} (sessions : Sessions Z) (a : Addresses) → is_held sessions a ≡ true → Begins sessions sessions a
begun_already sessions a is = record {
  in_order = sym (ap (λ (b : Bool). if b then held_sessions sessions else held_sessions sessions ++ a ∷ []) is);
  each = λ q. refl;
  is_there = is;
  others = λ q apart. refl;
}

module _ {Z : Type 0} (old new : Sessions Z) (a : Addresses) (v : Vec NamedRecord Z)
    (updates : UpdatesBy order.ghosts.cmp (order.ghosts.cmp a) old.by_addresses new.by_addresses (Some v)) where
  there : get order.ghosts.cmp new.by_addresses a ≡ Some v
  there = updates.1

  elsewhere : (q : Addresses) → are_same a q ≡ false → get order.ghosts.cmp new.by_addresses q ≡ get order.ghosts.cmp old.by_addresses q
  elsewhere q apart = updates.2 q apart

  pub others_held : (q : Addresses) → are_same a q ≡ false → is_held new q ≡ is_held old q
  others_held q apart = ap is_some (elsewhere q apart)

  pub others_records : (q : Addresses) → are_same a q ≡ false → held_records new q ≡ held_records old q
  others_records q apart = ap (λ (o : Option (Vec NamedRecord Z)). unwrap_or (option_map (λ (w : Vec NamedRecord Z). map located w.items) o) []) (elsewhere q apart)

  pub begun : is_held old a ≡ false → v.items ≡ [] → new.order.items ≡ old.order.items ++ a ∷ [] → Begins old new a
  begun not_held empty order_is = record {
    in_order = order_is ∙ sym (ap (λ (b : Bool). if b then held_sessions old else held_sessions old ++ a ∷ []) not_held);
    each = λ q. by q (are_same a q) refl;
    is_there = known_some new a v there;
    others = others_held;
  } where
    here : held_records new a ≡ held_records old a
    here = held_some new a v there ∙ ap (map located) empty ∙ sym (held_none old a (none_of _ not_held))

    by : (q : Addresses) (b : Bool) → are_same a q ≡ b → held_records new q ≡ held_records old q
    by q false is = others_records q is
    by q true is = subst (λ (x : Addresses). held_records new x ≡ held_records old x) (same_is a q is) here

-- ---- and a record of it

filter_one : (p : Located → Bool) (named : List Located) (x : Located) (b : Bool) → p x ≡ b → filter p (named ++ x ∷ []) ≡ filter p named ++ (if b then x ∷ [] else [])
filter_one p named x b is = filter-append p named (x ∷ []) ∙ ap (λ (ls : List Located). filter p named ++ ls) (single b is) where
  single : (b : Bool) → p x ≡ b → filter p (x ∷ []) ≡ (if b then x ∷ [] else [])
  single true is = ap (λ (c : Bool). if c then x ∷ [] else []) is
  single false is = ap (λ (c : Bool). if c then x ∷ [] else []) is

any_one : (p : Located → Bool) (named : List Located) (x : Located) (b : Bool) → p x ≡ b → list_any p (named ++ x ∷ []) ≡ (list_any p named || b)
any_one p named x b is = list_any-append p named (x ∷ []) ∙ ap (λ (c : Bool). list_any p named || c) (single b is) where
  single : (b : Bool) → p x ≡ b → list_any p (x ∷ []) ≡ b
  single true is = ap (λ (c : Bool). c || false) is
  single false is = ap (λ (c : Bool). c || false) is

or_false : (b : Bool) → (b || false) ≡ b
or_false true = refl
or_false false = refl

or_true : (b : Bool) → (b || true) ≡ true
or_true true = refl
or_true false = refl

module _ {Z : Type 0} (old mid new : Sessions Z) (named : List Located) (x : Located) (h : Gathers named old) (begins : Begins old mid (addresses_of x.octets)) where
  abbrev a : Addresses
  a = addresses_of x.octets

  unless : (b : Bool) → (if b then held_sessions old else held_sessions old ++ a ∷ []) ≡ held_sessions old ++ (if b then [] else a ∷ [])
  unless true = sym (append-nil (held_sessions old))
  unless false = refl

  order_more : held_sessions mid ≡ sessions_in (named ++ x ∷ [])
  order_more =
      begins.in_order ∙ unless (is_held old a)
      ∙ ap (λ (b : Bool). held_sessions old ++ (if b then [] else a ∷ [])) (h.known a)
      ∙ ap (λ (ls : List Addresses). ls ++ (if list_any (is_between a) named then [] else a ∷ [])) h.holds.in_order
      ∙ sym (besides_more [] named x)

  module _ (v after : Vec NamedRecord Z) (was : get order.ghosts.cmp mid.by_addresses a ≡ Some v) (items : map located after.items ≡ map located v.items ++ x ∷ [])
      (updates : UpdatesBy order.ghosts.cmp (order.ghosts.cmp a) mid.by_addresses new.by_addresses (Some after)) where
    here : held_records new a ≡ records_between a (named ++ x ∷ [])
    here =
        held_some new a after updates.1 ∙ items
        ∙ ap (λ (ls : List Located). ls ++ x ∷ []) (sym (held_some mid a v was) ∙ begins.each a ∙ h.holds.each a)
        ∙ sym (filter_one (is_between a) named x true (same_itself a))

    there_too : (q : Addresses) (b : Bool) → are_same a q ≡ b → held_records new q ≡ records_between q (named ++ x ∷ [])
    there_too q true is = subst (λ (y : Addresses). held_records new y ≡ records_between y (named ++ x ∷ [])) (same_is a q is) here
    there_too q false is =
        others_records mid new a after updates q is ∙ begins.each q ∙ h.holds.each q
        ∙ sym (filter_one (is_between q) named x false (same_back q a ∙ is) ∙ append-nil (records_between q named))

    known_too : (q : Addresses) (b : Bool) → are_same a q ≡ b → is_held new q ≡ list_any (is_between q) (named ++ x ∷ [])
    known_too q true is =
        subst (λ (y : Addresses). is_held new y ≡ list_any (is_between y) (named ++ x ∷ [])) (same_is a q is)
        (known_some new a after updates.1 ∙ sym (any_one (is_between a) named x true (same_itself a) ∙ or_true (list_any (is_between a) named)))
    known_too q false is =
        others_held mid new a after updates q is ∙ begins.others q is ∙ h.known q
        ∙ sym (any_one (is_between q) named x false (same_back q a ∙ is) ∙ or_false (list_any (is_between q) named))

    pub taken : new.order.items ≡ mid.order.items → Gathers (named ++ x ∷ []) new
    taken order_is = record {
      holds = record { in_order = order_is ∙ order_more; each = λ q. there_too q (are_same a q) refl };
      known = λ q. known_too q (are_same a q) refl;
    }
    -- it is there

  pub is_there : get order.ghosts.cmp mid.by_addresses a ≡ None → ⊥
  is_there none = let k = ap is_some none in let t = begins.is_there in cc

-- the same, of what a map has at these addresses
pub taken_one : {Z : Type 0} (old mid new : Sessions Z) (named : List Located) (x : Located) (q : Addresses) → q ≡ addresses_of x.octets → Gathers named old → Begins old mid q
    → (v after : Vec NamedRecord Z) → get order.ghosts.cmp mid.by_addresses q ≡ Some v → map located after.items ≡ map located v.items ++ x ∷ []
    → UpdatesBy order.ghosts.cmp (order.ghosts.cmp q) mid.by_addresses new.by_addresses (Some after) → new.order.items ≡ mid.order.items
    → Gathers (named ++ x ∷ []) new
taken_one {Z} old mid new named x q same h begins v after was items updates order_is =
    taken old mid new named x h (subst (λ (y : Addresses). Begins old mid y) same begins) v after
    (subst (λ (y : Addresses). get order.ghosts.cmp mid.by_addresses y ≡ Some v) same was) items
    (subst (λ (y : Addresses). UpdatesBy order.ghosts.cmp (order.ghosts.cmp y) mid.by_addresses new.by_addresses (Some after)) same updates) order_is
