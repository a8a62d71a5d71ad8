-- What is held of two addresses is another.
use Rattle.std.proofs.Common.{◌≡◌, ◌∙◌, ◌⊎◌, ℕ, true, false, List, [], Option, None, Some, is_some, refl, sym, ap, subst, inl, inr}
use Rattle.std.specs.BTreeMap.{UpdatesBy, is_at}
use Rattle.std.specs.Map.{lookup}
use Rattle.packets.specs.Packet.{Recorded}
use Rattle.segments.specs.contracts.found.AddressesOrd.TheImpl as order
use Rattle.segments.specs.declared.found.Addresses.{Addresses}
use Rattle.bgp_import.specs.Talks.{Changes, HoldsEach, IsFresh, IsSameTalk, KeepsOthers, talk_at}
use Rattle.bgp_import.specs.declared.talk.Talk.{Talk}
use Rattle.bgp_import.specs.declared.talks.Talks.{Talks}
use Rattle.bgp_import.specs.declared.wrapped.Wrapped.{Wrapped}

some_false : {X : Type 0} (o : Option X) → is_some o ≡ false → o ≡ None
some_false None e = refl
some_false (Some x) e = absurd cc

none_some : {X : Type 0} (x : X) → None ≡ Some x → ⊥
none_some x e = cc

talk_is : {Z : Type 0} (a b : Talk Z) → Some a ≡ Some b → a ≡ b
talk_is a b e = cc

-- ---- nothing is held yet

pub none_yet : {Z : Type 0} (port : ℕ) (talks : Talks Z) → talks.port ≡ port → talks.by_addresses.entries ≡ [] → HoldsEach port [] talks
none_yet {Z} port talks its empty = record {
  right = record {
    is_port = its;
    each = λ q talk is. absurd (none_some talk (sym (ap (λ (es : List (Addresses × Talk Z)). lookup (is_at (order.ghosts.cmp q)) es) empty) ∙ is));
  };
  none = λ q o is. refl;
}

-- how many packets are wrapped is no part of it
pub recounted : {Z : Type 0} (port : ℕ) (packets : List Recorded) (talks : Talks Z) (wrapped : Wrapped) → HoldsEach port packets talks
    → HoldsEach port packets (record talks { wrapped = wrapped })
recounted port packets talks wrapped h = record { right = record { is_port = h.right.is_port; each = h.right.each }; none = h.none }

-- ---- these addresses are held

pub same_talk : {Z : Type 0} (talks : Talks Z) (own : Addresses) (o : Option (Talk Z)) → talk_at talks own ≡ o → is_some o ≡ true → Changes IsSameTalk talks talks own
same_talk talks own None is some = absurd cc
same_talk talks own (Some talk) is some = record { before = talk; after = talk; was = inl is; is = is; by = refl; others = λ q f. refl }

pub new_talk : {Z : Type 0} (old new : Talks Z) (own : Addresses) (fresh : Talk Z) → is_some (talk_at old own) ≡ false
    → UpdatesBy order.ghosts.cmp (order.ghosts.cmp own) old.by_addresses new.by_addresses (Some fresh) → IsFresh fresh → Changes IsSameTalk old new own
new_talk old new own fresh none updates is = record {
  before = fresh;
  after = fresh;
  was = inr (some_false (talk_at old own) none, is);
  is = updates.1;
  by = refl;
  others = λ q f. updates.2 q f;
}

pub unchanged : {Z : Type 0} (old new : Talks Z) (own : Addresses) → new.by_addresses.entries ≡ old.by_addresses.entries → KeepsOthers old new own
unchanged {Z} old new own same q f = ap (λ (es : List (Addresses × Talk Z)). lookup (is_at (order.ghosts.cmp q)) es) same

-- ---- and then another

module _ {Z : Type 0} (old mid new : Talks Z) (own : Addresses) (h : Changes IsSameTalk old mid own) where
  was_by : (v : Talk Z) → v ≡ h.before → (talk_at old own ≡ Some v) ⊎ ((talk_at old own ≡ None) × IsFresh v)
  was_by v same = subst (λ (t : Talk Z). (talk_at old own ≡ Some t) ⊎ ((talk_at old own ≡ None) × IsFresh t)) (sym same) h.was

  pub written : (By : Talk Z → Talk Z → Type 0) (v after : Talk Z) → talk_at mid own ≡ Some v → By v after
      → UpdatesBy order.ghosts.cmp (order.ghosts.cmp own) mid.by_addresses new.by_addresses (Some after) → Changes By old new own
  written By v after there by updates = record {
    before = v;
    after = after;
    was = was_by v (talk_is v h.after (sym there ∙ h.is) ∙ h.by);
    is = updates.1;
    by = by;
    others = λ q f. updates.2 q f ∙ h.others q f;
  }

  pub kept : (after : Talk Z) → UpdatesBy order.ghosts.cmp (order.ghosts.cmp own) mid.by_addresses new.by_addresses (Some after) → KeepsOthers old new own
  kept after updates q f = updates.2 q f ∙ h.others q f

  -- it is there
  pub is_there : talk_at mid own ≡ None → ⊥
  is_there none = none_some h.after (sym none ∙ h.is)

-- ---- these addresses are let go

pub gone : {Z : Type 0} (mid new : Talks Z) (own : Addresses) → UpdatesBy order.ghosts.cmp (order.ghosts.cmp own) mid.by_addresses new.by_addresses None
    → KeepsOthers mid new own × (talk_at new own ≡ None)
gone mid new own updates = (λ q f. updates.2 q f, updates.1)
