-- Whatever begins a run under some configuration of an OPEN does under a widest one: the one that wants the peer's AS number, or the one that wants another.
use Rattle.std.proofs.Common.{◌≡◌, ◌≢◌, ◌≤◌, ◌⊎◌, IsTrue, ℕ, List, [], ◌∷◌, Option, None, Some, inl, inr, refl, sym, ap, ◌∙◌, arith}
use Rattle.std.proofs.lemmas.Bool.{cases_eq}
use Rattle.std.proofs.lemmas.Map.Views.{exact_unsigned_eq}
use Rattle.bgp_prefix.specs.declared.session.Session.{Session}
use Rattle.bgp_open.specs.Config.{is_internal}
use Rattle.bgp_open.specs.Open.{open_of}
use Rattle.bgp_open.specs.OpenSubcodes.{peer_as_of}
use Rattle.bgp_open.specs.declared.config.Config.{Config}
use Rattle.bgp_open.specs.declared.config.ConfigParts.{ConfigParts}
use Rattle.bgp_machine.specs.Lists.{Each, Has}
use Rattle.bgp_machine.specs.Run.{Begins, IsComplete}
use Rattle.bgp_check.specs.Alike.{AreAlike}
use Rattle.bgp_check.specs.Another.{AnotherBegins, AnotherIsComplete, CanBeTold, IsAnother, WantsAnother}
use Rattle.bgp_check.specs.Configurations.{IsOf}
use Rattle.bgp_check.specs.Wider.{IsWider, WiderBegins, WiderIsComplete}
use Rattle.bgp_check.specs.Widest.{AreWidestWith, IsItsOwn, IsWidest, WantsIt, WidestBegins, WidestIsComplete}
use Rattle.bgp_check.proofs.EachHeard.{readable_or_not}
use Rattle.bgp_check.proofs.OtherParts.{by_parts}
use Rattle.bgp_check.proofs.SameOpen.{alike_of}

-- ---- lists

pub found : {X : Type 0} (P Q R : X → Type 0) (xs : List X) → Has P xs → Each Q xs → ((x : X) → P x → Q x → R x) → Has R xs
found P Q R [] h each f = absurd h
found P Q R (x ∷ xs) h each f = elim h [ inl p ↦ inl (f x p each.0) | inr k ↦ inr (found P Q R xs k each.1 f) ]

pub some_of : {X : Type 0} (P Q : X → Type 0) (xs : List X) → Has P xs → Each Q xs → (x : X) × Q x × P x
some_of P Q [] h each = absurd h
some_of P Q (x ∷ xs) h each = elim h [ inl p ↦ (x, each.0, p) | inr k ↦ some_of P Q xs k each.1 ]

-- ---- which of both a configuration is under

-- the peer's AS number depends on what the OPEN says alone
pub peer_as_alike : (one other : Config) → AreAlike one other → (octets : List ℕ) → peer_as_of other (open_of octets) ≡ peer_as_of one (open_of octets)
peer_as_alike one other same octets =
    by_parts (λ (c : Config). peer_as_of c (open_of octets) ≡ peer_as_of one (open_of octets)) other
    (record one.parts { peer_as = other.parts.peer_as; delay_open = other.parts.delay_open; large_hold = other.parts.large_hold }) same (λ valid fits. refl)

wants_or_not : (config : Config) (peers : Option (List ℕ)) → WantsIt config peers ⊎ WantsAnother config peers
wants_or_not config None = inr tt
wants_or_not config (Some octets) = elim (readable_or_not config octets) [
  | inr never ↦ inr (λ readable. absurd (never readable))
  | inl readable ↦ elim (cases_eq (peer_as_of config (open_of octets)) config.parts.peer_as) [
    | inl same ↦ inl (readable, same)
    | inr differs ↦ inr (λ is. differs)
  ]
]

least_hold : (a b : ℕ) → a ≡ 1 → b ≢ 0 → a ≤ b
least_hold a b one some = omega arith

-- both want the peer's AS number: so the one is wider
wider_by : (config a : Config) (peers : Option (List ℕ)) → AreAlike config a → IsWidest a → WantsIt config peers → WantsIt a peers → IsWider config a
wider_by config a None same widest w w2 = absurd w
wider_by config a (Some octets) same widest w w2 =
    let peer : a.parts.peer_as ≡ config.parts.peer_as = sym w2.1 ∙ peer_as_alike config a same octets ∙ w.1 in
    record {
      same = same ∙ ap (λ (v : ℕ). let p : ConfigParts = record config.parts { peer_as = v; delay_open = a.parts.delay_open; large_hold = a.parts.large_hold } in p) peer;
      delay = λ may. widest.delay;
      hold = least_hold a.parts.large_hold config.parts.large_hold widest.hold config.valid.large_hold;
    }

-- the first, with the delay and the large HoldTimer of the second
abbrev pub between : Config → Config → Config
between config b = record {
  parts = record config.parts { delay_open = b.parts.delay_open; large_hold = b.parts.large_hold };
  valid = record {
    local_as = config.valid.local_as;
    peer_as = config.valid.peer_as;
    local_id = config.valid.local_id;
    hold = config.valid.hold;
    families = config.valid.families;
    large_hold = b.valid.large_hold;
    two_octets = config.valid.two_octets;
  };
  fits = record {
    local_as = config.fits.local_as;
    peer_as = config.fits.peer_as;
    local_id = config.fits.local_id;
    hold = config.fits.hold;
    large_hold = b.fits.large_hold;
  };
}

pub between_is_wider : (config b : Config) → IsWidest b → IsWider config (between config b)
between_is_wider config b widest = record {
  same = refl;
  delay = λ may. widest.delay;
  hold = least_hold b.parts.large_hold config.parts.large_hold widest.hold config.valid.large_hold;
}

-- it wants another AS number than the peer's: so it isn't internal where the peer has the local system's
never_internal : (config b : Config) (peers : Option (List ℕ)) → AreAlike config b → WantsAnother config peers → IsItsOwn b peers
    → ¬ IsTrue (is_internal config.parts)
never_internal config b None same w own internal = own
never_internal config b (Some octets) same w own internal =
    let local : b.parts.local_as ≡ config.parts.local_as = ap (λ (p : ConfigParts). p.local_as) same in
    let equal : config.parts.local_as ≡ config.parts.peer_as = exact_unsigned_eq config.parts.local_as config.parts.peer_as internal in
    w own.0 (sym (peer_as_alike config b same octets) ∙ own.1 ∙ local ∙ equal)

between_is_another : (config b : Config) (peers : Option (List ℕ)) → AreAlike config b → WantsAnother config peers
    → (CanBeTold peers → IsTrue (is_internal b.parts) ⊎ IsItsOwn b peers) → IsAnother peers (between config b) b
between_is_another config b peers same w way = record {
  same = same;
  internal = λ told internal. elim (way told) [ inl is ↦ is | inr own ↦ absurd (never_internal config b peers same w own internal) ];
}

wants_between : (config b : Config) (peers : Option (List ℕ)) → WantsAnother config peers → WantsAnother (between config b) peers
wants_between config b None w = tt
wants_between config b (Some octets) w = w

-- ---- the laws

-- a fact of configurations and a stretch that passes to wider ones, and to others where another AS number is wanted
module _ (session : Session) (own : List ℕ) (peers : Option (List ℕ)) (widest : List Config)
    (are : AreWidestWith session own peers widest) (Fact : Config → Type 0)
    (wider : (narrow wide : Config) → IsWider narrow wide → Fact narrow → Fact wide)
    (another : (one other : Config) → IsAnother peers one other → WantsAnother one peers
    → WantsAnother other peers → Fact one → Fact other) where
  under_widest : (config : Config) → IsOf session (Some own) config → Fact config → Has Fact widest
  under_widest config of fact = elim (wants_or_not config peers) [
    | inl wants ↦ found (λ (a : Config). WantsIt a peers) (λ (a : Config). IsOf session (Some own) a × IsWidest a) Fact widest (are.first config of wants) are.each
        (λ a it x. wider config a (wider_by config a peers (alike_of session own config a of x.0) x.1 wants it) fact)
    | inr wants ↦ found (λ (b : Config). WantsAnother b peers × (CanBeTold peers → IsTrue (is_internal b.parts) ⊎ IsItsOwn b peers))
        (λ (b : Config). IsOf session (Some own) b × IsWidest b) Fact widest are.another are.each
        (λ b it x. another (between config b) b (between_is_another config b peers (alike_of session own config b of x.0) wants it.1)
        (wants_between config b peers wants) it.0
        (wider config (between config b) (between_is_wider config b x.1) fact))
  ]

  under_some : Has Fact widest → (config : Config) × IsOf session (Some own) config × Fact config
  under_some h = let k = some_of Fact (λ (c : Config). IsOf session (Some own) c × IsWidest c) widest h are.each in (k.0, k.1.0, k.2)

pub begins : WiderBegins → AnotherBegins → WidestBegins
begins wider another session own peers widest records are stretch first =
    let w = λ (narrow wide : Config) (is : IsWider narrow wide) (b : Begins narrow records). wider narrow wide records is b in
    let n = λ (one other : Config) (is : IsAnother peers one other) (x : WantsAnother one peers)
    (y : WantsAnother other peers) (b : Begins one records). another one other records peers is stretch first x y b in
    let Fact = λ (c : Config). Begins c records in
    (λ x. under_widest session own peers widest are Fact w n x.0 x.1 x.2, under_some session own peers widest are Fact w n)

pub complete : WiderIsComplete → AnotherIsComplete → WidestIsComplete
complete wider another session own peers widest records end are stretch first =
    let w = λ (narrow wide : Config) (is : IsWider narrow wide) (b : IsComplete narrow records end). wider narrow wide records end is b in
    let n = λ (one other : Config) (is : IsAnother peers one other) (x : WantsAnother one peers)
    (y : WantsAnother other peers) (b : IsComplete one records end). another one other records peers end is stretch first x y b in
    let Fact = λ (c : Config). IsComplete c records end in
    (λ x. under_widest session own peers widest are Fact w n x.0 x.1 x.2, under_some session own peers widest are Fact w n)
