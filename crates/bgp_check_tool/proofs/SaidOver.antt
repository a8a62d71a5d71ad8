-- What the search finds under the widest configurations.
use Rattle.std.proofs.Common.{◌≡◌, ◌∙◌, ◌⊎◌, ◌+◌, ◌<◌, ◌≤◌, ℕ, zero, suc, Bool, true, false, List, [], ◌∷◌, Option, None, Some, IfSome, arith, inl, inr, length, nat_lt, option_map, refl, slice_get, subst, sym}
use Rattle.bgp_prefix.specs.declared.session.Session.{Session}
use Rattle.streams.specs.declared.connection.Connection.{Connection}
use Rattle.bgp_open.specs.Open.{OpenFields, open_of}
use Rattle.bgp_open.specs.declared.config.Config.{Config}
use Rattle.bgp_machine.specs.Lists.{Each}
use Rattle.bgp_machine.specs.Run.{End}
use Rattle.bgp_recording.specs.declared.framing.Framings.{Framings}
use Rattle.bgp_recording.specs.declared.ordering.Exchange.{Exchange}
use Rattle.bgp_orders.specs.Connections.{TellsConnection}
use Rattle.bgp_orders.specs.Explained.{HasVerdictOver, IsExplained, IsWhole, No, Unfinished, VerdictOver}
use Rattle.bgp_orders.proofs.Over.{at_most_explained, whole_is_explained}
use Rattle.bgp_parts.specs.Opens.{HasOwnOpen, HasPeersOpen}
use Rattle.bgp_check.specs.Answered.{heard_as, peer_as_by}
use Rattle.bgp_check.specs.declared.peer_as.PeerAs.{PeerAs}
use Rattle.bgp_check.specs.Checked.{IsUnder}
use Rattle.bgp_check.specs.WidestMade.{both_of}
use Rattle.bgp_check.specs.WidestOf.{AreTold, parts_of, widest_of}
use Rattle.bgp_check.specs.declared.widest.Widest.{Widest}
use Rattle.bgp_check_tool.specs.declared.orders.Finding.{Finding}
use Rattle.bgp_check_tool.specs.declared.orders.Finding.TheVariants as findings
use Rattle.bgp_check_tool.specs.declared.orders.Said.{Said}
use Rattle.bgp_check_tool.specs.declared.orders.Said.TheVariants as said
use Rattle.bgp_check_tool.specs.declared.orders.TooLong.{TooLong}
use Rattle.bgp_check_tool.specs.Orders.{AreItsWidest, AreKnownOf, AreNamed, AreTooManyUnder, IsFinding, IsNamed, IsNoBetter, IsNoMessage, IsOver, IsSaid, IsSaidBy, IsSaidOver, IsToldOver, IsWholeWay, FindsRecords, SaysRecords, is_too_many, is_whole, records_received, records_sent, tells_other}

not_beyond : (config : Config) (within : ℕ) (exchange : Exchange) (count before : ℕ) → HasVerdictOver config within exchange (No count) → count ≤ before
    → ¬ IsExplained config within exchange (before + 1)
not_beyond config within exchange count before holds less explained =
    holds.2 (at_most_explained config within exchange (count + 1) (before + 1) (omega (arith, less)) explained)

-- where a message isn't explained no way is whole
none_whole : (config : Config) (within : ℕ) (exchange : Exchange) (count : ℕ) → HasVerdictOver config within exchange (No count) → (e : End) → ¬ IsWhole config within exchange e
none_whole config within exchange count holds e whole =
    let few : count < length exchange.sent.now = holds.0 in
    holds.2 (at_most_explained config within exchange (count + 1) (length exchange.sent.now) (omega (arith, few)) (whole_is_explained config within exchange e whole))

not_unfinished : (config : Config) (within : ℕ) (exchange : Exchange) (count : ℕ) → HasVerdictOver config within exchange (No count) → ¬ HasVerdictOver config within exchange Unfinished
not_unfinished config within exchange count holds unfinished =
    let few : count < length exchange.sent.now = holds.0 in
    holds.2 (at_most_explained config within exchange (count + 1) (length exchange.sent.now) (omega (arith, few)) unfinished.0)

not_later : (config : Config) (within : ℕ) (exchange : Exchange) (count later : ℕ) → HasVerdictOver config within exchange (No count) → count < later
    → ¬ HasVerdictOver config within exchange (No later)
not_later config within exchange count later holds less other =
    holds.2 (at_most_explained config within exchange (count + 1) later (omega (arith, less)) other.1)

at_most : (count later : ℕ) → nat_lt count later ≡ false → later ≤ count
at_most count later is = grind arith

less_than : (count later : ℕ) → nat_lt count later ≡ true → count < later
less_than count later is = grind arith

-- ---- what is named by what is found

module _ (within : ℕ) (framings : Framings) (connection : Connection) (exchange : Exchange) (tells : TellsConnection framings connection exchange) where
  abbrev Named : Bool → Config → Type 0
  Named named config = IsNamed within framings connection named config

  named_so : {X : Type 0} (config : Config) (known named : Bool) (x : Finding X) → IsFinding within framings connection config exchange known x
      → (known ≡ true → AreTooManyUnder within framings connection config) → is_whole x ≡ false → named ≡ is_too_many x → Named named config
  named_so config known named (findings.Whole recording) is so none same = absurd (let k : ⊥ = cc in k)
  named_so config known named findings.Unfinished is so none same =
      subst (λ (b : Bool). Named b config) (sym same) (record { exchange = exchange; tells = tells; none = is.1 })
  named_so config known named (findings.Only count) is so none same =
      subst (λ (b : Bool). Named b config) (sym same) (record { exchange = exchange; tells = tells; none = none_whole config within exchange count is })
  named_so config known named findings.TooMany is so none same = subst (λ (b : Bool). Named b config) (sym same) (is so)

  -- ---- told under one of two

  module _ (wanting another : Config) where
    abbrev Best : VerdictOver → Type 0
    Best verdict = Each (IsNoBetter within exchange verdict) (both_of (Some wanting) another)

    module _ (widest : Widest) (is_wanting : widest.wanting ≡ Some wanting) (is_another : widest.another ≡ another) where
      of_first : (verdict : VerdictOver) → HasVerdictOver wanting within exchange verdict → Best verdict → IsToldOver widest within exchange true wanting verdict
      of_first verdict holds best = record {
        is_under = is_wanting;
        holds = holds;
        best = subst (λ (a : Config). Each (IsNoBetter within exchange verdict) (both_of widest.wanting a)) (sym is_another)
            (subst (λ (w : Option Config). Each (IsNoBetter within exchange verdict) (both_of w another)) (sym is_wanting) best);
        first = λ other. absurd (let k : ⊥ = cc in k);
      }

      of_other : (verdict : VerdictOver) → HasVerdictOver another within exchange verdict → Best verdict → ¬ HasVerdictOver wanting within exchange verdict
          → IsToldOver widest within exchange false another verdict
      of_other verdict holds best first = record {
        is_under = is_another;
        holds = holds;
        best = subst (λ (a : Config). Each (IsNoBetter within exchange verdict) (both_of widest.wanting a)) (sym is_another)
            (subst (λ (w : Option Config). Each (IsNoBetter within exchange verdict) (both_of w another)) (sym is_wanting) best);
        first = λ other. subst (λ (w : Option Config). IfSome w (λ config. ¬ HasVerdictOver config within exchange verdict)) (sym is_wanting) first;
      }

      -- these are named, if one is
      both_named : {X : Type 0} (known its : TooLong) (one other : Finding X) → IsFinding within framings connection wanting exchange known.wanting one
          → IsFinding within framings connection another exchange known.another other → its.wanting ≡ is_too_many one → its.another ≡ is_too_many other
          → is_whole one ≡ false → is_whole other ≡ false → (its.wanting ≡ true) ⊎ (its.another ≡ true)
          → AreKnownOf within framings connection widest known → AreNamed within framings connection widest.wanting widest.another its
      both_named {X} known its one other is is_other same same_other not_one not_other some are =
          subst (λ (a : Config). AreNamed within framings connection widest.wanting a its) (sym is_another)
          (subst (λ (w : Option Config). AreNamed within framings connection w another its) (sym is_wanting) (
            named_so wanting known.wanting its.wanting one is (λ so. are true wanting is_wanting so) not_one same,
            named_so another known.another its.another other is_other (λ so. are false another is_another so) not_other same_other,
            some,
          ))

      pub said_whole : {X : Type 0} (known its : TooLong) (one : Finding X) → IsFinding within framings connection wanting exchange known.wanting one → is_whole one ≡ true
          → IsSaidOver within framings connection widest exchange known true wanting its one
      said_whole known its (findings.Whole recording) is whole = (is_wanting, is)
      said_whole known its findings.Unfinished is whole = absurd (let k : ⊥ = cc in k)
      said_whole known its (findings.Only count) is whole = absurd (let k : ⊥ = cc in k)
      said_whole known its findings.TooMany is whole = absurd (let k : ⊥ = cc in k)

      pub said_first : {X : Type 0} (known its : TooLong) (one other : Finding X) → IsFinding within framings connection wanting exchange known.wanting one
          → IsFinding within framings connection another exchange known.another other → its.wanting ≡ is_too_many one → its.another ≡ is_too_many other
          → tells_other one other ≡ false → IsSaidOver within framings connection widest exchange known true wanting its one
      said_first {X} known its (findings.Whole recording) other is is_other same same_other tells = (is_wanting, is)
      said_first {X} known its findings.Unfinished (findings.Whole recording) is is_other same same_other tells = absurd (let k : ⊥ = cc in k)
      said_first {X} known its findings.Unfinished findings.Unfinished is is_other same same_other tells = of_first Unfinished is (is.1, (is_other.1, tt))
      said_first {X} known its findings.Unfinished (findings.Only later) is is_other same same_other tells =
          of_first Unfinished is (is.1, (none_whole another within exchange later is_other, tt))
      said_first {X} known its findings.Unfinished findings.TooMany is is_other same same_other tells = absurd (let k : ⊥ = cc in k)
      said_first {X} known its (findings.Only count) (findings.Whole recording) is is_other same same_other tells = absurd (let k : ⊥ = cc in k)
      said_first {X} known its (findings.Only count) findings.Unfinished is is_other same same_other tells = absurd (let k : ⊥ = cc in k)
      said_first {X} known its (findings.Only count) (findings.Only later) is is_other same same_other tells =
          of_first (No count) is (is.2, (not_beyond another within exchange later count is_other (at_most count later tells), tt))
      said_first {X} known its (findings.Only count) findings.TooMany is is_other same same_other tells = absurd (let k : ⊥ = cc in k)
      said_first {X} known its findings.TooMany (findings.Whole recording) is is_other same same_other tells = absurd (let k : ⊥ = cc in k)
      said_first {X} known its findings.TooMany findings.Unfinished is is_other same same_other tells =
          both_named {X = X} known its findings.TooMany findings.Unfinished is is_other same same_other refl refl (inl same)
      said_first {X} known its findings.TooMany (findings.Only later) is is_other same same_other tells =
          both_named {X = X} known its findings.TooMany (findings.Only later) is is_other same same_other refl refl (inl same)
      said_first {X} known its findings.TooMany findings.TooMany is is_other same same_other tells =
          both_named {X = X} known its findings.TooMany findings.TooMany is is_other same same_other refl refl (inl same)

      pub said_other : {X : Type 0} (known its : TooLong) (one other : Finding X) → IsFinding within framings connection wanting exchange known.wanting one
          → IsFinding within framings connection another exchange known.another other → its.wanting ≡ is_too_many one → its.another ≡ is_too_many other
          → tells_other one other ≡ true → IsSaidOver within framings connection widest exchange known false another its other
      said_other {X} known its one (findings.Whole recording) is is_other same same_other tells = (is_another, is_other)
      said_other {X} known its (findings.Whole recording) findings.Unfinished is is_other same same_other tells = absurd (let k : ⊥ = cc in k)
      said_other {X} known its findings.Unfinished findings.Unfinished is is_other same same_other tells = absurd (let k : ⊥ = cc in k)
      said_other {X} known its (findings.Only count) findings.Unfinished is is_other same same_other tells =
          of_other Unfinished is_other (none_whole wanting within exchange count is, (is_other.1, tt)) (not_unfinished wanting within exchange count is)
      said_other {X} known its findings.TooMany findings.Unfinished is is_other same same_other tells = absurd (let k : ⊥ = cc in k)
      said_other {X} known its (findings.Whole recording) (findings.Only later) is is_other same same_other tells = absurd (let k : ⊥ = cc in k)
      said_other {X} known its findings.Unfinished (findings.Only later) is is_other same same_other tells = absurd (let k : ⊥ = cc in k)
      said_other {X} known its (findings.Only count) (findings.Only later) is is_other same same_other tells =
          let less = less_than count later tells in
          of_other (No later) is_other (not_beyond wanting within exchange count later is (omega (arith, less)), (is_other.2, tt)) (not_later wanting within exchange count later is less)
      said_other {X} known its findings.TooMany (findings.Only later) is is_other same same_other tells = absurd (let k : ⊥ = cc in k)
      said_other {X} known its (findings.Whole recording) findings.TooMany is is_other same same_other tells = absurd (let k : ⊥ = cc in k)
      said_other {X} known its findings.Unfinished findings.TooMany is is_other same same_other tells =
          both_named {X = X} known its findings.Unfinished findings.TooMany is is_other same same_other refl refl (inr same_other)
      said_other {X} known its (findings.Only count) findings.TooMany is is_other same same_other tells =
          both_named {X = X} known its (findings.Only count) findings.TooMany is is_other same same_other refl refl (inr same_other)
      said_other {X} known its findings.TooMany findings.TooMany is is_other same same_other tells = absurd (let k : ⊥ = cc in k)

  -- ---- where there is one

  module _ (widest : Widest) (is_none : widest.wanting ≡ None) where
    of_alone : (verdict : VerdictOver) → HasVerdictOver widest.another within exchange verdict → IsNoBetter within exchange verdict widest.another
        → IsToldOver widest within exchange false widest.another verdict
    of_alone verdict holds best = record {
      is_under = refl;
      holds = holds;
      best = subst (λ (w : Option Config). Each (IsNoBetter within exchange verdict) (both_of w widest.another)) (sym is_none) (best, tt);
      first = λ other. subst (λ (w : Option Config). IfSome w (λ config. ¬ HasVerdictOver config within exchange verdict)) (sym is_none) tt;
    }

    pub said_alone : {X : Type 0} (known its : TooLong) (x : Finding X) → IsFinding within framings connection widest.another exchange known.another x → its.wanting ≡ false
        → its.another ≡ is_too_many x → IsSaidOver within framings connection widest exchange known false widest.another its x
    said_alone known its (findings.Whole recording) is no_wanting same = (refl, is)
    said_alone known its findings.Unfinished is no_wanting same = of_alone Unfinished is is.1
    said_alone known its (findings.Only count) is no_wanting same = of_alone (No count) is is.2
    said_alone known its findings.TooMany is no_wanting same =
        λ are. subst (λ (w : Option Config). AreNamed within framings connection w widest.another its) (sym is_none) (no_wanting, same, is (λ so. are false widest.another refl so))

is_there : {X : Type 0} (xs : List X) (i : ℕ) → i < length xs → slice_get xs i ≡ None → ⊥
is_there [] i less e = omega (arith, less)
is_there {X} (x ∷ xs) zero less e = (let k : ⊥ = cc in k)
is_there (x ∷ xs) (suc i) less e = is_there xs i (omega (arith, less)) e

-- ---- the records of a whole order

pub says_records : {X : Type 0} (exchange : Exchange) (own peers : Option (List ℕ)) (peer : PeerAs) (under : Config) (its : TooLong) (finding : Finding X) (x : Said X)
    → IsSaidBy exchange own peers peer under its finding x → FindsRecords finding → SaysRecords x
says_records exchange own peers peer under its finding (said.Whole config recording) by records = subst (λ f. FindsRecords f) by.0 records
says_records exchange own peers peer under its finding (said.NoOrder found) by records = tt
says_records exchange own peers peer under its finding (said.Unfinished unfinished) by records = tt
says_records exchange own peers peer under its finding (said.TooLong long) by records = tt
says_records exchange own peers peer under its finding said.Neither by records = tt

-- ---- what is said of an end

module _ (session : Session) (within : ℕ) (framings : Framings) (connection : Connection) (exchange : Exchange) (tells : TellsConnection framings connection exchange)
    (own peers : Option (List ℕ)) (told : Option OpenFields) (widest : Widest) (has_own : HasOwnOpen (records_sent exchange.sent.now) own)
    (has_peers : HasPeersOpen (records_received exchange.received.now) peers) (are_told : AreTold peers told) (made : parts_of widest ≡ widest_of session (option_map open_of own) told)
    (known : TooLong) (wants : Bool) (under : Config) (its : TooLong) where
  over_so : (verdict : VerdictOver) → IsToldOver widest within exchange wants under verdict → IsOver session within framings connection verdict
  over_so verdict is = record {
    exchange = exchange;
    tells = tells;
    own = own;
    peers = peers;
    told = told;
    widest = widest;
    has_own = has_own;
    has_peers = has_peers;
    are_told = are_told;
    made = made;
    wants = wants;
    under = under;
    is_told = is;
  }

  are_its : AreItsWidest session framings connection widest
  are_its = record {
    exchange = exchange;
    tells = tells;
    own = own;
    peers = peers;
    told = told;
    has_own = has_own;
    has_peers = has_peers;
    are_told = are_told;
    made = made;
  }

  module _ {X : Type 0} (finding : Finding X) (is_said : IsSaidOver within framings connection widest exchange known wants under its finding) where
    abbrev Over : Finding X → Type 0
    Over x = IsSaidOver within framings connection widest exchange known wants under its x

    -- a sent message that isn't explained is there
    some_message : (x : Finding X) → Over x → IsNoMessage exchange x → ⊥
    some_message (findings.Whole recording) is none = none
    some_message findings.Unfinished is none = none
    some_message (findings.Only count) is none =
        let few : count < length exchange.sent.now = is.holds.0 in
        is_there exchange.sent.now count few none
    some_message findings.TooMany is none = none

    pub said_so : (peer : PeerAs) → peer ≡ peer_as_by wants told (heard_as widest.wanting) → (x : Said X) → IsSaidBy exchange own peers peer under its finding x
        → IsSaid session within framings connection known x
    unfolding over_so are_its
    said_so peer is_peer (said.Whole config recording) by =
        let whole = subst Over by.0 is_said in
        record {
          is_widest = record { widest = widest; are = are_its; wants = wants; is_under = subst (λ (c : Config). IsUnder widest wants c) (sym by.1) whole.0 };
          is_whole = subst (λ (c : Config). IsWholeWay within framings connection c recording) (sym by.1) whole.1;
        }
    said_so peer is_peer (said.Unfinished unfinished) by = record {
      over = over_so Unfinished (subst Over by.0 is_said);
      is_under = by.2;
      is_peer = by.1 ∙ is_peer;
    }
    said_so peer is_peer (said.NoOrder found) by = record {
      over = over_so (No found.unexplained.before) (subst Over by.0 is_said);
      is_message = by.1;
      is_under = by.3;
      is_peer = by.2 ∙ is_peer;
      is_own = by.4;
      is_peers = by.5;
    }
    said_so peer is_peer (said.TooLong long) by = λ are. record {
      widest = widest;
      are = are_its;
      named = subst (λ (t : TooLong). AreNamed within framings connection widest.wanting widest.another t) (sym by.1) ((subst Over by.0 is_said) (are widest are_its));
    }
    said_so peer is_peer said.Neither by = absurd (some_message finding is_said by)
