-- What it says that no order explains a message.
use Rattle.std.proofs.Common.{◌≡◌, ◌∙◌, ◌+◌, ◌≤◌, ◌++◌, ◌⊎◌, Bool, true, false, ℕ, List, [], ◌∷◌, Option, None, Some, inl, inr, refl, sym, ap, subst, arith, length, take, drop}
use Rattle.std.proofs.lemmas.Bool.{cases_lt}
use Rattle.std.proofs.lemmas.List.{take-append-drop, take-append-le}
use Rattle.bgp_prefix.specs.Shown as shown
use Rattle.bgp_prefix.specs.Shown.{ShownRecord}
use Rattle.bgp_prefix.specs.declared.session.Session.{Session}
use Rattle.bgp_open.specs.OpenFault.{IsWellFormed}
use Rattle.bgp_open.specs.declared.config.Config.{Config}
use Rattle.bgp_machine.specs.Lists.{Each, Has}
use Rattle.bgp_machine.specs.Run.{Begins, End, IsComplete}
use Rattle.bgp_recording.specs.Allowed.{received_in, sent_in}
use Rattle.bgp_recording.specs.Tells.{items_in}
use Rattle.bgp_recording.specs.declared.message.Message.{Message}
use Rattle.bgp_recording.specs.declared.ordering.Exchange.{Exchange}
use Rattle.bgp_recording.specs.declared.standing.Before.TheVariants.{Other}
use Rattle.bgp_orders.specs.Explained.{IsExplained, IsWhole}
use Rattle.bgp_orders.specs.Ways.{records_of_front, records_of_way}
use Rattle.bgp_parts.specs.Opens.{HasOwnOpen, HasPeersOpen, IsOpenMessage, SendsNoOpen}
use Rattle.bgp_parts.proofs.OneOwnOpen.{one_own}
use Rattle.bgp_check.specs.Answered.{HasFault}
use Rattle.bgp_check.specs.Checked.{IsUnder}
use Rattle.bgp_check.specs.Configurations.{IsOf}
use Rattle.bgp_check.specs.OwnFaults.{SentOpenIsOwn}
use Rattle.bgp_check.specs.Stretch.{IsStretch}
use Rattle.bgp_check.specs.Widest.{AreWidestWith, WidestBegins, WidestIsComplete}
use Rattle.bgp_check.specs.WidestMade.{IsFaultless, WidestAreMade, both_of, configurations_of}
use Rattle.bgp_check.specs.Without.{AreWidest, AreWidestWithout, WithoutBegins, WithoutIsComplete}
use Rattle.bgp_check.specs.declared.own_fault.OwnFault.{OwnFault}
use Rattle.bgp_check.specs.declared.widest.Widest.{Widest}
use Rattle.bgp_check.proofs.OwnSettings.{none_if_own}
use Rattle.bgp_check_tool.specs.Orders.{UnexplainedByAll, UnfinishedByAll, records_received, records_sent}
use Rattle.bgp_check_tool.proofs.WayRecords.{front_is_stretch, front_sends_none, items_joined, none_sent_before, received_before, received_first, received_joined, sent_first, sent_joined, sent_within}

-- ---- lists of configurations

weaker : {X : Type 0} (P Q : X → Type 0) (xs : List X) → ((x : X) → P x → Q x) → Has P xs → Has Q xs
weaker P Q [] f none = absurd none
weaker P Q (x ∷ xs) f (inl this) = inl (f x this)
weaker P Q (x ∷ xs) f (inr later) = inr (weaker P Q xs f later)

with_both : {X : Type 0} (P Q : X → Type 0) (xs : List X) → Each P xs → Has Q xs → (x : X) × P x × Q x
with_both P Q [] each none = absurd none
with_both P Q (x ∷ xs) each (inl this) = (x, each.0, this)
with_both P Q (x ∷ xs) each (inr later) = with_both P Q xs each.1 later

none_has : {X : Type 0} (P : X → Type 0) (xs : List X) → Each (λ x. ¬ P x) xs → Has P xs → ⊥
none_has P [] each none = none
none_has P (x ∷ xs) each (inl this) = each.0 this
none_has P (x ∷ xs) each (inr later) = none_has P xs each.1 later

-- ---- widest configurations, while the peer's OPEN isn't received yet

with_none : (session : Session) (own : List ℕ) (peers : Option (List ℕ)) (widest : List Config) → AreWidestWith session own peers widest → AreWidestWith session own None widest
with_none session own peers widest are = record {
  each = are.each;
  first = λ config of wants. absurd wants;
  another = weaker _ _ widest (λ b is. (tt, λ told. absurd told)) are.another;
}

without_none : (session : Session) (peers : Option (List ℕ)) (widest : List Config) → AreWidestWithout session peers widest → AreWidestWithout session None widest
without_none session peers widest are = record {
  each = are.each;
  takes = λ config of takes. absurd takes;
  faults = weaker _ _ widest (λ b is. tt) are.faults;
}

-- records that begin a run under some configuration begin one under a widest one
widest_begins : WidestBegins → WithoutBegins → (session : Session) (own peers : Option (List ℕ)) (widest : List Config) (records : List ShownRecord) (config : Config)
    → AreWidest session own peers widest → IsStretch records → (own ≡ None → Each SendsNoOpen records) → HasPeersOpen records peers ⊎ HasPeersOpen records None
    → IsOf session own config → Begins config records → Has (λ c. Begins c records) widest
widest_begins enough without session (Some own) peers widest records config are stretch sends (inl has) of begins =
    (enough session own peers widest records are stretch has).0 (config, of, begins)
widest_begins enough without session (Some own) peers widest records config are stretch sends (inr none) of begins =
    (enough session own None widest records (with_none session own peers widest are) stretch none).0 (config, of, begins)
widest_begins enough without session None peers widest records config are stretch sends (inl has) of begins =
    (without session peers widest records are stretch (sends refl) has).0 (config, of, begins)
widest_begins enough without session None peers widest records config are stretch sends (inr none) of begins =
    (without session None widest records (without_none session peers widest are) stretch (sends refl) none).0 (config, of, begins)

-- ---- the messages of a front are those that stand first

module _ (within : ℕ) (exchange : Exchange) (config : Config) (count : ℕ) (x : IsExplained config within exchange count) where
  abbrev its_records : List ShownRecord
  its_records = records_of_front exchange.second x.start x.front x.later

  received_are : exchange.received.now ≡ received_in (items_in x.front) ++ received_in (items_in x.later)
  received_are = sym x.way.allowed.of_received ∙ ap received_in (items_joined x.front x.later) ∙ received_joined (items_in x.front) (items_in x.later)

  sent_are : exchange.sent.now ≡ sent_in (items_in x.front) ++ sent_in (items_in x.later)
  sent_are = sym x.way.allowed.of_sent ∙ ap sent_in (items_joined x.front x.later) ∙ sent_joined (items_in x.front) (items_in x.later)

  has_peers : (peers : Option (List ℕ)) → HasPeersOpen (records_received exchange.received.now) peers → HasPeersOpen its_records peers ⊎ HasPeersOpen its_records None
  has_peers peers has =
      elim (received_before IsOpenMessage (received_in (items_in x.front)) (received_in (items_in x.later)) peers
      (subst (λ (ms : List Message). HasPeersOpen (records_received ms) peers) received_are has)) [
        | inl same ↦ inl (received_first IsOpenMessage x.start Other x.front x.later peers same)
        | inr none ↦ inr (received_first IsOpenMessage x.start Other x.front x.later None none)
      ]

  sends_none : HasOwnOpen (records_sent exchange.sent.now) None → Each SendsNoOpen its_records
  sends_none has =
      front_sends_none exchange.second x.start x.front x.later
      (none_sent_before IsWellFormed (sent_in (items_in x.front)) (sent_in (items_in x.later))
      (subst (λ (ms : List Message). HasOwnOpen (records_sent ms) None) sent_are has))

  -- the own OPEN is among the first so many messages, and these are in the front
  shows_own : (own : List ℕ) (n : ℕ) → n ≤ count → HasOwnOpen (records_sent (take n exchange.sent.now)) (Some own) → HasOwnOpen its_records (Some own)
  shows_own own n few has =
      let front = sent_in (items_in x.front) in
      let taken : take n exchange.sent.now ≡ take n front =
      ap (λ (ms : List Message). take n ms) sent_are ∙ take-append-le n front (sent_in (items_in x.later)) (omega (arith, few, x.counts)) in
      let among : HasOwnOpen (records_sent (take n front)) (Some own) = subst (λ (ms : List Message). HasOwnOpen (records_sent ms) (Some own)) taken has in
      let all : HasOwnOpen (records_sent front) (Some own) =
      subst (λ (ms : List Message). HasOwnOpen (records_sent ms) (Some own)) (take-append-drop n front) (sent_within IsWellFormed (take n front) (drop n front) own among) in
      sent_first IsWellFormed x.start Other x.front x.later (Some own) all

-- ---- what some configuration explains, a widest one does

some_widest : WidestBegins → WithoutBegins → (session : Session) (within : ℕ) (exchange : Exchange) (own peers : Option (List ℕ)) (widest : List Config) (config : Config) (count : ℕ)
    → AreWidest session own peers widest → HasOwnOpen (records_sent exchange.sent.now) own → HasPeersOpen (records_received exchange.received.now) peers
    → IsOf session own config → IsExplained config within exchange count → Has (λ c. IsExplained c within exchange count) widest
some_widest enough without session within exchange own peers widest config count are has_own is_peers of x =
    let records = its_records within exchange config count x in
    weaker (λ c. Begins c records) (λ c. IsExplained c within exchange count) widest
    (λ c begins. record { start = x.start; front = x.front; later = x.later; way = x.way; counts = x.counts; begins = begins })
    (widest_begins enough without session own peers widest records config are (front_is_stretch exchange.second x.start x.front x.later x.way.starts.0)
    (λ none. sends_none within exchange config count x (subst (λ (o : Option (List ℕ)). HasOwnOpen (records_sent exchange.sent.now) o) none has_own))
    (has_peers within exchange config count x peers is_peers) of x.begins)

-- ---- and as some configuration has ended, a widest one can

complete_under : WidestIsComplete → WithoutIsComplete → (session : Session) (own peers : Option (List ℕ)) (widest : List Config) (records : List ShownRecord) (config : Config) (e : End)
    → AreWidest session own peers widest → IsStretch records → (own ≡ None → Each SendsNoOpen records) → HasPeersOpen records peers → IsOf session own config → IsComplete config records e
    → Has (λ c. IsComplete c records e) widest
complete_under enough without session (Some own) peers widest records config e are stretch sends has of complete = (enough session own peers widest records e are stretch has).0 (config, of, complete)
complete_under enough without session None peers widest records config e are stretch sends has of complete = (without session peers widest records e are stretch (sends refl) has).0 (config, of, complete)

whole_widest : WidestIsComplete → WithoutIsComplete → (session : Session) (within : ℕ) (exchange : Exchange) (own peers : Option (List ℕ)) (widest : List Config) (config : Config) (e : End)
    → AreWidest session own peers widest → HasOwnOpen (records_sent exchange.sent.now) own → HasPeersOpen (records_received exchange.received.now) peers
    → IsOf session own config → IsWhole config within exchange e → Has (λ c. IsWhole c within exchange e) widest
whole_widest enough without session within exchange own peers widest config e are has_own is_peers of x =
    let records = records_of_way exchange.second x.start x.events in
    let sent : exchange.sent.now ≡ sent_in (items_in x.events) = sym x.way.allowed.of_sent in
    let received : exchange.received.now ≡ received_in (items_in x.events) = sym x.way.allowed.of_received in
    weaker (λ c. IsComplete c records e) (λ c. IsWhole c within exchange e) widest
    (λ c complete. record { start = x.start; events = x.events; way = x.way; complete = complete })
    (complete_under enough without session own peers widest records config e are (front_is_stretch exchange.second x.start x.events [] x.way.starts.0)
    (λ none. front_sends_none exchange.second x.start x.events []
    (subst (λ (ms : List Message). HasOwnOpen (records_sent ms) None) sent (subst (λ (o : Option (List ℕ)). HasOwnOpen (records_sent exchange.sent.now) o) none has_own)))
    (received_first IsOpenMessage x.start Other x.events [] peers (subst (λ (ms : List Message). HasPeersOpen (records_received ms) peers) received is_peers)) of x.complete)

-- ---- the verdict over all orders

under_is : (wanting under : Config) → Some wanting ≡ Some under → under ≡ wanting
under_is wanting under e = cc

abbrev the_widest : Option Config → Config → Widest
the_widest wanting another = record { wanting = wanting; another = another }

-- the one under which it is told is among the widest
among : (P : Config → Type 0) (wanting : Option Config) (another under : Config) (wants : Bool) → IsUnder (the_widest wanting another) wants under → P under
    → Has P (both_of wanting another)
among P None another under true is p = absurd (let k : ⊥ = cc in k)
among P None another under false is p = inl (subst P (sym is) p)
among P (Some wanting) another under true is p = inl (subst P (under_is wanting under is) p)
among P (Some wanting) another under false is p = inr (inl (subst P (sym is) p))

-- ---- the own OPEN

none_some : (own : List ℕ) → None ≡ Some own → ⊥
none_some own e = cc

own_is : (own other : List ℕ) → Some own ≡ Some other → other ≡ own
own_is own other e = cc

pub well_formed : (records : List ShownRecord) (own : List ℕ) → HasOwnOpen records (Some own) → IsWellFormed own
well_formed [] own has = absurd (none_some own (sym has))
well_formed (shown.Received t octets ∷ records) own has = well_formed records own has
well_formed (shown.Sent t octets ∷ records) own (inl this) = subst IsWellFormed (own_is own octets this.1) this.0
well_formed (shown.Sent t octets ∷ records) own (inr later) = well_formed records own later.1
well_formed (shown.Changed t old new ∷ records) own has = well_formed records own has

-- under a configuration of which it is the own one it has no own fault
is_faultless : (session : Session) (own : Option (List ℕ)) (records : List ShownRecord) (config : Config) → HasOwnOpen records own → IsOf session own config → IsFaultless own
is_faultless session None records config has of = tt
is_faultless session (Some own) records config has of = (well_formed records own has, none_if_own config own of.1)

firsts : {X : Type 0} (P Q : X → Type 0) (xs : List X) → Each (λ x. P x × Q x) xs → Each P xs
firsts P Q [] each = tt
firsts P Q (x ∷ xs) each = (each.0.0, firsts P Q xs each.1)

pub each_is_of : (session : Session) (own peers : Option (List ℕ)) (widest : List Config) → AreWidest session own peers widest → Each (λ config. IsOf session own config) widest
each_is_of session (Some own) peers widest are = firsts _ _ widest are.each
each_is_of session None peers widest are = firsts _ _ widest are.each

-- with an own fault no run shows it
not_shown : SentOpenIsOwn → (within : ℕ) (exchange : Exchange) (own : Option (List ℕ)) (fault : OwnFault) (config : Config) (count n : ℕ) → HasFault own fault
    → IsExplained config within exchange count → HasOwnOpen (records_sent (take n exchange.sent.now)) own → n ≤ count → ⊥
not_shown sent within exchange None fault config count n is_fault x has few = absurd is_fault
not_shown sent within exchange (Some own) fault config count n is_fault x has few =
    let shows = shows_own within exchange config count x own n few has in
    none_if_own config own (sent config (its_records within exchange config count x) own x.begins shows) fault is_fault

take_whole : (ms : List Message) → take (length ms) ms ≡ ms
take_whole [] = refl
take_whole (m ∷ ms) = ap (λ (later : List Message). m ∷ later) (take_whole ms)

-- so an OPEN among all that some order explains has none
shown_faultless : SentOpenIsOwn → (within : ℕ) (exchange : Exchange) (own : Option (List ℕ)) (config : Config) (count : ℕ) → HasOwnOpen (records_sent exchange.sent.now) own
    → IsExplained config within exchange count → length exchange.sent.now ≤ count → IsFaultless own
shown_faultless sent within exchange None config count has x all = tt
shown_faultless sent within exchange (Some own) config count has x all = (
  well_formed (records_sent exchange.sent.now) own has,
  λ fault is_fault. not_shown sent within exchange (Some own) fault config count (length exchange.sent.now) is_fault x
      (subst (λ (ms : List Message). HasOwnOpen (records_sent ms) (Some own)) (sym (take_whole exchange.sent.now)) has) all,
)

any : {X : Type 0} (P : X → Type 0) (xs : List X) → Has P xs → (x : X) × P x
any P [] none = absurd none
any P (x ∷ xs) (inl this) = (x, this)
any P (x ∷ xs) (inr later) = any P xs later

-- ---- what follows

pub unexplained_by_all : WidestBegins → WithoutBegins → WidestAreMade → SentOpenIsOwn → UnexplainedByAll
unexplained_by_all enough without made sent session within framings connection found un =
    let over = un.over in
    let records = records_sent over.exchange.sent.now in
    let before = found.unexplained.before in
    let configs = configurations_of over.widest in
    let of_own : (own : Option (List ℕ)) → HasOwnOpen records own → IsFaultless own → AreWidest session own over.peers configs = λ own has faultless.
    subst (λ (o : Option (List ℕ)). AreWidest session o over.peers configs) (one_own records over.own own over.has_own has)
    (made session over.own over.peers over.told over.widest (subst (λ (o : Option (List ℕ)). IsFaultless o) (one_own records own over.own has over.has_own) faultless) over.are_told over.made) in
    let some = among (λ c. IsExplained c within over.exchange before) over.widest.wanting over.widest.another over.under over.wants over.is_told.is_under over.is_told.holds.1 in
    record {
      exchange = over.exchange;
      tells = over.tells;
      is_packet = un.is_message.is_packet;
      none = λ own config has of explained.
          none_has (λ c. IsExplained c within over.exchange (before + 1)) configs over.is_told.best
          (some_widest enough without session within over.exchange own over.peers configs config (before + 1) (of_own own has (is_faultless session own records config has of)) has over.has_peers of explained);
      possible = λ own has faultless.
          with_both (λ c. IsOf session own c) (λ c. IsExplained c within over.exchange before) configs (each_is_of session own over.peers configs (of_own own has faultless)) some;
      by_open = λ own fault has is_fault n shows. elim (cases_lt before n) [
        | inl less ↦ less
        | inr few ↦
            let one = any (λ c. IsExplained c within over.exchange before) configs some in
            absurd (not_shown sent within over.exchange own fault one.0 before n is_fault one.1 shows few)
      ];
    }

whole_never : (within : ℕ) (exchange : Exchange) (configs : List Config) (e : End) → Each (λ c. (x : End) → ¬ IsWhole c within exchange x) configs → Each (λ c. ¬ IsWhole c within exchange e) configs
whole_never within exchange [] e each = tt
whole_never within exchange (c ∷ configs) e each = (each.0 e, whole_never within exchange configs e each.1)

pub unfinished_by_all : WidestIsComplete → WithoutIsComplete → WidestAreMade → SentOpenIsOwn → UnfinishedByAll
unfinished_by_all enough without made sent session within framings connection peer under un =
    let over = un.over in
    let records = records_sent over.exchange.sent.now in
    let count = length over.exchange.sent.now in
    let configs = configurations_of over.widest in
    let some : Has (λ c. IsExplained c within over.exchange count) configs =
    among (λ c. IsExplained c within over.exchange count) over.widest.wanting over.widest.another over.under over.wants over.is_told.is_under over.is_told.holds.0 in
    let one = any (λ c. IsExplained c within over.exchange count) configs some in
    let of_own : (own : Option (List ℕ)) → HasOwnOpen records own → IsFaultless own → AreWidest session own over.peers configs = λ own has faultless.
    subst (λ (o : Option (List ℕ)). AreWidest session o over.peers configs) (one_own records over.own own over.has_own has)
    (made session over.own over.peers over.told over.widest (subst (λ (o : Option (List ℕ)). IsFaultless o) (one_own records own over.own has over.has_own) faultless) over.are_told over.made) in
    record {
      exchange = over.exchange;
      tells = over.tells;
      none = λ own config e has of whole.
          none_has (λ c. IsWhole c within over.exchange e) configs (whole_never within over.exchange configs e over.is_told.best)
          (whole_widest enough without session within over.exchange own over.peers configs config e (of_own own has (is_faultless session own records config has of)) has over.has_peers of whole);
      explained = λ own has.
          let faultless = shown_faultless sent within over.exchange own one.0 count has one.1 (omega arith) in
          with_both (λ c. IsOf session own c) (λ c. IsExplained c within over.exchange count) configs (each_is_of session own over.peers configs (of_own own has faultless)) some;
    }
