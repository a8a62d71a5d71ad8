-- What the search over all orders can't find, where another order is judged.
use Rattle.std.proofs.Common.{◌≡◌, ◌≢◌, ◌+◌, ◌<◌, ℕ, zero, suc, Bool, true, false, List, [], ◌∷◌, Option, None, Some, IsSomeAnd, append-nil, arith, inl, inr, length, refl, slice_get, subst, sym}
use Rattle.std.proofs.lemmas.Bool.{false≢true}
use Rattle.bgp_prefix.specs.Shown.{ShownRecord}
use Rattle.bgp_prefix.specs.declared.session.Session.{Session}
use Rattle.streams.specs.declared.connection.Connection.{Connection}
use Rattle.bgp_open.specs.OpenFault.{IsWellFormed}
use Rattle.bgp_open.specs.declared.config.Config.{Config}
use Rattle.bgp_machine.specs.Lists.{Each, Has}
use Rattle.bgp_machine.specs.Run.{Begins, End, IsComplete, Run}
use Rattle.bgp_machine.specs.State.{fresh_state}
use Rattle.bgp_judge.specs.Verdict.{HasVerdict, No, Unfinished, VerdictValue, Yes}
use Rattle.bgp_recording.specs.Captured.{records_of}
use Rattle.bgp_recording.specs.Gathered.{IsClocked}
use Rattle.bgp_recording.specs.Recorded.{IsRecorded}
use Rattle.bgp_recording.specs.declared.entry.Entry.{Entry}
use Rattle.bgp_recording.specs.declared.framing.Framings.{Framings}
use Rattle.bgp_recording.specs.declared.framing.Unshown.{Unshown}
use Rattle.bgp_recording.specs.declared.ordering.Exchange.{Exchange}
use Rattle.bgp_orders.specs.Connections.{TellsConnection}
use Rattle.bgp_orders.specs.Explained.{IsExplained, IsWhole, ShowARun}
use Rattle.bgp_orders.specs.WholeWays.{AreOfAWayOver, NoneIsFoundOver}
use Rattle.bgp_orders.proofs.Over.{at_most_explained}
use Rattle.bgp_parts.specs.Opens.{HasOwnOpen, HasPeersOpen, IsOpenMessage}
use Rattle.bgp_check.specs.Answered.{AnswerValue, HasFault, IsAnswerTo, IsJudged, JudgedAs, Unjudged}
use Rattle.bgp_check.specs.Checked.{IsUnder}
use Rattle.bgp_check.specs.Configurations.{IsOf}
use Rattle.bgp_check.specs.NotJudged.{IsWhyNot}
use Rattle.bgp_check.specs.WidestMade.{IsFaultless, both_of, configurations_of}
use Rattle.bgp_check.specs.WidestOf.{OffersNone}
use Rattle.bgp_check.specs.declared.own_fault.OwnFault.{OwnFault}
use Rattle.bgp_check.specs.declared.widest.Widest.{Widest}
use Rattle.bgp_check.proofs.Answered.{family_if, none_explains}
use Rattle.bgp_check.proofs.OwnSettings.{none_if_own}
use Rattle.bgp_check.proofs.SentOwn.{own as sent_is_own}
use Rattle.bgp_check.proofs.WidestMade.{made as widest_are_made}
use Rattle.bgp_check_tool.specs.Another.{IsLeft, IsNoYes, IsOfAnOrder, IsYes}
use Rattle.bgp_check_tool.specs.Elsewhere.{count_in}
use Rattle.bgp_check_tool.specs.Made.{IsMade}
use Rattle.bgp_check_tool.specs.Orders.{AreKnown, AreNamed, AreTooManyOver, AreTooManyUnder, IsAWidest, IsNamed, IsOfNoFamily, IsTooLongOver, IsUnexplained, UnexplainedByAll, own_of, peers_of}
use Rattle.bgp_check_tool.specs.Told.{IsOfOneOrder}
use Rattle.bgp_check_tool.specs.declared.orders.NoOrder.{NoOrder}
use Rattle.bgp_check_tool.specs.declared.orders.TooLong.{TooLong}
use Rattle.bgp_check_tool.proofs.NoOrder.{each_is_of, well_formed}
use Rattle.bgp_check_tool.proofs.SameWays.{other_whole}
use Rattle.bgp_check_tool.proofs.WayMessages.{one_sent}
use Rattle.bgp_check_tool.proofs.WaysOf.{AreOfWay, both_judged, found_way, recorded_way, sent_by_way, way_explains, way_received, way_sent, way_stretch}

-- ---- answers

-- what is answered of the made order is answered of an order
pub in_order : (session : Session) (within : ℕ) (framings : Framings) (connection : Connection) (entries : List Entry) (received sent : Unshown) (answer : AnswerValue)
    → IsMade within connection framings entries received sent → IsAnswerTo session (records_of entries) answer → IsOfAnOrder session within framings connection answer
in_order session within framings connection entries received sent answer made answers = record {
  entries = entries;
  received_unshown = received;
  sent_unshown = sent;
  recorded = made.recorded.told;
  answers = answers;
}

judged_none : (session : Session) (records : List ShownRecord) (answer : AnswerValue) → IsNoYes answer → IsAnswerTo session records answer → IsWhyNot records None
judged_none session records (Unjudged why) it answers = absurd it
judged_none session records (JudgedAs number peer under (Yes ends)) it answers = absurd it
judged_none session records (JudgedAs number peer under (No count)) it answers = answers.none
judged_none session records (JudgedAs number peer under Unfinished) it answers = answers.none

-- what is told of one order is no yes
pub one_order : (answer : AnswerValue) (over_all : Bool) → IsOfOneOrder answer over_all → IsNoYes answer
one_order (Unjudged why) over_all one = one
one_order (JudgedAs number peer under (Yes ends)) over_all one = one
one_order (JudgedAs number peer under (No count)) over_all one = tt
one_order (JudgedAs number peer under Unfinished) over_all one = tt

-- and what is unfinished over all orders isn't
pub known_left : (answer : AnswerValue) → IsLeft answer → IsOfOneOrder answer true → ⊥
known_left (Unjudged why) left one = one
known_left (JudgedAs number peer under (Yes ends)) left one = one
known_left (JudgedAs number peer under (No count)) left one = left
known_left (JudgedAs number peer under Unfinished) left one = false≢true (sym one)

-- ---- runs

complete_begins : (config : Config) (records : List ShownRecord) (e : End) → IsComplete config records e → Begins config records
complete_begins config records e (s, run, is) =
    ([], s, subst (λ (v : List ShownRecord). Run config fresh_state v s) (sym (append-nil records)) run)

first_begins : (config : Config) (records : List ShownRecord) (ends : List End) → ends ≢ [] → Each (IsComplete config records) ends → Begins config records
first_begins config records [] some each = absurd (some refl)
first_begins config records (e ∷ ends) some each = complete_begins config records e each.0

verdict_begins : (config : Config) (records : List ShownRecord) (verdict : VerdictValue) → HasVerdict config records verdict → None ≡ count_in verdict → Begins config records
verdict_begins config records (Yes ends) holds none = first_begins config records ends holds.0 holds.1.each
verdict_begins config records (No count) holds none = let k : ⊥ = cc in absurd k
verdict_begins config records Unfinished holds none = holds.0

-- an OPEN that a run shows as sent has no own fault
shown_faultless : (config : Config) (records : List ShownRecord) (own : Option (List ℕ)) → Begins config records → HasOwnOpen records own → IsFaultless own
shown_faultless config records None begins has = tt
shown_faultless config records (Some own) begins has = (well_formed records own has, none_if_own config own (sent_is_own config records own begins has))

-- nor has one of which no no is told by it
left_faultless : (records : List ShownRecord) (own : Option (List ℕ)) → HasOwnOpen records own → ((fault : OwnFault) → HasFault own fault → ⊥) → IsFaultless own
left_faultless records None has none = tt
left_faultless records (Some own) has none = (well_formed records own has, none)

-- ---- a widest configuration

under_is : (wanting under : Config) → Some wanting ≡ Some under → wanting ≡ under
under_is wanting under e = cc

abbrev the_widest : Option Config → Config → Widest
the_widest wanting another = record { wanting = wanting; another = another }

each_under : (P : Config → Type 0) (wanting : Option Config) (another under : Config) (wants : Bool) → IsUnder (the_widest wanting another) wants under → Each P (both_of wanting another) → P under
each_under P None another under true is each = let k : ⊥ = cc in absurd k
each_under P None another under false is each = subst P is each.0
each_under P (Some wanting) another under true is each = subst P (under_is wanting under is) each.0
each_under P (Some wanting) another under false is each = subst P is each.1.0

-- ---- what is named

module _ (within : ℕ) (framings : Framings) (connection : Connection) where
  abbrev Many : Config → Type 0
  Many config = AreTooManyUnder within framings connection config

  abbrev Named : Bool → Config → Type 0
  Named named config = IsNamed within framings connection named config

  some_named : (wanting : Option Config) (another : Config) (its : TooLong) → AreNamed within framings connection wanting another its → Has Many (both_of wanting another)
  some_named None another its named = inl named.2
  some_named (Some wanting) another its named = elim named.2 [
    | inl is ↦ inl (subst (λ (b : Bool). Named b wanting) is named.0)
    | inr is ↦ inr (inl (subst (λ (b : Bool). Named b another) is named.1))
  ]

  found_named : (named : Bool) (config : Config) → Named named config → NoneIsFoundOver config within framings connection
  found_named true config many = inr many
  found_named false config none = inl none

  each_named : (wanting : Option Config) (another : Config) (its : TooLong) → AreNamed within framings connection wanting another its
      → Each (λ config. NoneIsFoundOver config within framings connection) (both_of wanting another)
  each_named None another its named = (inr named.2, tt)
  each_named (Some wanting) another its named = (found_named its.wanting wanting named.0, (found_named its.another another named.1, tt))

  -- nothing is known
  pub none_known : (session : Session) (known : TooLong) → known.wanting ≡ false → known.another ≡ false → AreKnown session within framings connection known
  none_known session known wanting another widest are true under is_under is = let k : ⊥ = cc in absurd k
  none_known session known wanting another widest are false under is_under is = let k : ⊥ = cc in absurd k

-- a place with an element is within the list
some_within : {X : Type 0} (xs : List X) (i : ℕ) (P : X → Type 0) → IsSomeAnd (slice_get xs i) P → i < length xs
some_within [] zero P is = absurd is
some_within [] (suc i) P is = absurd is
some_within (x ∷ xs) zero P is = omega arith
some_within (x ∷ xs) (suc i) P is = let k = some_within xs i P is in omega (arith, k)

module _ (session : Session) (within : ℕ) (framings : Framings) (connection : Connection) where
  -- it is a configuration of an OPEN that has no own fault
  widest_is_of : (config : Config) (w : IsAWidest session framings connection config) → IsFaultless w.are.own → IsOf session w.are.own config
  widest_is_of config w faultless =
      let are = widest_are_made session w.are.own w.are.peers w.are.told w.widest faultless w.are.are_told w.are.made in
      let each = each_is_of session w.are.own w.are.peers (configurations_of w.widest) are in
      each_under (IsOf session w.are.own) w.widest.wanting w.widest.another config w.wants w.is_under each

  -- ---- the records of a whole order are a yes, if those of another are judged

  module _ (config : Config) (w : IsAWidest session framings connection config) (clocked : IsClocked connection) (entries : List Entry) (received sent : Unshown)
      (way : AreOfAWayOver framings within connection entries received sent) (e : End) (complete : IsComplete config (records_of entries) e) where
    abbrev its_records : List ShownRecord
    its_records = records_of entries

    its_way : AreOfWay within w.are.exchange its_records
    its_way = found_way within framings connection w.are.exchange w.are.tells clocked entries received sent way

    its_own : HasOwnOpen its_records w.are.own
    its_own = way_sent within w.are.exchange its_records its_way IsWellFormed w.are.own w.are.has_own

    -- it is a configuration of the OPEN in its records
    its_config : (own : Option (List ℕ)) → HasOwnOpen its_records own → IsOf session own config
    its_config own has =
        subst (λ (o : Option (List ℕ)). IsOf session o config) (one_sent IsWellFormed its_records w.are.own own its_own has)
        (widest_is_of config w (shown_faultless config its_records w.are.own (complete_begins config its_records e complete) its_own))

    -- no verdict on them is another
    whole_is_yes : (answer : AnswerValue) → IsAnswerTo session its_records answer → (other : AnswerValue) → IsOfAnOrder session within framings connection other → IsNoYes other → IsYes answer
    whole_is_yes (Unjudged why) answers other is no_yes =
        absurd
        (both_judged within w.are.exchange (records_of is.entries) its_records
        (recorded_way within framings connection w.are.exchange w.are.tells clocked is.entries is.received_unshown is.sent_unshown is.recorded) its_way why
        (judged_none session (records_of is.entries) other no_yes is.answers) answers)
    whole_is_yes (JudgedAs number peer under (Yes ends)) answers other is no_yes = tt
    whole_is_yes (JudgedAs number peer under (No count)) answers other is no_yes =
        let stretch = way_stretch within w.are.exchange its_records its_way in
        absurd
        ((none_explains session its_records number peer under count answers.own config stretch answers answers.has_own (its_config answers.own answers.has_own)).1
        (complete_begins config its_records e complete))
    whole_is_yes (JudgedAs number peer under Unfinished) answers other is no_yes =
        let stretch = way_stretch within w.are.exchange its_records its_way in
        let faultless = shown_faultless config its_records answers.own (complete_begins config its_records e complete) answers.has_own in
        absurd ((answers.over stretch faultless).1 config e (its_config answers.own answers.has_own) complete)

  pub yes_if_whole : (config : Config) → IsAWidest session framings connection config → IsClocked connection → (entries : List Entry) (received sent : Unshown)
      → AreOfAWayOver framings within connection entries received sent → ShowARun config (records_of entries) → (answer : AnswerValue) → IsAnswerTo session (records_of entries) answer
      → (other : AnswerValue) → IsOfAnOrder session within framings connection other → IsNoYes other → IsYes answer
  yes_if_whole config w clocked entries received sent way (e, complete) answer answers other is no_yes =
      whole_is_yes config w clocked entries received sent way e complete answer answers other is no_yes

  -- ---- if some order is whole, and none is found, there are too many nodes

  pub whole_many : (config : Config) (exchange : Exchange) → TellsConnection framings connection exchange → IsClocked connection → (e : End) × IsWhole config within exchange e
      → NoneIsFoundOver config within framings connection → AreTooManyUnder within framings connection config
  whole_many config exchange tells clocked whole (inl none) =
      absurd (none.none whole.0 (other_whole framings connection clocked exchange none.exchange tells none.tells config within whole.0 whole.1))
  whole_many config exchange tells clocked whole (inr many) = many

  -- where the search is too long
  pub too_many : (its : TooLong) → IsTooLongOver session within framings connection its → AreTooManyOver session within framings connection
  too_many its w = record {
    widest = w.widest;
    are = w.are;
    some = some_named within framings connection w.widest.wanting w.widest.another its w.named;
    each = each_named within framings connection w.widest.wanting w.widest.another its w.named;
  }

  -- ---- a message that no order explains, where another order explains all

  pub none_unexplained : UnexplainedByAll → IsClocked connection → (answer : AnswerValue) → IsOfAnOrder session within framings connection answer → IsLeft answer → (found : NoOrder)
      → IsUnexplained session within framings connection found → ⊥
  none_unexplained law clocked (Unjudged why) is it found un = it
  none_unexplained law clocked (JudgedAs number peer under (Yes ends)) is it found un = it
  none_unexplained law clocked (JudgedAs number peer under (No count)) is it found un = it
  none_unexplained law clocked (JudgedAs number peer under Unfinished) is it found un =
      let no = law session within framings connection found un in
      let records = records_of is.entries in
      let way = recorded_way within framings connection no.exchange no.tells clocked is.entries is.received_unshown is.sent_unshown is.recorded in
      let its : IsJudged session records number peer under Unfinished = is.answers in
      let faultless = left_faultless records its.own its.has_own its.by_open in
      let (config, of, begins) = (its.over (way_stretch within no.exchange records way) faultless).0 in
      let all = way_explains within no.exchange records way config begins in
      let few : found.unexplained.before < length no.exchange.sent.now = some_within no.exchange.sent.now found.unexplained.before _ no.is_packet in
      no.none its.own config (sent_by_way within no.exchange records way IsWellFormed its.own its.has_own) of
      (at_most_explained config within no.exchange (found.unexplained.before + 1) (length no.exchange.sent.now) (omega (arith, few)) all)

  -- ---- an OPEN that offers neither family, where the end is judged

  pub some_family : IsClocked connection → (answer : AnswerValue) → IsOfAnOrder session within framings connection answer → IsNoYes answer → IsOfNoFamily session within framings connection → ⊥
  some_family clocked answer is no_yes none =
      let records = records_of is.entries in
      let why = judged_none session records answer no_yes is.answers in
      let way = recorded_way within framings connection none.exchange none.tells clocked is.entries is.received_unshown is.sent_unshown is.recorded in
      let same = one_sent IsWellFormed records none.own why.own (way_sent within none.exchange records way IsWellFormed none.own none.has_own) why.has_own in
      let some : ¬ OffersNone why.own = family_if None why.sends why.extended why.own why.told why.confederated why.is_why in
      some (subst (λ (o : Option (List ℕ)). OffersNone o) same none.offers)

  -- ---- the OPENs with such a message are those of the records, and these have a no

  module _ (entries : List Entry) (received sent : Unshown) (clocked : IsClocked connection) (recorded : IsRecorded framings within connection entries received sent) (found : NoOrder)
      (un : IsUnexplained session within framings connection found) where
    un_way : AreOfWay within un.over.exchange (records_of entries)
    un_way = recorded_way within framings connection un.over.exchange un.over.tells clocked entries received sent recorded

    pub un_own : HasOwnOpen (records_of entries) (own_of found)
    un_own =
        subst (λ (o : Option (List ℕ)). HasOwnOpen (records_of entries) o) (sym un.is_own)
        (way_sent within un.over.exchange (records_of entries) un_way IsWellFormed un.over.own un.over.has_own)

    pub un_peers : HasPeersOpen (records_of entries) (peers_of found)
    un_peers =
        subst (λ (o : Option (List ℕ)). HasPeersOpen (records_of entries) o) (sym un.is_peers)
        (way_received within un.over.exchange (records_of entries) un_way IsOpenMessage un.over.peers un.over.has_peers)

    pub un_denied : (verdict : VerdictValue) → HasVerdict found.its.under (records_of entries) verdict → None ≡ count_in verdict → ⊥
    un_denied verdict holds none =
        let exchange = un.over.exchange in
        let before = found.unexplained.before in
        let count = length exchange.sent.now in
        let begins = verdict_begins found.its.under (records_of entries) verdict holds none in
        let all = way_explains within exchange (records_of entries) un_way found.its.under begins in
        let few : before < count = un.over.is_told.holds.0 in
        un.over.is_told.holds.2
        (subst (λ (c : Config). IsExplained c within exchange (before + 1)) un.is_under
        (at_most_explained found.its.under within exchange (before + 1) count (omega (arith, few)) all))
