-- What the lines of an end are worth.
use Rattle.std.proofs.Common.{◌≡◌, ◌∙◌, ◌<◌, ◌++◌, ◌⊎◌, inl, inr, ℕ, zero, suc, Bool, true, false, List, [], ◌∷◌, Option, None, Some, codes, refl, reverse, sym, ap, subst, arith, length, take}
use Rattle.std.specs.List.{AllByRecursion, slice_get}
use Rattle.packets.specs.Packet.{Recorded}
use Rattle.bgp_prefix.specs.Shown.{ShownRecord}
use Rattle.bgp_prefix.specs.declared.session.Session.{Session}
use Rattle.bgp_open.specs.declared.config.Config.{Config}
use Rattle.streams.specs.Connections.{numbered}
use Rattle.streams.specs.declared.connection.Connection.{Connection}
use Rattle.streams.specs.declared.connection.Opening.{Opening}
use Rattle.streams.specs.declared.passed.Side.{Side}
use Rattle.segments.specs.declared.found.Endpoint.{Endpoint}
use Rattle.bgp_machine.specs.Run.{End}
use Rattle.bgp_check.specs.Configurations.{IsOf}
use Rattle.bgp_check.specs.Over.{HasVerdictOver}
use Rattle.bgp_check.specs.WidestMade.{IsFaultless}
use Rattle.bgp_check.specs.declared.own_fault.OwnFault.{OwnFault}
use Rattle.bgp_judge.specs.Verdict.{HasVerdict, No, Unfinished, VerdictValue, Yes}
use Rattle.bgp_recording.specs.Captured.{records_of}
use Rattle.bgp_recording.specs.declared.entry.Entry.{Entry}
use Rattle.bgp_import.specs.ListText.{end_of, other_side}
use Rattle.bgp_import.specs.declared.refusal.Refusal.{Refusal as WhyRefused}
use Rattle.bgp_check.specs.Answered.{AnswerValue, HasFault, HasItsVerdict, IsAnswerTo, IsJudged, JudgedAs, NoConfigurationExplains, Unjudged}
use Rattle.bgp_check.specs.declared.not_judged.NotJudged.{NotJudged}
use Rattle.bgp_check.specs.declared.peer_as.PeerAs.{PeerAs}
use Rattle.bgp_ended.specs.Values.{OutlineValue}
use Rattle.bgp_check.proofs.Under.{has_its_verdict}
use Rattle.bgp_check_lines.specs.Reached.{AreBeforeTo, ReachedValue}
use Rattle.bgp_check_lines.specs.Text.{no_line, not_judged_line, unfinished_line, yes_line, yes_lines}
use Rattle.bgp_check_lines.specs.EndName.{EndName}
use Rattle.bgp_why.specs.declared.place.Place.{Place}
use Rattle.bgp_parts.proofs.OneOwnOpen.{one_own}
use Rattle.bgp_parts.specs.Opens.{HasOwnOpen}
use Rattle.bgp_check_lines.specs.Asked.{asked_of}
use Rattle.bgp_check_lines.specs.DeclaredAsked.{Asked}
use Rattle.bgp_check_tool.specs.declared.options.CheckOptions.{CheckOptions}
use Rattle.bgp_check_tool.specs.Blocks.{AllRefused, Block, BothEnds, OneEnd, Refused, TellsBoth}
use Rattle.bgp_check_tool.specs.Another.{number_in}
use Rattle.bgp_check_tool.specs.Another as Another
use Rattle.bgp_check_tool.specs.Headline.{NoOrderHasARun, NoneIsWhole}
use Rattle.bgp_check_tool.specs.Made.{IsMade}
use Rattle.bgp_check_tool.specs.declared.another.Order.{Order}
use Rattle.bgp_check_tool.specs.declared.another.Order.TheVariants as orders
use Rattle.bgp_check_tool.specs.declared.orders.NoOrder.{NoOrder}
use Rattle.bgp_check_tool.specs.Judging.{options_by}
use Rattle.bgp_check_tool.specs.Place.{last_place, place_at, sent_place}
use Rattle.bgp_check_tool.specs.Places.{IsToldAt, IsToldOfOne}
use Rattle.bgp_check_tool.specs.Printed.{AreRecordsOf, AreRecordsOfAWay, HasRecords, HasRecordsIn, HasRecordsSo, HasTrueNoes, HasTrueUnfinished, HasTrueYes, HasVerdictIn, IsTrueNo, IsTrueOverall, IsUnfinishedOverAll, NoesAreTrue, ToldNoesAreTrue, ToldUnfinishedAreTrue, ToldVerdictIsOverAll, ToldYesesAreTrue, UnfinishedAreTrue, YesesAreTrue}
use Rattle.bgp_check_tool.specs.Seen.{seen_from, session_from}
use Rattle.bgp_check_tool.specs.Text.{after_no, after_unfinished, after_yes, answer_text, deed_by, name_of, name_with, told_lines}
use Rattle.bgp_check_tool.specs.Orders.{IsFoundTo}
use Rattle.bgp_check_tool.specs.Told.{EndTold, IsEndTold, IsForCause, IsOfAll, IsOfAnother, IsOfMade, IsOfOneOrder, place_for, place_of}
use Rattle.bgp_check_tool.proofs.NoOrder.{well_formed}
use Rattle.bgp_check_tool.proofs.TellingEnd.{no_of_made, over_all_orders, unfinished_of, yes_of}
use Rattle.bgp_check_tool.proofs.Verdicts.{no_run, over_answer, side_told, verdict_is}

-- ---- which lines begin with `no`

-- a text's first octet, and its third one
first : List ℕ → ℕ
first [] = 0
first (x ∷ xs) = x

third : List ℕ → ℕ
third [] = 0
third (x ∷ []) = 0
third (x ∷ y ∷ []) = 0
third (x ∷ y ∷ z ∷ xs) = z

-- it is a no
record IsNo (answer : AnswerValue) : Type 0 where
  pub number : Option ℕ
  pub peer : PeerAs
  pub under : Config
  pub count : ℕ
  pub is : answer ≡ JudgedAs number peer under (No count)

unjudged_third : (name : EndName) (why : NotJudged) → third (not_judged_line name why) ≡ 116
unfolding third not_judged_line
unjudged_third name why = refl

no_third : (rest : List ℕ) → third (codes "no " ++ rest) ≡ 32
unfolding third
no_third rest = refl

no_first : (rest : List ℕ) → first (codes "no " ++ rest) ≡ 110
unfolding first
no_first rest = refl

yes_first : (rest : List ℕ) → first (codes "yes" ++ rest) ≡ 121
unfolding first
yes_first rest = refl

unfinished_first : (rest : List ℕ) → first (codes "unfinished" ++ rest) ≡ 117
unfolding first
unfinished_first rest = refl

yes_line_first : (name : EndName) (peer : PeerAs) (reached : ReachedValue) (ends : List End) (routes rest : List ℕ) → first ((yes_line name peer reached ends ++ routes) ++ rest) ≡ 121
unfolding first yes_line
yes_line_first name peer reached ends routes rest = refl

unfinished_line_first : (its : Place) (name : EndName) (rest : List ℕ) → first (unfinished_line its name ++ rest) ≡ 117
unfolding first unfinished_line
unfinished_line_first its name rest = refl

no_line_first : (its : Place) (name : EndName) (deed rest : List ℕ) → first (no_line its name deed ++ rest) ≡ 110
unfolding first no_line
no_line_first its name deed rest = refl

unjudged_first : (name : EndName) (why : NotJudged) → first (not_judged_line name why) ≡ 110
unfolding first not_judged_line
unjudged_first name why = refl

no_by_text : (routes : Bool) (told : EndTold) (answer : AnswerValue) (rest : List ℕ) → answer_text routes told answer ≡ codes "no " ++ rest → IsNo answer
no_by_text routes told (Unjudged why) rest is =
    let differs : 116 ≡ 32 = sym (unjudged_third (name_of told) why) ∙ ap third is ∙ no_third rest in absurd (omega (arith, differs))
no_by_text routes told (JudgedAs number peer under (Yes ends)) rest is =
    let differs : 121 ≡ 110 = sym (yes_line_first (name_of told) peer told.reached ends _ _) ∙ ap first is ∙ no_first rest in absurd (omega (arith, differs))
no_by_text routes told (JudgedAs number peer under (No count)) rest is = record { number = number; peer = peer; under = under; count = count; is = refl }
no_by_text routes told (JudgedAs number peer under Unfinished) rest is =
    let differs : 117 ≡ 110 = sym (unfinished_line_first told.place (name_of told) _) ∙ ap first is ∙ no_first rest in absurd (omega (arith, differs))

-- it is a yes
record IsYes (answer : AnswerValue) : Type 0 where
  pub number : Option ℕ
  pub peer : PeerAs
  pub under : Config
  pub ends : List End
  pub is : answer ≡ JudgedAs number peer under (Yes ends)

yes_by_text : (routes : Bool) (told : EndTold) (answer : AnswerValue) (rest : List ℕ) → answer_text routes told answer ≡ codes "yes" ++ rest → IsYes answer
yes_by_text routes told (Unjudged why) rest is =
    let differs : 110 ≡ 121 = sym (unjudged_first (name_of told) why) ∙ ap first is ∙ yes_first rest in absurd (omega (arith, differs))
yes_by_text routes told (JudgedAs number peer under (Yes ends)) rest is = record { number = number; peer = peer; under = under; ends = ends; is = refl }
yes_by_text routes told (JudgedAs number peer under (No count)) rest is =
    let differs : 110 ≡ 121 = sym (no_line_first told.place (name_of told) (deed_by told.deed told.other) _) ∙ ap first is ∙ yes_first rest in absurd (omega (arith, differs))
yes_by_text routes told (JudgedAs number peer under Unfinished) rest is =
    let differs : 117 ≡ 121 = sym (unfinished_line_first told.place (name_of told) _) ∙ ap first is ∙ yes_first rest in absurd (omega (arith, differs))

-- it is unfinished
record IsUnfinished (answer : AnswerValue) : Type 0 where
  pub number : Option ℕ
  pub peer : PeerAs
  pub under : Config
  pub is : answer ≡ JudgedAs number peer under Unfinished

unfinished_by_text : (routes : Bool) (told : EndTold) (answer : AnswerValue) (rest : List ℕ) → answer_text routes told answer ≡ codes "unfinished" ++ rest → IsUnfinished answer
unfinished_by_text routes told (Unjudged why) rest is =
    let differs : 110 ≡ 117 = sym (unjudged_first (name_of told) why) ∙ ap first is ∙ unfinished_first rest in absurd (omega (arith, differs))
unfinished_by_text routes told (JudgedAs number peer under (Yes ends)) rest is =
    let differs : 121 ≡ 117 = sym (yes_line_first (name_of told) peer told.reached ends _ _) ∙ ap first is ∙ unfinished_first rest in absurd (omega (arith, differs))
unfinished_by_text routes told (JudgedAs number peer under (No count)) rest is =
    let differs : 110 ≡ 117 = sym (no_line_first told.place (name_of told) (deed_by told.deed told.other) _) ∙ ap first is ∙ unfinished_first rest in absurd (omega (arith, differs))
unfinished_by_text routes told (JudgedAs number peer under Unfinished) rest is = record { number = number; peer = peer; under = under; is = refl }

-- ---- their texts, of an end at a place

no_lines : EndTold → Place → Endpoint → List ℕ
no_lines told its end = no_line its (name_with end told.as_number) (deed_by told.deed told.other) ++ after_no told

yes_text : Bool → EndTold → Endpoint → PeerAs → List End → List ℕ
yes_text routes told end peer ends = yes_lines routes (name_with end told.as_number) peer told.reached ends ++ after_yes told

unfinished_lines : EndTold → Place → Endpoint → List ℕ
unfinished_lines told its end = unfinished_line its (name_with end told.as_number) ++ after_unfinished told

-- where a run shows it the OPEN has no own fault
faultless_by : (own : Option (List ℕ)) (records : List ShownRecord) → HasOwnOpen records own → ((fault : OwnFault) → HasFault own fault → ⊥) → IsFaultless own
faultless_by None records has none = tt
faultless_by (Some own) records has none = (well_formed records own has, none)

-- ---- the record that is named

record Stands (entries : List Entry) (count : ℕ) : Type 0 where
  pub impossible : Entry
  pub is : slice_get entries count ≡ Some impossible

stands_at : (entries : List Entry) (count : ℕ) → count < length (records_of entries) → Stands entries count
stands_at [] count within = absurd (omega (arith, within))
stands_at (entry ∷ entries) zero within = record { impossible = entry; is = refl }
stands_at (entry ∷ entries) (suc count) within =
    let later = stands_at entries count (omega (arith, within)) in
    record { impossible = later.impossible; is = later.is }

-- a message is found that no order explains, or none
record IsFound (its : Option NoOrder) : Type 0 where
  pub found : NoOrder
  pub is : its ≡ Some found

found_or_not : (its : Option NoOrder) → (its ≡ None) ⊎ IsFound its
found_or_not None = inl refl
found_or_not (Some found) = inr record { found = found; is = refl }

-- ---- the records of an end that is told

module _ (options : CheckOptions) (packets : List Recorded) (last_packet place : ℕ) (session : Session) (opening : Opening) (block : Block)
    (it : IsToldOfOne options packets last_packet place session opening block) (outline : OutlineValue) (first_octets second_octets : ℕ) (opener other : EndTold)
    (both : TellsBoth options last_packet (reverse it.segments) session opening outline first_octets second_octets opener other) where
  abbrev asked : Side → Asked
  asked side = asked_of options.port options.within session (numbered (reverse it.segments)) opening side

  module _ (side : Side) (told : EndTold) (end : IsEndTold options (asked side) session opening both.connection side told) where
    abbrev seen : Connection
    seen = seen_from side both.connection

    abbrev its : Session
    its = session_from side session

    -- the records of the made order
    records_so : IsMade options.within seen end.framings end.entries end.received_unshown end.sent_unshown → HasRecords options packets last_packet session opening side end.entries
    records_so made = record {
      addresses = it.addresses;
      segments = it.segments;
      has = it.has;
      is_session = it.is_session;
      connection = both.connection;
      chosen = both.chosen;
      are_records = record {
        framings = end.framings;
        received_unshown = end.received_unshown;
        sent_unshown = end.sent_unshown;
        recorded = made.recorded.told;
        looked_in = made.looked_in;
        looked_in_received = made.looked_in_received;
        looked_in_sent = made.looked_in_sent;
        is_looked_in = made.is_looked_in.told;
        are_offered = made.are_offered;
      };
    }

    -- those of another order
    way_records : IsOfAnother options (asked side) its seen end.framings end.entries end.received_unshown end.sent_unshown end.answer end.about told
        → HasRecordsSo AreRecordsOfAWay options packets last_packet session opening side end.entries
    way_records of = record {
      addresses = it.addresses;
      segments = it.segments;
      has = it.has;
      is_session = it.is_session;
      connection = both.connection;
      chosen = both.chosen;
      are_records = record {
        framings = end.framings;
        received_unshown = end.received_unshown;
        sent_unshown = end.sent_unshown;
        way = of.way;
        looked_in = of.made.looked_in;
        looked_in_received = of.made.looked_in_received;
        looked_in_sent = of.made.looked_in_sent;
        is_looked_in = of.made.is_looked_in.told;
        are_offered = of.made.are_offered;
      };
    }

    -- none is whole, if that is known
    whole_never : NoneIsWhole → IsMade options.within seen end.framings end.entries end.received_unshown end.sent_unshown → told.over_all ≡ true
        → IsUnfinishedOverAll options packets last_packet session opening side
    unfolding records_so
    whole_never law made known = record {
      entries = end.entries;
      has_records = records_so made;
      no_order = law options (asked side) session opening both.connection side told end known;
    }

    abbrev RecordsIn : Order → Type 0
    RecordsIn order = HasRecordsIn order options packets last_packet session opening side end.entries

    records_in : RecordsIn told.order
    records_in = elim end.are_of [
      | inl of ↦ subst RecordsIn (sym of.is_order) (records_so of.made)
      | inr others ↦ elim others [
        | inl of ↦ subst RecordsIn (sym of.is_order) (way_records of)
        | inr of ↦ subst RecordsIn (sym of.is_order) (records_so of.made)
      ]
    ]

    no_records : (is : IsNo told.answer) → HasRecords options packets last_packet session opening side end.entries
    no_records is = records_so (no_of_made options (asked side) (end_of side session opening) its seen told end is.number is.peer is.under is.count is.is).made

    abbrev VerdictIn : VerdictValue → Order → Type 0
    VerdictIn verdict order = HasVerdictIn order options packets last_packet session opening side verdict

    module _ (number : Option ℕ) (peer : PeerAs) (under : Config) where
      -- on the records of the made order
      verdict_made : (verdict : VerdictValue) → told.answer ≡ JudgedAs number peer under verdict
          → IsOfMade options (asked side) its seen end.framings end.entries end.received_unshown end.sent_unshown end.answer end.about told → VerdictIn verdict orders.Made
      verdict_made (Yes ends) is of = record {
        entries = end.entries;
        has_records = records_so of.made;
        over_all = over_answer options (asked side) session opening both.connection side told number peer under (Yes ends) end (sym of.is_told ∙ is);
      }
      verdict_made (No count) is of = record {
        entries = end.entries;
        has_records = records_so of.made;
        over_all = over_answer options (asked side) session opening both.connection side told number peer under (No count) end (sym of.is_told ∙ is);
      }
      verdict_made Unfinished is of = record {
        entries = end.entries;
        has_records = records_so of.made;
        over_all = over_answer options (asked side) session opening both.connection side told number peer under Unfinished end (sym of.is_told ∙ is);
      }

      -- a yes on those of another
      verdict_another : (verdict : VerdictValue) → told.answer ≡ JudgedAs number peer under verdict
          → IsOfAnother options (asked side) its seen end.framings end.entries end.received_unshown end.sent_unshown end.answer end.about told → VerdictIn verdict orders.Another
      verdict_another (Yes ends) is of = record {
        entries = end.entries;
        has_records = way_records of;
        over_all = over_answer options (asked side) session opening both.connection side told number peer under (Yes ends) end (sym of.is_told ∙ is);
      }
      verdict_another (No count) is of = let never : ⊥ = subst Another.IsYes is of.is_yes in absurd never
      verdict_another Unfinished is of = let never : ⊥ = subst Another.IsYes is of.is_yes in absurd never

      -- or over all orders
      verdict_all : NoneIsWhole → (verdict : VerdictValue) → told.answer ≡ JudgedAs number peer under verdict
          → IsOfAll options (asked side) its seen end.framings end.entries end.received_unshown end.sent_unshown end.answer end.about told → VerdictIn verdict orders.All
      verdict_all law verdict is of = (
        verdict_is number (number_in end.answer) peer of.peer under of.under verdict (sym is ∙ of.is_told),
        whole_never law of.made of.is_known,
      )

      verdict_in : NoneIsWhole → (verdict : VerdictValue) → told.answer ≡ JudgedAs number peer under verdict → VerdictIn verdict told.order
      verdict_in law verdict is = elim end.are_of [
        | inl of ↦ subst (VerdictIn verdict) (sym of.is_order) (verdict_made verdict is of)
        | inr others ↦ elim others [
          | inl of ↦ subst (VerdictIn verdict) (sym of.is_order) (verdict_another verdict is of)
          | inr of ↦ subst (VerdictIn verdict) (sym of.is_order) (verdict_all law verdict is of)
        ]
      ]

  -- the text of a no, at the place of its verdict
  no_named : (side : Side) (told : EndTold) (end : IsEndTold options (asked side) session opening both.connection side told) (denied : IsNo told.answer) (its : Place)
      → place_for (No denied.count) told.found end.entries ≡ its → told_lines options.printing.routes told ≡ no_lines told its (end_of side session opening)
  unfolding no_lines
  no_named side told end denied its stands =
      let text : told_lines options.printing.routes told ≡ no_lines told told.place told.end = ap (answer_text options.printing.routes told) denied.is in
      let place : told.place ≡ its = end.is_place ∙ ap (λ (a : AnswerValue). place_of a told.found end.entries) denied.is ∙ stands in
      subst (λ (e : Endpoint). told_lines options.printing.routes told ≡ no_lines told its e) end.is_end
      (subst (λ (p : Place). told_lines options.printing.routes told ≡ no_lines told p told.end) place text)

  -- over all orders
  true_overall : NoOrderHasARun → (side : Side) (told : EndTold) (end : IsEndTold options (asked side) session opening both.connection side told) (denied : IsNo told.answer) → IsFound told.found
      → IsTrueOverall options packets last_packet session opening side told
  unfolding no_records records_so no_lines
  true_overall law side told end denied it =
      record {
        entries = end.entries;
        has_records = no_records side told end denied;
        found = it.found;
        is_found = it.is;
        number = told.as_number;
        has_number = end.is_number;
        named = no_named side told end denied (sent_place it.found) (ap (λ (f : Option NoOrder). place_for (No denied.count) f end.entries) it.is);
        no_order = law options (asked side) session opening both.connection side told it.found end it.is;
      }

  -- or in one
  true_no : NoConfigurationExplains → HasItsVerdict → (side : Side) (told : EndTold) (end : IsEndTold options (asked side) session opening both.connection side told) (denied : IsNo told.answer)
      → told.found ≡ None → IsTrueNo options packets last_packet session opening side told
  unfolding no_records records_so no_lines
  true_no explains has_verdict side told end denied none =
      let its = session_from side session in
      let records = records_of end.entries in
      let made = no_of_made options (asked side) (end_of side session opening) its (seen_from side both.connection) told end denied.number denied.peer denied.under denied.count denied.is in
      let judged : end.answer ≡ JudgedAs denied.number denied.peer denied.under (No denied.count) = sym made.is_told ∙ denied.is in
      let answer : IsJudged its records denied.number denied.peer denied.under (No denied.count) = subst (λ (a : AnswerValue). IsAnswerTo its records a) judged end.answers in
      let holds : HasVerdict denied.under records (No denied.count) = (has_verdict its records denied.number denied.peer denied.under (No denied.count) answer).0 in
      let stands = stands_at end.entries denied.count holds.0 in
      record {
        entries = end.entries;
        has_records = no_records side told end denied;
        count = denied.count;
        impossible = stands.impossible;
        stands = stands.is;
        not_found = none;
        cause = end.has_cause made.is_order none (subst (λ (a : AnswerValue). IsOfOneOrder a told.over_all) (sym denied.is) tt);
        number = told.as_number;
        has_number = end.is_number;
        named = no_named side told end denied (place_at end.entries denied.count) (ap (λ (f : Option NoOrder). place_for (No denied.count) f end.entries) none);
        none = λ own config has of. no_run explains options (asked side) session opening both.connection side told denied.number denied.peer denied.under denied.count own config end denied.is has of;
        possible = λ own has faultless. (over_answer options (asked side) session opening both.connection side told denied.number denied.peer denied.under (No denied.count) end judged own has faultless).1;
        by_open = λ own fault has is_fault n within.
            let same = one_own records own answer.own has answer.has_own in
            answer.by_open fault (subst (λ (o : Option (List ℕ)). HasFault o fault) same is_fault) n (subst (λ (o : Option (List ℕ)). HasOwnOpen (take n records) o) same within);
      }

  true_noes : NoConfigurationExplains → HasItsVerdict → NoOrderHasARun → (side : Side) (told : EndTold) → IsEndTold options (asked side) session opening both.connection side told
      → HasTrueNoes options packets last_packet session opening side told
  true_noes explains has_verdict law side told end begins =
      let denied = no_by_text options.printing.routes told told.answer begins.0 begins.1 in
      elim (found_or_not told.found) [
        | inl none ↦ inl (true_no explains has_verdict side told end denied none)
        | inr found ↦ inr (true_overall law side told end denied found)
      ]

  -- ---- a yes

  true_yes : (side : Side) (told : EndTold) → IsEndTold options (asked side) session opening both.connection side told → HasTrueYes options packets last_packet session opening side told
  unfolding yes_text
  true_yes side told end begins =
      let its = session_from side session in
      let records = records_of end.entries in
      let yes = yes_by_text options.printing.routes told told.answer begins.0 begins.1 in
      let of = yes_of options (asked side) (end_of side session opening) its (seen_from side both.connection) told end yes.number yes.peer yes.under yes.ends yes.is in
      let judged : end.answer ≡ JudgedAs yes.number yes.peer yes.under (Yes yes.ends) = elim of [ inl made ↦ sym made.is_told ∙ yes.is | inr another ↦ sym another.is_told ∙ yes.is ] in
      let answer : IsJudged its records yes.number yes.peer yes.under (Yes yes.ends) = subst (λ (a : AnswerValue). IsAnswerTo its records a) judged end.answers in
      let over : HasVerdictOver (IsOf its answer.own) records (Yes yes.ends) =
      over_answer options (asked side) session opening both.connection side told yes.number yes.peer yes.under (Yes yes.ends) end judged answer.own answer.has_own
      (faultless_by answer.own records answer.has_own (λ fault has. answer.by_open fault has)) in
      record {
        entries = end.entries;
        has_records = records_in side told end;
        number = told.as_number;
        has_number = end.is_number;
        peer = yes.peer;
        ends = yes.ends;
        named = subst (λ (e : Endpoint). told_lines options.printing.routes told ≡ yes_text options.printing.routes told e yes.peer yes.ends) end.is_end
            (ap (λ (a : AnswerValue). answer_text options.printing.routes told a) yes.is);
        own = answer.own;
        has_own = answer.has_own;
        some = over.0;
        lists = over.1;
        under = yes.under;
        holds = (has_its_verdict its records yes.number yes.peer yes.under (Yes yes.ends) answer).0;
        are_before = subst (λ (a : AnswerValue). AreBeforeTo records a told.reached.before) yes.is end.is_reached.are_before;
        are_counts = end.is_reached.are_counts;
      }

  -- ---- what is unfinished

  -- the records of the made order, and why it is told of that alone
  made_records : (side : Side) (told : EndTold) (end : IsEndTold options (asked side) session opening both.connection side told) (it : IsUnfinished told.answer)
      → (has : HasRecords options packets last_packet session opening side end.entries)
      × (told.order ≡ orders.Made → told.over_all ≡ false
      → IsForCause (session_from side session) options.within has.are_records.framings (seen_from side has.connection) told.lacks_memory)
  unfolding records_so
  made_records side told end it =
      let its = session_from side session in
      let seen = seen_from side both.connection in
      let none : told.found ≡ None = subst (λ (a : AnswerValue). IsFoundTo its options.within end.framings seen a told.found) it.is end.is_found in
      elim (unfinished_of options (asked side) (end_of side session opening) its seen told end it.number it.peer it.under it.is) [
        | inl of ↦ (
          records_so side told end of.made,
          λ is_made not_known. end.has_cause is_made none (subst (λ (a : AnswerValue). IsOfOneOrder a told.over_all) (sym it.is) not_known),
        )
        | inr of ↦ (records_so side told end of.made, λ is_made not_known. absurd (over_all_orders told.order of.is_order is_made))
      ]

  -- so that none is whole, if that is known
  known_unfinished : NoneIsWhole → (side : Side) (told : EndTold) (end : IsEndTold options (asked side) session opening both.connection side told) (it : IsUnfinished told.answer)
      → told.over_all ≡ true → IsUnfinishedOverAll options packets last_packet session opening side
  known_unfinished law side told end it known =
      elim (unfinished_of options (asked side) (end_of side session opening) (session_from side session) (seen_from side both.connection) told end it.number it.peer it.under it.is) [
        | inl of ↦ whole_never side told end law of.made known
        | inr of ↦ whole_never side told end law of.made known
      ]

  true_unfinished : NoneIsWhole → (side : Side) (told : EndTold) → IsEndTold options (asked side) session opening both.connection side told
      → HasTrueUnfinished options packets last_packet session opening side told
  unfolding unfinished_lines
  true_unfinished law side told end begins =
      let it = unfinished_by_text options.printing.routes told told.answer begins.0 begins.1 in
      let text : told_lines options.printing.routes told ≡ unfinished_lines told told.place told.end = ap (λ (a : AnswerValue). answer_text options.printing.routes told a) it.is in
      let place : told.place ≡ last_place end.entries = end.is_place ∙ ap (λ (a : AnswerValue). place_of a told.found end.entries) it.is in
      record {
        entries = end.entries;
        has_records = (made_records side told end it).0;
        number = told.as_number;
        has_number = end.is_number;
        named = subst (λ (e : Endpoint). told_lines options.printing.routes told ≡ unfinished_lines told (last_place end.entries) e) end.is_end
            (subst (λ (p : Place). told_lines options.printing.routes told ≡ unfinished_lines told p told.end) place text);
        verdict = verdict_in side told end it.number it.peer it.under law Unfinished it.is;
        known = known_unfinished law side told end it;
        cause = (made_records side told end it).1;
      }

pub unfinished_are_true : NoneIsWhole → ToldUnfinishedAreTrue
unfinished_are_true law options last_packet place packets (BothEnds session opening outline first_octets second_octets opener other) it =
    let both = it.is_block.2 in
    let block = BothEnds session opening outline first_octets second_octets opener other in (
      true_unfinished options packets last_packet place session opening block it outline first_octets second_octets opener other both law opening.opened_by opener both.is_opener,
      true_unfinished options packets last_packet place session opening block it outline first_octets second_octets opener other both law (other_side opening.opened_by) other both.is_other,
    )
unfinished_are_true law options last_packet place packets (OneEnd session opening outline first_octets second_octets) it = tt
unfinished_are_true law options last_packet place packets (Refused session opening refusal) it = tt
unfinished_are_true law options last_packet place packets (AllRefused addresses refusal) it = tt

pub yeses_are_true : ToldYesesAreTrue
yeses_are_true options last_packet place packets (BothEnds session opening outline first_octets second_octets opener other) it =
    let both = it.is_block.2 in
    let block = BothEnds session opening outline first_octets second_octets opener other in (
      true_yes options packets last_packet place session opening block it outline first_octets second_octets opener other both opening.opened_by opener both.is_opener,
      true_yes options packets last_packet place session opening block it outline first_octets second_octets opener other both (other_side opening.opened_by) other both.is_other,
    )
yeses_are_true options last_packet place packets (OneEnd session opening outline first_octets second_octets) it = tt
yeses_are_true options last_packet place packets (Refused session opening refusal) it = tt
yeses_are_true options last_packet place packets (AllRefused addresses refusal) it = tt

pub noes_are_true : NoConfigurationExplains → HasItsVerdict → NoOrderHasARun → ToldNoesAreTrue
noes_are_true explains has_verdict law options last_packet place packets (BothEnds session opening outline first_octets second_octets opener other) it =
    let both = it.is_block.2 in
    let block = BothEnds session opening outline first_octets second_octets opener other in (
      true_noes options packets last_packet place session opening block it outline first_octets second_octets opener other both explains has_verdict law opening.opened_by opener both.is_opener,
      true_noes options packets last_packet place session opening block it outline first_octets second_octets opener other both explains has_verdict law (other_side opening.opened_by) other both.is_other,
    )
noes_are_true explains has_verdict law options last_packet place packets (OneEnd session opening outline first_octets second_octets) it = tt
noes_are_true explains has_verdict law options last_packet place packets (Refused session opening refusal) it = tt
noes_are_true explains has_verdict law options last_packet place packets (AllRefused addresses refusal) it = tt

pub verdict_over_all : NoneIsWhole → ToldVerdictIsOverAll
verdict_over_all law options last_packet place packets session opening outline first_octets second_octets opener other told side number peer under verdict it of_side is =
    let both = it.is_block.2 in
    let asked = λ (s : Side). asked_of options.port options.within session (numbered (reverse it.segments)) opening s in
    let end = side_told options asked session opening both.connection opener other told side both.is_opener both.is_other of_side in
    verdict_in options packets last_packet place session opening (BothEnds session opening outline first_octets second_octets opener other) it outline first_octets second_octets opener other both side told end
    number peer under law verdict is

-- ---- of all blocks

pub all_true : NoConfigurationExplains → HasItsVerdict → NoOrderHasARun → (options : CheckOptions) (packets : List Recorded) (last_packet : ℕ) (blocks : List (ℕ × Block))
    → AllByRecursion (λ (b : ℕ × Block). IsToldAt options packets last_packet b.0 b.1) blocks → AllByRecursion (λ (b : ℕ × Block). NoesAreTrue options packets last_packet b.1) blocks
all_true explains has_verdict law options packets last_packet [] all = tt
all_true explains has_verdict law options packets last_packet (b ∷ blocks) all =
    (noes_are_true explains has_verdict law options last_packet b.0 packets b.1 all.0, all_true explains has_verdict law options packets last_packet blocks all.1)

pub all_yeses : (options : CheckOptions) (packets : List Recorded) (last_packet : ℕ) (blocks : List (ℕ × Block))
    → AllByRecursion (λ (b : ℕ × Block). IsToldAt options packets last_packet b.0 b.1) blocks → AllByRecursion (λ (b : ℕ × Block). YesesAreTrue options packets last_packet b.1) blocks
all_yeses options packets last_packet [] all = tt
all_yeses options packets last_packet (b ∷ blocks) all = (yeses_are_true options last_packet b.0 packets b.1 all.0, all_yeses options packets last_packet blocks all.1)

pub all_unfinished : NoneIsWhole → (options : CheckOptions) (packets : List Recorded) (last_packet : ℕ) (blocks : List (ℕ × Block))
    → AllByRecursion (λ (b : ℕ × Block). IsToldAt options packets last_packet b.0 b.1) blocks → AllByRecursion (λ (b : ℕ × Block). UnfinishedAreTrue options packets last_packet b.1) blocks
all_unfinished law options packets last_packet [] all = tt
all_unfinished law options packets last_packet (b ∷ blocks) all =
    (unfinished_are_true law options last_packet b.0 packets b.1 all.0, all_unfinished law options packets last_packet blocks all.1)

-- ---- whether the options of `judge` are told plays no part

records_as : (Are : ℕ → Connection → List Entry → Type 0) (stopped : Option WhyRefused) (options : CheckOptions) (packets : List Recorded) (last_packet : ℕ) (session : Session) (opening : Opening) (side : Side) (entries : List Entry)
    → HasRecordsSo Are (options_by stopped options) packets last_packet session opening side entries → HasRecordsSo Are options packets last_packet session opening side entries
records_as Are stopped options packets last_packet session opening side entries h = record {
  addresses = h.addresses;
  segments = h.segments;
  has = h.has;
  is_session = h.is_session;
  connection = h.connection;
  chosen = h.chosen;
  are_records = h.are_records;
}

records_in_as : (order : Order) (stopped : Option WhyRefused) (options : CheckOptions) (packets : List Recorded) (last_packet : ℕ) (session : Session) (opening : Opening) (side : Side) (entries : List Entry)
    → HasRecordsIn order (options_by stopped options) packets last_packet session opening side entries → HasRecordsIn order options packets last_packet session opening side entries
records_in_as orders.Made stopped options packets last_packet session opening side entries h = records_as AreRecordsOf stopped options packets last_packet session opening side entries h
records_in_as orders.All stopped options packets last_packet session opening side entries h = records_as AreRecordsOf stopped options packets last_packet session opening side entries h
records_in_as orders.Another stopped options packets last_packet session opening side entries h = records_as AreRecordsOfAWay stopped options packets last_packet session opening side entries h

true_as : (stopped : Option WhyRefused) (options : CheckOptions) (packets : List Recorded) (last_packet : ℕ) (session : Session) (opening : Opening) (side : Side) (told : EndTold)
    → IsTrueNo (options_by stopped options) packets last_packet session opening side told → IsTrueNo options packets last_packet session opening side told
unfolding records_as
true_as stopped options packets last_packet session opening side told it = record {
  entries = it.entries;
  has_records = records_as AreRecordsOf stopped options packets last_packet session opening side it.entries it.has_records;
  count = it.count;
  impossible = it.impossible;
  stands = it.stands;
  not_found = it.not_found;
  cause = it.cause;
  number = it.number;
  has_number = it.has_number;
  named = it.named;
  none = it.none;
  possible = it.possible;
  by_open = it.by_open;
}

overall_as : (stopped : Option WhyRefused) (options : CheckOptions) (packets : List Recorded) (last_packet : ℕ) (session : Session) (opening : Opening) (side : Side) (told : EndTold)
    → IsTrueOverall (options_by stopped options) packets last_packet session opening side told → IsTrueOverall options packets last_packet session opening side told
unfolding records_as
overall_as stopped options packets last_packet session opening side told it = record {
  entries = it.entries;
  has_records = records_as AreRecordsOf stopped options packets last_packet session opening side it.entries it.has_records;
  found = it.found;
  is_found = it.is_found;
  number = it.number;
  has_number = it.has_number;
  named = it.named;
  no_order = it.no_order;
}

have_as : (stopped : Option WhyRefused) (options : CheckOptions) (packets : List Recorded) (last_packet : ℕ) (session : Session) (opening : Opening) (side : Side) (told : EndTold)
    → HasTrueNoes (options_by stopped options) packets last_packet session opening side told → HasTrueNoes options packets last_packet session opening side told
have_as stopped options packets last_packet session opening side told has begins = elim (has begins) [
  | inl it ↦ inl (true_as stopped options packets last_packet session opening side told it)
  | inr it ↦ inr (overall_as stopped options packets last_packet session opening side told it)
]

noes_as : (stopped : Option WhyRefused) (options : CheckOptions) (packets : List Recorded) (last_packet : ℕ) (block : Block)
    → NoesAreTrue (options_by stopped options) packets last_packet block → NoesAreTrue options packets last_packet block
noes_as stopped options packets last_packet (BothEnds session opening outline first_octets second_octets opener other) noes = (
  have_as stopped options packets last_packet session opening opening.opened_by opener noes.0,
  have_as stopped options packets last_packet session opening (other_side opening.opened_by) other noes.1,
)
noes_as stopped options packets last_packet (OneEnd session opening outline first_octets second_octets) noes = tt
noes_as stopped options packets last_packet (Refused session opening refusal) noes = tt
noes_as stopped options packets last_packet (AllRefused addresses refusal) noes = tt

pub all_as : (stopped : Option WhyRefused) (options : CheckOptions) (packets : List Recorded) (last_packet : ℕ) (blocks : List (ℕ × Block))
    → AllByRecursion (λ (b : ℕ × Block). NoesAreTrue (options_by stopped options) packets last_packet b.1) blocks
    → AllByRecursion (λ (b : ℕ × Block). NoesAreTrue options packets last_packet b.1) blocks
all_as stopped options packets last_packet [] all = tt
all_as stopped options packets last_packet (b ∷ blocks) all =
    (noes_as stopped options packets last_packet b.1 all.0, all_as stopped options packets last_packet blocks all.1)

yes_as : (stopped : Option WhyRefused) (options : CheckOptions) (packets : List Recorded) (last_packet : ℕ) (session : Session) (opening : Opening) (side : Side) (told : EndTold)
    → HasTrueYes (options_by stopped options) packets last_packet session opening side told → HasTrueYes options packets last_packet session opening side told
yes_as stopped options packets last_packet session opening side told has begins =
    let it = has begins in
    record {
      entries = it.entries;
      has_records = records_in_as told.order stopped options packets last_packet session opening side it.entries it.has_records;
      number = it.number;
      has_number = it.has_number;
      peer = it.peer;
      ends = it.ends;
      named = it.named;
      own = it.own;
      has_own = it.has_own;
      some = it.some;
      lists = it.lists;
      under = it.under;
      holds = it.holds;
      are_before = it.are_before;
      are_counts = it.are_counts;
    }

yeses_as : (stopped : Option WhyRefused) (options : CheckOptions) (packets : List Recorded) (last_packet : ℕ) (block : Block)
    → YesesAreTrue (options_by stopped options) packets last_packet block → YesesAreTrue options packets last_packet block
yeses_as stopped options packets last_packet (BothEnds session opening outline first_octets second_octets opener other) yeses = (
  yes_as stopped options packets last_packet session opening opening.opened_by opener yeses.0,
  yes_as stopped options packets last_packet session opening (other_side opening.opened_by) other yeses.1,
)
yeses_as stopped options packets last_packet (OneEnd session opening outline first_octets second_octets) yeses = tt
yeses_as stopped options packets last_packet (Refused session opening refusal) yeses = tt
yeses_as stopped options packets last_packet (AllRefused addresses refusal) yeses = tt

pub all_yeses_as : (stopped : Option WhyRefused) (options : CheckOptions) (packets : List Recorded) (last_packet : ℕ) (blocks : List (ℕ × Block))
    → AllByRecursion (λ (b : ℕ × Block). YesesAreTrue (options_by stopped options) packets last_packet b.1) blocks
    → AllByRecursion (λ (b : ℕ × Block). YesesAreTrue options packets last_packet b.1) blocks
all_yeses_as stopped options packets last_packet [] all = tt
all_yeses_as stopped options packets last_packet (b ∷ blocks) all =
    (yeses_as stopped options packets last_packet b.1 all.0, all_yeses_as stopped options packets last_packet blocks all.1)

over_all_as : (stopped : Option WhyRefused) (options : CheckOptions) (packets : List Recorded) (last_packet : ℕ) (session : Session) (opening : Opening) (side : Side)
    → IsUnfinishedOverAll (options_by stopped options) packets last_packet session opening side → IsUnfinishedOverAll options packets last_packet session opening side
unfolding records_as
over_all_as stopped options packets last_packet session opening side h = record {
  entries = h.entries;
  has_records = records_as AreRecordsOf stopped options packets last_packet session opening side h.entries h.has_records;
  no_order = h.no_order;
}

verdict_in_as : (order : Order) (stopped : Option WhyRefused) (options : CheckOptions) (packets : List Recorded) (last_packet : ℕ) (session : Session) (opening : Opening) (side : Side)
    → HasVerdictIn order (options_by stopped options) packets last_packet session opening side Unfinished → HasVerdictIn order options packets last_packet session opening side Unfinished
unfolding records_as
verdict_in_as orders.Made stopped options packets last_packet session opening side h = record {
  entries = h.entries;
  has_records = records_as AreRecordsOf stopped options packets last_packet session opening side h.entries h.has_records;
  over_all = h.over_all;
}
verdict_in_as orders.Another stopped options packets last_packet session opening side h = record {
  entries = h.entries;
  has_records = records_as AreRecordsOf stopped options packets last_packet session opening side h.entries h.has_records;
  over_all = h.over_all;
}
verdict_in_as orders.All stopped options packets last_packet session opening side h = (h.0, over_all_as stopped options packets last_packet session opening side h.1)

unfinished_as : (stopped : Option WhyRefused) (options : CheckOptions) (packets : List Recorded) (last_packet : ℕ) (session : Session) (opening : Opening) (side : Side) (told : EndTold)
    → HasTrueUnfinished (options_by stopped options) packets last_packet session opening side told → HasTrueUnfinished options packets last_packet session opening side told
unfolding records_as
unfinished_as stopped options packets last_packet session opening side told has begins =
    let it = has begins in
    record {
      entries = it.entries;
      has_records = records_as AreRecordsOf stopped options packets last_packet session opening side it.entries it.has_records;
      number = it.number;
      has_number = it.has_number;
      named = it.named;
      verdict = verdict_in_as told.order stopped options packets last_packet session opening side it.verdict;
      known = λ known. over_all_as stopped options packets last_packet session opening side (it.known known);
      cause = it.cause;
    }

both_unfinished_as : (stopped : Option WhyRefused) (options : CheckOptions) (packets : List Recorded) (last_packet : ℕ) (block : Block)
    → UnfinishedAreTrue (options_by stopped options) packets last_packet block → UnfinishedAreTrue options packets last_packet block
both_unfinished_as stopped options packets last_packet (BothEnds session opening outline first_octets second_octets opener other) both = (
  unfinished_as stopped options packets last_packet session opening opening.opened_by opener both.0,
  unfinished_as stopped options packets last_packet session opening (other_side opening.opened_by) other both.1,
)
both_unfinished_as stopped options packets last_packet (OneEnd session opening outline first_octets second_octets) both = tt
both_unfinished_as stopped options packets last_packet (Refused session opening refusal) both = tt
both_unfinished_as stopped options packets last_packet (AllRefused addresses refusal) both = tt

pub all_unfinished_as : (stopped : Option WhyRefused) (options : CheckOptions) (packets : List Recorded) (last_packet : ℕ) (blocks : List (ℕ × Block))
    → AllByRecursion (λ (b : ℕ × Block). UnfinishedAreTrue (options_by stopped options) packets last_packet b.1) blocks
    → AllByRecursion (λ (b : ℕ × Block). UnfinishedAreTrue options packets last_packet b.1) blocks
all_unfinished_as stopped options packets last_packet [] all = tt
all_unfinished_as stopped options packets last_packet (b ∷ blocks) all =
    (both_unfinished_as stopped options packets last_packet b.1 all.0, all_unfinished_as stopped options packets last_packet blocks all.1)
