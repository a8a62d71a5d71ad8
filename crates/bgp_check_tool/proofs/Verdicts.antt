-- What a verdict on an end is worth.
use Rattle.std.proofs.Common.{◌≡◌, ◌∙◌, Bool, true, false, IsTrue, ℕ, List, Option, None, Some, IfSome, option_map, inl, inr, refl, reverse, sym, subst}
use Rattle.std.proofs.lemmas.Bool.{false≢true}
use Rattle.bgp_prefix.specs.Shown.{ShownRecord}
use Rattle.bgp_prefix.specs.declared.session.Session.{Session}
use Rattle.bgp_open.specs.Open.{OpenFields, open_of}
use Rattle.streams.specs.declared.connection.Connection.{Connection}
use Rattle.streams.specs.declared.connection.Opening.{Opening}
use Rattle.streams.specs.declared.passed.Side.{Side}
use Rattle.bgp_open.specs.declared.config.Config.{Config}
use Rattle.bgp_judge.specs.Verdict.{No, Unfinished, VerdictValue, Yes}
use Rattle.bgp_parts.specs.Opens.{HasOwnOpen}
use Rattle.bgp_check.specs.declared.peer_as.PeerAs.{PeerAs}
use Rattle.bgp_check_tool.specs.Another.{IsNo}
use Rattle.bgp_recording.specs.declared.framing.Framings.{Framings}
use Rattle.bgp_recording.specs.Captured.{records_of}
use Rattle.bgp_import.specs.ListText.{end_of, other_side}
use Rattle.bgp_check.specs.Answered.{AnswerValue, IsAnswerTo, JudgedAs, NoConfigurationExplains, Unjudged}
use Rattle.bgp_check.specs.Configurations.{IsOf}
use Rattle.bgp_check.specs.NotJudged.{IsWhyNot, SendsSome, why_not}
use Rattle.bgp_check.specs.Over.{HasVerdictOver}
use Rattle.bgp_check.specs.WidestMade.{IsFaultless}
use Rattle.bgp_parts.proofs.OneOwnOpen.{one_own}
use Rattle.bgp_check_lines.specs.Asked.{asked_of}
use Rattle.bgp_check_lines.specs.DeclaredAsked.{Asked}
use Rattle.streams.specs.Connections.{numbered}
use Rattle.bgp_check_tool.specs.declared.options.CheckOptions.{CheckOptions}
use Rattle.bgp_check_tool.specs.Headline.{IsToldOfSide, NoConfigurationHasARun, NoOrderHasARun, NoneIsWhole, NothingIsVacuous, OneOrderHasACause, ToldNoHasNoRun, VerdictIsOverAll}
use Rattle.bgp_check_tool.specs.Orders.{IsFoundTo, IsUnexplained, UnexplainedByAll, UnfinishedByAll}
use Rattle.bgp_check_tool.specs.declared.orders.NoOrder.{NoOrder}
use Rattle.bgp_check_tool.specs.Seen.{seen_from, session_from}
use Rattle.bgp_check_tool.specs.Told.{EndTold, IsEndTold}
use Rattle.bgp_check_tool.proofs.TellingEnd.{judged_so, known_over_all, no_of_made, told_stretch}

-- of the records that are judged
pub over_answer : (options : CheckOptions) (asked : Asked) (session : Session) (opening : Opening) (connection : Connection) (side : Side) (told : EndTold) (number : Option ℕ) (peer : PeerAs)
    (under : Config) (verdict : VerdictValue) (end : IsEndTold options asked session opening connection side told) → end.answer ≡ JudgedAs number peer under verdict
    → (own : Option (List ℕ)) → HasOwnOpen (records_of end.entries) own → IsFaultless own → HasVerdictOver (IsOf (session_from side session) own) (records_of end.entries) verdict
over_answer options asked session opening connection side told number peer under verdict end is own has faultless =
    let its = session_from side session in
    let records = records_of end.entries in
    let answer : IsAnswerTo its records (JudgedAs number peer under verdict) = subst (λ (a : AnswerValue). IsAnswerTo its records a) is end.answers in
    let stretch = told_stretch options asked (end_of side session opening) its (seen_from side connection) told end in
    let same = one_own records own answer.own has answer.has_own in
    subst (λ (o : Option (List ℕ)). HasVerdictOver (IsOf its o) records verdict) (sym same)
    (answer.over stretch (subst (λ (o : Option (List ℕ)). IsFaultless o) same faultless))

pub none_whole : UnfinishedByAll → NoneIsWhole
none_whole law options asked session opening connection side told end known =
    let its = session_from side session in
    let seen = seen_from side connection in
    let (peer, under, over) = known_over_all options asked (end_of side session opening) its seen told end known in
    law its options.within end.framings seen peer under over

pub verdict_is : (number its : Option ℕ) (peer another : PeerAs) (under other : Config) (verdict : VerdictValue) → JudgedAs number peer under verdict ≡ JudgedAs its another other Unfinished
    → verdict ≡ Unfinished
verdict_is number its peer another under other verdict e = cc

pub over_all : NoneIsWhole → VerdictIsOverAll
over_all law options asked session opening connection side told number peer under verdict own end is has faultless =
    let its = session_from side session in
    let seen = seen_from side connection in
    elim (judged_so options asked (end_of side session opening) its seen told end number peer under verdict is) [
      | inl same ↦ inl (over_answer options asked session opening connection side told number peer under verdict end same own has faultless)
      | inr of ↦ inr (verdict_is number _ peer of.peer under of.under verdict (sym is ∙ of.is_told), of.is_order, law options asked session opening connection side told end of.is_known)
    ]

pub no_run : NoConfigurationExplains → NoConfigurationHasARun
no_run law options asked session opening connection side told number peer under count own config end is has of =
    let its = session_from side session in
    let seen = seen_from side connection in
    let records = records_of end.entries in
    let made = no_of_made options asked (end_of side session opening) its seen told end number peer under count is in
    let answer : IsAnswerTo its records (JudgedAs number peer under (No count)) = subst (λ (a : AnswerValue). IsAnswerTo its records a) (sym made.is_told ∙ is) end.answers in
    law its records number peer under count own config (told_stretch options asked (end_of side session opening) its seen told end) answer has of

-- ---- a sent message that no order explains

none_found : (unexplained : NoOrder) (found : Option NoOrder) → found ≡ Some unexplained → found ≡ None → ⊥
none_found unexplained found some none = cc

pub found_is : (session : Session) (within : ℕ) (framings : Framings) (connection : Connection) (answer : AnswerValue) (found : Option NoOrder) (unexplained : NoOrder)
    → found ≡ Some unexplained → IsFoundTo session within framings connection answer found → IsUnexplained session within framings connection unexplained
found_is session within framings connection (Unjudged why) found unexplained some none = absurd (none_found unexplained found some none)
found_is session within framings connection (JudgedAs number peer under (Yes ends)) found unexplained some none = absurd (none_found unexplained found some none)
found_is session within framings connection (JudgedAs number peer under (No count)) found unexplained some is =
    subst (λ (o : Option NoOrder). IfSome o (IsUnexplained session within framings connection)) some is
found_is session within framings connection (JudgedAs number peer under Unfinished) found unexplained some none = absurd (none_found unexplained found some none)

pub no_order : UnexplainedByAll → NoOrderHasARun
no_order law options asked session opening connection side told unexplained end some =
    let its = session_from side session in
    let seen = seen_from side connection in
    law its options.within end.framings seen unexplained (found_is its options.within end.framings seen told.answer told.found unexplained some end.is_found)

sends_by : (sends extended : Bool) (own told : Option OpenFields) (confederated : Bool) → None ≡ why_not sends extended own told confederated → IsTrue sends
sends_by false extended own told confederated is = let k : ⊥ = cc in absurd k
sends_by true extended own told confederated is = refl

sends_some : (records : List ShownRecord) → IsWhyNot records None → SendsSome records
sends_some records none = none.is_sends.0 (sends_by none.sends none.extended (option_map open_of none.own) none.told none.confederated none.is_why)

judged_sends : (session : Session) (records : List ShownRecord) (answer : AnswerValue) → IsNo answer → IsAnswerTo session records answer → SendsSome records
judged_sends session records (Unjudged why) it answers = absurd it
judged_sends session records (JudgedAs number peer under (Yes ends)) it answers = absurd it
judged_sends session records (JudgedAs number peer under (No count)) it answers = sends_some records answers.none
judged_sends session records (JudgedAs number peer under Unfinished) it answers = absurd it

pub not_vacuous : NothingIsVacuous
not_vacuous options asked session opening connection side told number peer under verdict end is =
    let its = session_from side session in
    let seen = seen_from side connection in
    let records = records_of end.entries in (
      told_stretch options asked (end_of side session opening) its seen told end,
      elim (judged_so options asked (end_of side session opening) its seen told end number peer under verdict is) [
        | inl same ↦
            let answer : IsAnswerTo its records (JudgedAs number peer under verdict) = subst (λ (a : AnswerValue). IsAnswerTo its records a) same end.answers in
            sends_some records answer.none
        | inr of ↦ judged_sends its records end.answer of.is_no end.answers
      ],
    )

-- ---- why one order is told

pub for_a_cause : OneOrderHasACause
for_a_cause options asked session opening connection side told end made none one enough = elim (end.has_cause made none one) [
  | inl lacks ↦ absurd (false≢true (sym enough ∙ lacks))
  | inr many ↦ many
]

-- ---- of a no that is told of a recording

pub side_told : (options : CheckOptions) (asked : Side → Asked) (session : Session) (opening : Opening) (connection : Connection) (opener other told : EndTold) (side : Side)
    → IsEndTold options (asked opening.opened_by) session opening connection opening.opened_by opener
    → IsEndTold options (asked (other_side opening.opened_by)) session opening connection (other_side opening.opened_by) other
    → IsToldOfSide opening opener other side told → IsEndTold options (asked side) session opening connection side told
side_told options asked session opening connection opener other told side is_opener is_other (inl (here, same)) =
    subst (λ (s : Side). IsEndTold options (asked s) session opening connection s told) (sym here)
    (subst (λ (t : EndTold). IsEndTold options (asked opening.opened_by) session opening connection opening.opened_by t) (sym same) is_opener)
side_told options asked session opening connection opener other told side is_opener is_other (inr (here, same)) =
    subst (λ (s : Side). IsEndTold options (asked s) session opening connection s told) (sym here)
    (subst (λ (t : EndTold). IsEndTold options (asked (other_side opening.opened_by)) session opening connection (other_side opening.opened_by) t) (sym same) is_other)

pub told_no : NoConfigurationExplains → ToldNoHasNoRun
told_no law options last_packet place packets session opening outline first second opener other told side number peer under count block of_side is =
    let both = block.is_block.2 in
    let asked = λ (s : Side). asked_of options.port options.within session (numbered (reverse block.segments)) opening s in
    let end = side_told options asked session opening both.connection opener other told side both.is_opener both.is_other of_side in
    record {
      addresses = block.addresses;
      segments = block.segments;
      has = block.has;
      is_session = block.is_session;
      connection = both.connection;
      chosen = both.chosen;
      entries = end.entries;
      framings = end.framings;
      received_unshown = end.received_unshown;
      sent_unshown = end.sent_unshown;
      made = (no_of_made options (asked side) (end_of side session opening) (session_from side session) (seen_from side both.connection) told end number peer under count is).made;
      none = λ own config has of. (no_run law options (asked side) session opening both.connection side told number peer under count own config end is has of).0;
    }
