-- What is printed of a connection, and the laws of two prints.
use Rattle.std.proofs.Common.{◌≡◌, ◌⊎◌, ◌∙◌, ◌≤◌, ◌<◌, ◌+◌, ◌++◌, ℕ, List, Option, Some, codes, length, inl, inr, refl, sym, ap, subst, arith}
use Rattle.std.proofs.lemmas.Bool.{cases_lt}
use Rattle.packets.specs.Packet.{Recorded}
use Rattle.streams.specs.Passed.{Segment}
use Rattle.bgp_open.specs.declared.config.Config.{Config}
use Rattle.bgp_machine.specs.Run.{End}
use Rattle.bgp_recording.specs.declared.entry.Entry.{Entry}
use Rattle.bgp_judge.specs.Verdict as verdicts
use Rattle.bgp_judge.specs.Verdict.{HasOneVerdict, VerdictValue}
use Rattle.bgp_orders.specs.Connections.{NoOrderExplains}
use Rattle.bgp_orders.specs.Entries.{RunsOfEntriesAreWhole}
use Rattle.bgp_orders.specs.Explained.{HasOneVerdictOver, IsExplained}
use Rattle.bgp_orders.specs.declared.connection.OverOrders.TheVariants as over
use Rattle.bgp_orders.specs.declared.connection.Unexplained.{Unexplained}
use Rattle.bgp_orders.proofs.Over.{at_most_explained, more_patience_explains}
use Rattle.bgp_tool.specs.VerdictText.{yes_text}
use Rattle.bgp_explain.specs.declared.report.Report.{Report}
use Rattle.bgp_import.specs.Selecting.{AreTaken}
use Rattle.bgp_import.specs.declared.importing.Import.{Import}
use Rattle.bgp_way_ends.specs.EveryEnd.{WayYesListsEveryEnd}
use Rattle.bgp_way_ends.specs.Starts.{TwoStartsEndAll}
use Rattle.bgp_recording_tool.specs.Connections.{IsOverAll, IsReported, IsTold, IsToldAs, IsYesOfAnother}
use Rattle.bgp_recording_tool.specs.Found.{Nothing, TooMany}
use Rattle.bgp_recording_tool.specs.Headline.{IsAsMade}
use Rattle.bgp_recording_tool.specs.Told.{Told, Judged, NoOrder, InAnotherOrder, Refused, UnfinishedOverAll, told_status, told_text}
use Rattle.bgp_recording_tool.specs.declared.remark.Remark.{Remark}
use Rattle.bgp_recording_tool.proofs.FoundNothing.{made_verdict, no_nothing, unfinished_nothing}
use Rattle.bgp_order_laws.specs.AllEnds.{AreAllEnds, PrintedYesListsEveryEnd, ends_told}
use Rattle.bgp_order_laws.specs.OneAnswer.{Answer, IsSo, NoAt, Prints, PrintsOneAnswer, SaysNothing, Unfinished, Yes}
use Rattle.bgp_order_laws.specs.Patience.{AreNoes, LessPatienceKeepsANo, MorePatienceKeepsAYes, with_patience}
use Rattle.bgp_order_laws.proofs.Known.{Known, NoneAt, by_no_order, is_so, place_of, same_known, yes_not_no}
use Rattle.bgp_order_laws.proofs.Lines.{no_by, no_made, no_refused, yes_by}
use Rattle.bgp_order_laws.proofs.Moved.{Place, as_many, explained_in}
use Rattle.bgp_order_laws.proofs.Patience.{way_more}
use Rattle.bgp_order_laws.proofs.Yeses.{all_ends, listed_is, made_yes, none_listed, yes_told}

module _ (config : Config) (report : Report) (wanted : Import) (packets : List Recorded) (segments : List Segment) (number named : Option ℕ) where
  -- what a print says of all orders
  abbrev Says : List ℕ → ℕ → List Remark → Type 0
  Says text status remarks =
      ((answer : Answer) × Known config wanted packets segments number answer × Prints answer text status)
      ⊎ SaysNothing config wanted packets segments number named text status remarks

  as_made : (verdict : VerdictValue) (more : List ℕ) (remarks : List Remark) → IsReported config report wanted packets segments number named verdict TooMany more remarks
      → IsAsMade config wanted packets segments number verdict
  as_made verdict more remarks is =
      let judged = is.judged in record {
        entries = judged.entries;
        made = made_verdict config wanted packets segments number named verdict TooMany remarks judged;
        many = judged.is_found.1;
      }

  says_by : (text : List ℕ) (status : ℕ) (remarks : List Remark) (told : Told) → IsTold config report wanted packets segments number named told remarks
      → text ≡ told_text told → status ≡ told_status told → Says text status remarks
  says_by text status remarks (Judged (verdicts.Yes ends) more) (inl is) prints tells =
      inl (Yes ends, made_yes config report wanted packets segments number named ends Nothing more remarks is, (more, prints, tells))
  says_by text status remarks (Judged (verdicts.Yes ends) more) (inr is) prints tells = absurd (is.judged.is_found.0 ends refl)
  says_by text status remarks (Judged (verdicts.No count) more) (inl is) prints tells =
      absurd (no_nothing config wanted packets segments number count is.judged.is_found)
  says_by text status remarks (Judged (verdicts.No count) more) (inr is) prints tells =
      inr (inr (verdicts.No count, is.judged.is_found.0, as_made (verdicts.No count) more remarks is, (more, prints, tells)))
  says_by text status remarks (Judged verdicts.Unfinished more) (inl is) prints tells =
      inl (Unfinished, unfinished_nothing config wanted packets segments number is.judged.is_found, (more, prints, tells))
  says_by text status remarks (Judged verdicts.Unfinished more) (inr is) prints tells =
      inr (inr (verdicts.Unfinished, is.judged.is_found.0, as_made verdicts.Unfinished more remarks is, (more, prints, tells)))
  says_by text status remarks (NoOrder u more) (verdict, instead, is) prints tells =
      inl (NoAt u.packet, record { first = u; is = refl; over_all = is.judged.is_found.1 }, (more, prints, tells))
  says_by text status remarks (InAnotherOrder ends more) (verdict, is) prints tells =
      inl (Yes ends, (is.judged.others, is.judged.is_found.1), (more, prints, tells))
  says_by text status remarks (UnfinishedOverAll more) (verdict, is) prints tells = inl (Unfinished, is.judged.is_found.1, (more, prints, tells))
  says_by text status remarks (Refused refusal) is prints tells = inr (inl (refusal, is, prints, tells))

  says : (text : List ℕ) (status : ℕ) (remarks : List Remark) → IsToldAs config report wanted packets segments number named text status remarks → Says text status remarks
  says text status remarks print = says_by text status remarks print.told print.is_told print.prints print.tells

-- ---- a yes that is printed

yes_lines : (ends : List End) (text : List ℕ) (status : ℕ) (told : Told) → text ≡ told_text told → status ≡ told_status told → ends_told told ≡ Some ends → Prints (Yes ends) text status
yes_lines ends text status (Judged (verdicts.Yes mine) more) prints tells e =
    let same = listed_is mine ends e in
    (more, prints ∙ ap (λ (v : List End). yes_text v ++ more) same, tells)
yes_lines ends text status (Judged (verdicts.No count) more) prints tells e = absurd (none_listed ends e)
yes_lines ends text status (Judged verdicts.Unfinished more) prints tells e = absurd (none_listed ends e)
yes_lines ends text status (NoOrder u more) prints tells e = absurd (none_listed ends e)
yes_lines ends text status (InAnotherOrder mine more) prints tells e =
    let same = listed_is mine ends e in
    (more, prints ∙ ap (λ (v : List End). yes_text v ++ more) same, tells)
yes_lines ends text status (UnfinishedOverAll more) prints tells e = absurd (none_listed ends e)
yes_lines ends text status (Refused refusal) prints tells e = absurd (none_listed ends e)

pub every_end : WayYesListsEveryEnd → TwoStartsEndAll → PrintedYesListsEveryEnd
every_end every starts config report wanted packets segments number named text status remarks rest taken print begins =
    let yes = yes_by print.told rest (sym print.prints ∙ begins) in
    let known = yes_told config report wanted packets segments number named print.told yes.0 remarks print.is_told yes.1 in (
      yes.0,
      yes.1,
      yes_lines yes.0 text status print.told print.prints print.tells yes.1,
      all_ends every starts config wanted packets segments number known.0 yes.0 taken known.1,
    )

-- ---- two prints

module _ (runs : RunsOfEntriesAreWhole) (every : WayYesListsEveryEnd) (starts : TwoStartsEndAll) (single : HasOneVerdict) (one : HasOneVerdictOver) (none : NoOrderExplains) where
  both_say : (config : Config) (report reported : Report) (wanted : Import) (packets : List Recorded) (segments : List Segment) (number named called : Option ℕ) (text printed : List ℕ)
      (status code : ℕ) (remarks others : List Remark) → AreTaken wanted.selection 0 packets segments → Says config report wanted packets segments number named text status remarks
      → Says config reported wanted packets segments number called printed code others
      → ((answer : Answer) × IsSo config wanted packets segments number answer × Prints answer text status × Prints answer printed code)
      ⊎ SaysNothing config wanted packets segments number named text status remarks
      ⊎ SaysNothing config wanted packets segments number called printed code others
  both_say config report reported wanted packets segments number named called text printed status code remarks others taken (inr nothing) also = inr (inl nothing)
  both_say config report reported wanted packets segments number named called text printed status code remarks others taken (inl said) (inr nothing) = inr (inr nothing)
  both_say config report reported wanted packets segments number named called text printed status code remarks others taken (inl (answer, known, prints)) (inl (other, also, too)) =
      let same = same_known runs every single one config wanted packets segments number taken answer other known also in
      inl (
        answer,
        is_so every starts none config wanted packets segments number answer taken known,
        prints,
        subst (λ (v : Answer). Prints v printed code) (sym same) too,
      )

  pub one_answer : PrintsOneAnswer
  one_answer config report reported wanted packets segments number named called text printed status code remarks others taken print again =
      both_say config report reported wanted packets segments number named called text printed status code remarks others taken
      (says config report wanted packets segments number named text status remarks print)
      (says config reported wanted packets segments number called printed code others again)

-- ---- more patience

module _ (runs : RunsOfEntriesAreWhole) (every : WayYesListsEveryEnd) (starts : TwoStartsEndAll) (single : HasOneVerdict) (one : HasOneVerdictOver) (none : NoOrderExplains) where
  -- a yes is one with more patience
  more_yes : (config : Config) (wanted : Import) (more : ℕ) (packets : List Recorded) (segments : List Segment) (number : Option ℕ) (entries : List Entry) (ends : List End)
      → wanted.within ≤ more → IsYesOfAnother config wanted packets segments number entries ends
      → IsYesOfAnother config (with_patience wanted more) packets segments number entries ends
  more_yes config wanted more packets segments number entries ends le is =
      let over = is.yes.of in
      let it = over.of in
      let way = way_more wanted.within more over.exchange it.start it.events le it.way in record {
        connection = is.connection;
        chosen = is.chosen;
        yes = record {
          received = is.yes.received;
          sent = is.yes.sent;
          of = record {
            exchange = over.exchange;
            tells = over.tells;
            received_unshown = over.received_unshown;
            sent_unshown = over.sent_unshown;
            of = record { start = it.start; events = it.events; way = way; numbered = it.numbered };
          };
          is = is.yes.is;
        };
      }

  keeps_by : (config : Config) (reported : Report) (wanted : Import) (more : ℕ) (packets : List Recorded) (segments : List Segment) (number called : Option ℕ) (ends : List End)
      (text printed : List ℕ) (status code : ℕ) (others : List Remark) → AreTaken wanted.selection 0 packets segments → AreAllEnds config wanted packets segments number ends
      → Known config (with_patience wanted more) packets segments number (Yes ends) → Prints (Yes ends) text status
      → Says config reported (with_patience wanted more) packets segments number called printed code others
      → ((ends : List End) × AreAllEnds config wanted packets segments number ends × AreAllEnds config (with_patience wanted more) packets segments number ends
      × Prints (Yes ends) text status × Prints (Yes ends) printed code)
      ⊎ SaysNothing config (with_patience wanted more) packets segments number called printed code others
  keeps_by config reported wanted more packets segments number called ends text printed status code others taken all known prints (inr nothing) = inr nothing
  keeps_by config reported wanted more packets segments number called ends text printed status code others taken all known prints (inl (answer, also, too)) =
      let same = same_known runs every single one config (with_patience wanted more) packets segments number taken (Yes ends) answer known also in
      let later = all_ends every starts config (with_patience wanted more) packets segments number known.0 ends taken known.1 in
      inl (ends, all, later, prints, subst (λ (v : Answer). Prints v printed code) (sym same) too)

  pub keeps_yes : MorePatienceKeepsAYes
  keeps_yes config report reported wanted more packets segments number named called text printed status code remarks others rest le taken print begins again =
      let yes = yes_by print.told rest (sym print.prints ∙ begins) in
      let known = yes_told config report wanted packets segments number named print.told yes.0 remarks print.is_told yes.1 in
      let all = all_ends every starts config wanted packets segments number known.0 yes.0 taken known.1 in
      let later = more_yes config wanted more packets segments number known.0 yes.0 le known.1 in
      keeps_by config reported wanted more packets segments number called yes.0 text printed status code others taken all (known.0, later)
      (yes_lines yes.0 text status print.told print.prints print.tells yes.1)
      (says config reported (with_patience wanted more) packets segments number called printed code others again)

  -- ---- and a no is one with less

  -- what is explained is so with more patience, wherever the octets lie
  more_explained : (config : Config) (wanted : Import) (more : ℕ) (packets : List Recorded) (segments : List Segment) (number : Option ℕ) → AreTaken wanted.selection 0 packets segments
      → wanted.within ≤ more → (a b : Place wanted packets segments number) (count : ℕ) → IsExplained config wanted.within a.exchange count → IsExplained config more b.exchange count
  more_explained config wanted more packets segments number taken le a b count is =
      explained_in config wanted packets segments number taken more a b count (more_patience_explains config wanted.within more a.exchange count le is)

  -- where a no is told
  abbrev no_place : (config : Config) (wanted : Import) (more : ℕ) (packets : List Recorded) (segments : List Segment) (number : Option ℕ) (u : Unexplained)
      → IsOverAll config (with_patience wanted more) packets segments number (over.No u) → Place wanted packets segments number
  no_place config wanted more packets segments number u is = record {
    connection = is.connection;
    chosen = is.chosen;
    exchange = is.over_all.exchange;
    tells = is.over_all.tells;
  }

  -- so many are explained with less patience
  no_more : (config : Config) (wanted : Import) (more : ℕ) (packets : List Recorded) (segments : List Segment) (number : Option ℕ) (u : Unexplained) → AreTaken wanted.selection 0 packets segments
      → wanted.within ≤ more → (a : Place wanted packets segments number) (count : ℕ) → IsExplained config wanted.within a.exchange count
      → IsOverAll config (with_patience wanted more) packets segments number (over.No u) → count ≤ u.before
  no_more config wanted more packets segments number u taken le a count is denied =
      let b = no_place config wanted more packets segments number u denied in
      elim (cases_lt u.before count) [
        | inl lt ↦ absurd
            (denied.over_all.holds.0.2
            (at_most_explained config more b.exchange (u.before + 1) count (omega (arith, lt)) (more_explained config wanted more packets segments number taken le a b count is)))
        | inr ge ↦ ge
      ]

  noes_by : (config : Config) (report : Report) (wanted : Import) (more : ℕ) (packets : List Recorded) (segments : List Segment) (number named : Option ℕ) (packet : ℕ) (text printed : List ℕ)
      (status code : ℕ) (remarks : List Remark) → wanted.within ≤ more → AreTaken wanted.selection 0 packets segments
      → NoneAt config (with_patience wanted more) packets segments number packet → Prints (NoAt packet) printed code
      → Says config report wanted packets segments number named text status remarks
      → AreNoes config wanted more packets segments number text printed status code ⊎ SaysNothing config wanted packets segments number named text status remarks
  noes_by config report wanted more packets segments number named packet text printed status code remarks le taken denied prints (inr nothing) = inr nothing
  noes_by config report wanted more packets segments number named packet text printed status code remarks le taken denied prints (inl (Yes ends, (entries, is), too)) =
      let later = more_yes config wanted more packets segments number entries ends le is in
      absurd (yes_not_no runs every single one config (with_patience wanted more) packets segments number taken entries ends denied.first later denied.over_all)
  noes_by config report wanted more packets segments number named packet text printed status code remarks le taken denied prints (inl (Unfinished, is, too)) =
      let a = place_of runs config wanted packets segments number over.Unfinished is in
      let b = no_place config wanted more packets segments number denied.first denied.over_all in
      let few : denied.first.before < length b.exchange.sent.now = denied.over_all.over_all.holds.0.0 in
      let many : length a.exchange.sent.now ≤ denied.first.before =
      no_more config wanted more packets segments number denied.first taken le a (length a.exchange.sent.now) is.over_all.holds.0 denied.over_all in
      absurd (omega (arith, few, many, as_many config wanted packets segments number taken a b))
  noes_by config report wanted more packets segments number named packet text printed status code remarks le taken denied prints (inl (NoAt place, is, too)) =
      let a = place_of runs config wanted packets segments number (over.No is.first) is.over_all in
      inl (record {
        one = is.first;
        other = denied.first;
        one_printed = subst (λ (v : ℕ). Prints (NoAt v) text status) (sym is.is) too;
        other_printed = subst (λ (v : ℕ). Prints (NoAt v) printed code) (sym denied.is) prints;
        one_so = by_no_order none config wanted packets segments number is.first is.over_all;
        other_so = by_no_order none config (with_patience wanted more) packets segments number denied.first denied.over_all;
        before = no_more config wanted more packets segments number denied.first taken le a is.first.before is.over_all.over_all.holds.0.1 denied.over_all;
      })

  -- what is printed begins so, and so it is known
  no_known : (config : Config) (reported : Report) (wanted : Import) (packets : List Recorded) (segments : List Segment) (number called : Option ℕ) (printed : List ℕ) (code : ℕ)
      (others : List Remark) (rest : List ℕ) → printed ≡ codes "no at packet " ++ rest → Says config reported wanted packets segments number called printed code others
      → (packet : ℕ) × NoneAt config wanted packets segments number packet × Prints (NoAt packet) printed code
  no_known config reported wanted packets segments number called printed code others rest begins (inl (answer, known, prints)) =
      let denied = no_by answer prints.0 rest (sym prints.1 ∙ begins) in (
        denied.0,
        subst (λ (v : Answer). Known config wanted packets segments number v) denied.1 known,
        subst (λ (v : Answer). Prints v printed code) denied.1 prints,
      )
  no_known config reported wanted packets segments number called printed code others rest begins (inr (inl (refusal, is, prints, tells))) =
      absurd (no_refused refusal rest (sym prints ∙ begins))
  no_known config reported wanted packets segments number called printed code others rest begins (inr (inr (verdict, is, made, (more, prints, tells)))) =
      absurd (no_made verdict more rest (sym prints ∙ begins))

  pub keeps_no : LessPatienceKeepsANo
  keeps_no config report reported wanted more packets segments number named called text printed status code remarks others rest le taken again begins print =
      let denied = no_known config reported (with_patience wanted more) packets segments number called printed code others rest begins
      (says config reported (with_patience wanted more) packets segments number called printed code others again) in
      noes_by config report wanted more packets segments number named denied.0 text printed status code remarks le taken denied.1 denied.2
      (says config report wanted packets segments number named text status remarks print)
