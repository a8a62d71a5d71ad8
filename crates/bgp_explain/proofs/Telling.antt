-- What is explained, told by its text.
use Rattle.std.proofs.Common.{◌↔◌, ◌≡◌, ◌<◌, ◌∙◌, ◌⊎◌, ◌+◌, ◌++◌, ◌==◌, ℕ, zero, suc, List, [], Bool, true, IsTrue, arith, refl, sym, ap, subst, inl, inr, map, take, length, append-nil, false, Option, None, Some, Result, Ok, Err}
use Rattle.std.specs.List.{AllByRecursion}
use Rattle.bgp_prefix.specs.Shown.{ShownRecord}
use Rattle.bgp_prefix.specs.declared.session.Session.{Session}
use Rattle.bgp_open.specs.declared.config.Config.{Config}
use Rattle.bgp_parts.specs.Confederations.{SomeShowConfederations}
use Rattle.mrt.specs.declared.fault.CaptureFault.{CaptureFault}
use Rattle.mrt.specs.declared.fault.FaultKind.{FaultKind}
use Rattle.mrt.specs.declared.fault.FaultKind.TheVariants as kinds
use Rattle.bgp_tool.specs.CaptureDecoding.{status_by}
use Rattle.mrt.specs.Capture.{ArePieces, Piece, Spells, joined, micros_of, records_of}
use Rattle.mrt.proofs.OneReading.{one_spelling}
use Rattle.bgp_judge.proofs.CaptureSoFar.{spelled}
use Rattle.bgp_tool.proofs.SeenSoFar.{fault_is_no_yes}
use Rattle.bgp_tool.specs.Front.{kept}
use Rattle.bgp_tool.specs.Seen.{lacking_by, lacking_in, seen_in}
use Rattle.std.proofs.Math.Dec.{eqb-suc-zero}
use Rattle.mrt.specs.Progress.{failures_of}
use Rattle.mrt.specs.ReadBy.{ReadBy}
use Rattle.mrt.specs.Reader.{ReaderState}
use Rattle.bgp_judge.specs.declared.verdict.Verdict.{Verdict}
use Rattle.bgp_judge.specs.declared.verdict.Verdict.TheVariants.{Yes, No, Unfinished}
use Rattle.bgp_judge.specs.Ends.{end_value}
use Rattle.bgp_judge.specs.Judging.{EndsBy, IsRefusal, ReadsWith, fault_in}
use Rattle.bgp_judge.specs.Verdict.{IsVerdict, verdict_value}
use Rattle.bgp_reason.specs.declared.told.Told.{Told}
use Rattle.bgp_open.specs.declared.link.Link.{Link}
use Rattle.bgp_reason.specs.Sending.{sending_link}
use Rattle.bgp_reason.specs.Told.{last_message, told}
use Rattle.bgp_why.specs.declared.endpoint.Endpoint.{Endpoint}
use Rattle.bgp_why.specs.declared.place.Place.{Place}
use Rattle.bgp_why.specs.declared.style.Style.{Style}
use Rattle.bgp_why.specs.Deed.{peer_of}
use Rattle.bgp_why.specs.Style.{plain}
use Rattle.bgp_text.specs.Capture.{refused_line}
use Rattle.bgp_tool.specs.Answer.{answer_status, answer_text, verdict_status}
use Rattle.bgp_verdict_lines.specs.Printed.{IsWrittenIn}
use Rattle.bgp_verdict_lines.specs.declared.form.VerdictForm.{VerdictForm}
use Rattle.bgp_tool.specs.Judging.{TellsFault}
use Rattle.bgp_tool.specs.VerdictText.{verdict_text}
use Rattle.bgp_explain.specs.declared.explained.Explained.{Explained}
use Rattle.bgp_explain.specs.declared.explained.Impossible.{Impossible}
use Rattle.bgp_explain.specs.declared.explained.Reason.{Reason}
use Rattle.bgp_explain.specs.declared.explained.Totals.{Totals}
use Rattle.bgp_explain.specs.Capture.{ExplainsCapture, IsAtFault, SaysExplained, SaysUnexplained, TellsDeed, TellsExplained, TellsLinesNot, TellsVerdict, TellsWhy, TellsWhyNot, judge_style}
use Rattle.bgp_explain.specs.Deed.{IsDeedOn, IsDeedText, IsFirstLine, line_of}
use Rattle.bgp_explain.specs.Details.{AreLacksOf, next_in}
use Rattle.bgp_explain.specs.Explaining.{Explains, ExplainsBy, IsExplained}
use Rattle.bgp_explain.specs.Kept.{shown_by}
use Rattle.bgp_explain.specs.declared.left_out.LeftOut.{LeftOut}
use Rattle.bgp_explain.specs.LeftOut.{IsLeftOutBy, JudgesWithout}
use Rattle.bgp_explain.specs.Opened.{IsOfConfederation, confederation_in, fault_told, left_out_in}
use Rattle.bgp_explain.specs.Reason.{AreSummed, HasReason, IsNext, IsReasonAt}
use Rattle.bgp_explain.specs.Lacked.{Lacked, RecordLacks, lacked_cause}
use Rattle.bgp_explain.specs.Moments.{first_second}
use Rattle.bgp_explain.specs.Records.{SaysLines}
use Rattle.bgp_explain.specs.Text.{CanBePutOf, IsExplainedText, IsMoreBy, IsMoreOf, IsReasonText, IsWhyOf, first_by, first_in, no_memory_line}
use Rattle.bgp_explain.specs.Why.{IsWhy}
use Rattle.bgp_explain.proofs.FirstSecond.{first_alone, first_next, first_taken}
use Rattle.bgp_explain.specs.Fractions.{AreKeptFor}
use Rattle.bgp_explain.specs.Places.{counted_places}
use Rattle.bgp_explain.proofs.Agreeing.{by_all}
use Rattle.bgp_explain.proofs.NextRecord.{Can, can_of, each_can}
use Rattle.bgp_explain.specs.Skipped.{skipped_of}
use Rattle.bgp_explain.specs.Tally.{tally_of, yes_lines}
use Rattle.bgp_explain.specs.declared.skipped.Skipped.{Skipped}
use Rattle.bgp_explain.specs.declared.tally.Tally.{Tally}
use Rattle.bgp_tool.specs.declared.seen.Seen.{Seen}

module _ {X : Type 0} (config : Config) (style : Style) (session : Session) (another : Option ℕ) (places : ℕ → ℕ → Place) where
  same_why : (records : List ShownRecord) (reason : Reason X) (next : Option (ℕ × ShownRecord)) (text : List ℕ) → IsReasonAt config records reason
      → IsWhy config style session another places reason.told reason.moments reason.link reason.left_out reason.last_message.items reason.possible next text
      → IsWhy config style session another places (told records) reason.moments (sending_link config records) reason.left_out (last_message records) reason.possible next text
  same_why records reason next text at why =
      subst (λ (t : Told). IsWhy config style session another places t reason.moments (sending_link config records) reason.left_out (last_message records) reason.possible next text) at.told
      (subst (λ (l : Option Link). IsWhy config style session another places reason.told reason.moments l reason.left_out (last_message records) reason.possible next text) at.link
      (subst (λ (o : List ℕ). IsWhy config style session another places reason.told reason.moments reason.link reason.left_out o reason.possible next text) at.last_message why))

  pub tells_why : (records : List ShownRecord) (reason : Reason X) (next : Option (ℕ × ShownRecord)) (text : List ℕ) → IsReasonAt config records reason
      → IsWhy config style session another places reason.told reason.moments reason.link reason.left_out reason.last_message.items reason.possible next text
      → TellsWhy config style session another places records next text
  tells_why records reason next text at why = record {
    possible = reason.possible;
    are = at.possible;
    asked = at.asked;
    timely = at.timely;
    moments = reason.moments;
    are_moments = at.moments;
    left_out = reason.left_out;
    leaves_out = at.left_out;
    why = same_why records reason next text at why;
  }

  -- of the next record, which is kept
  tells_next : (before : List ShownRecord) (reason : Reason X) (i : Impossible X) (text : List ℕ) → i.number ≡ length before + 1 → IsReasonAt config before reason
      → IsWhy config style session another places reason.told reason.moments reason.link reason.left_out reason.last_message.items reason.possible (next_in (Some i)) text
      → TellsWhy config style session another places before (Some (length before + 1, shown_by i.«record»)) text
  tells_next before reason i text number at why =
      tells_why before reason (Some (length before + 1, shown_by i.«record»)) text at
      (subst (λ (n : ℕ). IsWhy config style session another places reason.told reason.moments reason.link reason.left_out reason.last_message.items reason.possible
      (Some (n, shown_by i.«record»)) text) number why)

  tells_lines_not : (before records : List ShownRecord) (reason : Reason X) (o : Option (Impossible X)) (text : List ℕ) → IsNext config before o records
      → IsReasonAt config before reason
      → IsWhy config style session another places reason.told reason.moments reason.link reason.left_out reason.last_message.items reason.possible (next_in o) text
      → TellsLinesNot config style session another places before records text
  tells_lines_not before records reason None text next at why = absurd next
  tells_lines_not before records reason (Some i) text next at why = record {
    shown = shown_by i.«record»;
    next = next.1;
    why = tells_next before reason i text next.0.number at why;
  }

  -- after a verdict that has a reason
  pub lines_said : (Y : Type 0) (records : List ShownRecord) (verdict : Verdict Y) (reason : Reason X) (text : List ℕ) → HasReason config records verdict (Some reason)
      → IsWhyOf config style session another places reason text → SaysLines config style session another places records (verdict_value verdict) text
  lines_said Y records (Yes ends) reason text has why = absurd (let e : Some reason ≡ None = has in (let k : ⊥ = cc in k))
  lines_said Y records (No count) reason text has why =
      tells_lines_not (take count records) (take (count + 1) records) reason reason.impossible text has.1 has.0 why
  lines_said Y records Unfinished reason text has why =
      tells_why records reason None text has.0
      (subst (λ (o : Option (Impossible X)). IsWhy config style session another places reason.told reason.moments reason.link reason.left_out reason.last_message.items reason.possible
      (next_in o) text) has.1 why)

module _ {X : Type 0} (config : Config) (style : Style) (session : Session) where
  -- what is wrong with a record that lacks this
  at_fault : (peer : Endpoint) (before : List ShownRecord) (reason : Reason X) (shown : ShownRecord) (lacked : Lacked) (deed : List ℕ) → IsReasonAt config before reason
      → RecordLacks config reason.link reason.possible shown lacked → IsDeedOn session peer reason.link shown deed
      → IsAtFault config style session peer before shown deed (lacked_cause style.own_faults reason.possible lacked)
  at_fault peer before reason shown lacked deed at lacks is = record {
    possible = reason.possible;
    are = at.possible;
    asked = at.asked;
    timely = at.timely;
    lacked = lacked;
    are_lacks = subst (λ (l : Option Link). RecordLacks config l reason.possible shown lacked) at.link lacks;
    is_deed = subst (λ (l : Option Link). IsDeedOn session peer l shown deed) at.link is;
    is_cause = refl;
  }

  tells_deed : (peer : Endpoint) (before records : List ShownRecord) (reason : Reason X) (o : Option (Impossible X)) (lacked : Lacked) (text : List ℕ)
      → IsNext config before o records → IsReasonAt config before reason → AreLacksOf config reason.link reason.possible (next_in o) lacked
      → IsDeedText style session peer reason.link reason.possible lacked (next_in o) text → TellsDeed config style session peer before records text
  tells_deed peer before records reason None lacked text next at lacks is = absurd next
  tells_deed peer before records reason (Some i) lacked text next at lacks is = record {
    shown = shown_by i.«record»;
    next = next.1;
    deed = is.0;
    cause = lacked_cause style.own_faults reason.possible lacked;
    at_fault = at_fault peer before reason (shown_by i.«record») lacked is.0 at lacks is.1;
    whole = is.2;
  }

  -- after a no that has a reason
  pub deed_said : (Y : Type 0) (peer : Endpoint) (records : List ShownRecord) (count : ℕ) (reason : Reason X) (lacked : Lacked) (text : List ℕ)
      → HasReason {X = Y} config records (No count) (Some reason) → AreLacksOf config reason.link reason.possible (next_in reason.impossible) lacked
      → IsDeedText style session peer reason.link reason.possible lacked (next_in reason.impossible) text
      → TellsDeed config style session peer (take count records) (take (count + 1) records) text
  deed_said Y peer records count reason lacked text has lacks is =
      tells_deed peer (take count records) (take (count + 1) records) reason reason.impossible lacked text has.1 has.0 lacks is

module _ {X : Type 0} (config : Config) (style : Style) (session : Session) (places : ℕ → ℕ → Place) where
  tells_not : (before records : List ShownRecord) (reason : Reason X) (o : Option (Impossible X)) (lacked : Lacked) (first rest : List ℕ)
      → IsNext config before o records → AreLacksOf config reason.link reason.possible (next_in o) lacked
      → IsFirstLine style session places reason.link reason.possible lacked (next_in o) first → IsReasonAt config before reason
      → IsWhy config style session None places reason.told reason.moments reason.link reason.left_out reason.last_message.items reason.possible (next_in o) rest
      → TellsWhyNot config style session places before records (first ++ rest)
  tells_not before records reason None lacked first rest next lacks line at why = absurd next
  tells_not before records reason (Some i) lacked first rest next lacks line at why = record {
    shown = shown_by i.«record»;
    next = next.1;
    deed = line.0;
    cause = lacked_cause style.own_faults reason.possible lacked;
    at_fault = at_fault config style session (peer_of session) before reason (shown_by i.«record») lacked line.0 at lacks line.1;
    rest = rest;
    why = tells_next config style session None places before reason i rest next.0.number at why;
    whole = ap (λ (f : List ℕ). f ++ rest)
        (line.2 ∙ ap (λ (n : ℕ). line_of style session places reason.possible lacked n (shown_by i.«record») line.0) next.0.number);
  }

  -- what stands after a no that has a reason
  pub why_not : (Y : Type 0) (records : List ShownRecord) (count : ℕ) (reason : Reason X) (more : List ℕ) → HasReason {X = Y} config records (No count) (Some reason)
      → IsReasonText config style session places reason more → TellsWhyNot config style session places (take count records) (take (count + 1) records) more
  why_not Y records count reason more has is =
      subst (λ (t : List ℕ). TellsWhyNot config style session places (take count records) (take (count + 1) records) t) (sym is.whole)
      (tells_not (take count records) (take (count + 1) records) reason reason.impossible is.lacked is.first is.rest has.1 is.are_lacks is.is_first has.0 is.why)

  no_first : (reason : Reason X) (lacked : Lacked) (first : List ℕ) (o : Option (Impossible X)) → o ≡ None
      → IsFirstLine style session places reason.link reason.possible lacked (next_in o) first → first ≡ []
  no_first reason lacked first o none is =
      subst (λ (v : Option (Impossible X)). IsFirstLine style session places reason.link reason.possible lacked (next_in v) first) none is

  -- and after an unfinished
  pub why_unfinished : (Y : Type 0) (records : List ShownRecord) (reason : Reason X) (more : List ℕ) → HasReason {X = Y} config records Unfinished (Some reason)
      → IsReasonText config style session places reason more → TellsWhy config style session None places records None more
  why_unfinished Y records reason more has is =
      let none = no_first reason is.lacked is.first reason.impossible has.1 is.is_first in
      let why = lines_said config style session None places Y records Unfinished reason is.rest has is.why in
      let whole = is.whole ∙ ap (λ (f : List ℕ). f ++ is.rest) none in
      subst (λ (t : List ℕ). TellsWhy config style session None places records None t) (sym whole) why

-- ---- of a capture, in the style of `bgp judge`

module _ {X : Type 0} (config : Config) (session : Session) (places : ℕ → ℕ → Place) (Y : Type 0) (records : List ShownRecord) where
  -- the second of the first record
  first_before : (count : ℕ) (reason : Reason X) (o : Option (Impossible X)) → IsReasonAt config (take count records) reason
      → IsNext config (take count records) o (take (count + 1) records) → first_by reason.moments.first (next_in o) ≡ first_second records
  first_before count reason None at next = absurd next
  first_before count reason (Some i) at next =
      first_next (take count records) (shown_by i.«record») i.number reason.moments.first at.moments.first ∙ ap first_second (sym next.1) ∙ first_taken count records

  first_of_all : (reason : Reason X) (o : Option (Impossible X)) → o ≡ None → IsReasonAt config records reason → first_by reason.moments.first (next_in o) ≡ first_second records
  first_of_all reason o none at =
      ap (λ (v : Option (Impossible X)). first_by reason.moments.first (next_in v)) none ∙ first_alone records reason.moments.first at.moments.first

  -- the reason, or that there was no memory for it
  more_of_no : (count : ℕ) (why : Option (Reason X)) (detailed : Bool) (more : List ℕ) → HasReason {X = Y} config records (No count) why
      → IsMoreBy config (plain (first_in why) false) session places why detailed more
      → TellsWhyNot config (judge_style records) session places (take count records) (take (count + 1) records) more ⊎ (more ≡ no_memory_line)
  more_of_no count None detailed more has is = inr is
  more_of_no count (Some reason) false more has is = inr is
  more_of_no count (Some reason) true more has is =
      inl (subst (λ (n : ℕ). TellsWhyNot config (plain n false) session places (take count records) (take (count + 1) records) more)
      (first_before count reason reason.impossible has.0 has.1) (why_not config (plain (first_in (Some reason)) false) session places Y records count reason more has is))

  more_of_unfinished : (why : Option (Reason X)) (detailed : Bool) (more : List ℕ) → HasReason {X = Y} config records Unfinished why
      → IsMoreBy config (plain (first_in why) false) session places why detailed more
      → TellsWhy config (judge_style records) session None places records None more ⊎ (more ≡ no_memory_line)
  more_of_unfinished None detailed more has is = inr is
  more_of_unfinished (Some reason) false more has is = inr is
  more_of_unfinished (Some reason) true more has is =
      inl (subst (λ (n : ℕ). TellsWhy config (plain n false) session None places records None more)
      (first_of_all reason reason.impossible has.1 has.0) (why_unfinished config (plain (first_in (Some reason)) false) session places Y records reason more has is))

-- explained, or told without its reason
says : {X Y : Type 0} (config : Config) (records : List ShownRecord) (micros : List (Option ℕ)) (skipped : Skipped) (verdict : Verdict X) (why : Option (Reason Y)) (detailed : Bool) (totals : Totals) (more text : List ℕ)
    → IsVerdict config records verdict → HasReason config records verdict why → AreSummed records verdict totals.tally totals.seen → totals.skipped ≡ skipped
    → AreKeptFor micros why totals.fractions → IsMoreOf config (Ok verdict) why detailed totals more → text ≡ verdict_text verdict ++ more
    → SaysExplained config records micros skipped text (verdict_status verdict) ⊎ SaysUnexplained config records text (verdict_status verdict)
says config records micros skipped (Yes ends) why detailed totals more text is has sums skips kept tells whole = inl record {
  first = verdict_text (Yes ends);
  more = more;
  says = inl record { ends = map end_value ends.items; some = is.0; lists = is.1; prints = refl; tells = refl };
  explains = tells ∙ ap (λ (t : Tally). yes_lines t (Some totals.skipped) totals.seen.left_idle) sums.0
      ∙ ap (λ (v : Seen). yes_lines (tally_of records) (Some totals.skipped) v.left_idle) sums.1
      ∙ ap (λ (k : Skipped). yes_lines (tally_of records) (Some k) (seen_in records).left_idle) skips;
  whole = whole;
}
says {X} {Y} config records micros skipped (No count) why detailed totals more text is has sums skips kept tells whole =
    elim (more_of_no config config.parts.session (counted_places micros) X records count why detailed more has
    (by_all config (plain (first_in why) false) config.parts.session micros totals.fractions why detailed more kept tells)) [
      | inl why_not ↦ inl record {
        first = verdict_text {X = X} (No count);
        more = more;
        says = inr (inl record { count = count; within = is.0; before = is.1; behind = is.2; prints = refl; tells = refl });
        explains = why_not;
        whole = whole;
      }
      | inr none ↦ inr record {
        first = verdict_text {X = X} (No count);
        says = inr (inl record { count = count; within = is.0; before = is.1; behind = is.2; prints = refl; tells = refl });
        no_yes = λ (e : 1 ≡ 0). omega (arith, e);
        whole = whole ∙ ap (λ (m : List ℕ). verdict_text {X = X} (No count) ++ m) none;
      }
    ]
says {X} {Y} config records micros skipped Unfinished why detailed totals more text is has sums skips kept tells whole =
    elim (more_of_unfinished config config.parts.session (counted_places micros) X records why detailed more has
    (by_all config (plain (first_in why) false) config.parts.session micros totals.fractions why detailed more kept tells)) [
      | inl may ↦ inl record {
        first = verdict_text {X = X} Unfinished;
        more = more;
        says = inr (inr record { begins = is.0; none = is.1; prints = refl; tells = refl });
        explains = may;
        whole = whole;
      }
      | inr none ↦ inr record {
        first = verdict_text {X = X} Unfinished;
        says = inr (inr record { begins = is.0; none = is.1; prints = refl; tells = refl });
        no_yes = λ (e : 2 ≡ 0). omega (arith, e);
        whole = whole ∙ ap (λ (m : List ℕ). verdict_text {X = X} Unfinished ++ m) none;
      }
    ]

module _ {R : Type 0} (gives : R → R → List ℕ → Type 0) (has_ended : R → Bool) (counts : R → ℕ) (config : Config)
    (source source' : R) (may_lack : Config → List ShownRecord → ShownRecord → Type 0) where
  same_count : counts source' ≡ counts source + 0 → counts source' ≡ counts source
  same_count counted = omega arith

  -- a verdict that is explained, or told without its reason
  pub verdict_told : {X Y : Type 0} (verdict : Verdict X) (why : Option (Reason Y)) (totals : Totals) (text : List ℕ) (status : ℕ)
      → (is : IsExplained gives has_ended config source source' may_lack verdict why totals) → counts source' ≡ counts source + 0
      → SaysExplained config is.records (micros_of is.spells.pieces) (skipped_of is.spells.pieces) text status ⊎ SaysUnexplained config is.records text status
      → TellsExplained gives has_ended counts config source source' text status
      ⊎ TellsFault gives has_ended counts config source source' may_lack text status
      ⊎ TellsVerdict gives has_ended counts config source source' text status
  verdict_told verdict why totals text status is counted (inl explained) = inl record {
    octets = is.octets;
    records = is.records;
    gave = is.gave;
    ended = is.ended;
    spells = is.spells;
    says = explained;
    counted = same_count counted;
  }
  verdict_told verdict why totals text status is counted (inr unexplained) = inr (inr record {
    octets = is.octets;
    records = is.records;
    gave = is.gave;
    ended = is.ended;
    spells = is.spells;
    says = unexplained;
    counted = same_count counted;
  })

  pub no_fault_told : {X Y : Type 0} (verdict : Verdict X) (why : Option (Reason Y)) (totals : Totals) (text : List ℕ) (status : ℕ)
      → (is : IsExplained gives has_ended config source source' may_lack verdict why totals) → (counted : counts source' ≡ counts source + 0)
      → (said : SaysExplained config is.records (micros_of is.spells.pieces) (skipped_of is.spells.pieces) text status ⊎ SaysUnexplained config is.records text status)
      → None ≡ fault_told (verdict_told verdict why totals text status is counted said)
  unfolding verdict_told
  no_fault_told verdict why totals text status is counted (inl explained) = refl
  no_fault_told verdict why totals text status is counted (inr unexplained) = refl

  -- what is explained is told by its text and status, or without its reason
  tells_it : {X Y : Type 0} (answer : Result (Verdict X) CaptureFault) (why : Option (Reason Y)) (detailed : Bool) (totals : Totals) (more text : List ℕ)
      → ExplainsBy gives has_ended config source source' may_lack answer why totals → counts source' ≡ counts source + failures_of answer → IsMoreOf config answer why detailed totals more
      → text ≡ answer_text answer ++ more
      → TellsExplained gives has_ended counts config source source' text (answer_status answer)
      ⊎ TellsFault gives has_ended counts config source source' may_lack text (answer_status answer)
      ⊎ TellsVerdict gives has_ended counts config source source' text (answer_status answer)
  tells_it (Ok verdict) why detailed totals more text is counted tell whole =
      verdict_told verdict why totals text (verdict_status verdict) is counted
      (says config is.records (micros_of is.spells.pieces) (skipped_of is.spells.pieces) verdict why detailed totals more text is.verdict is.reason is.summed is.skips is.fractions tell whole)
  tells_it (Err fault) why detailed totals more text is counted tell whole = inr (inl record {
    fault = fault;
    why = is.0;
    prints = whole ∙ ap (λ (m : List ℕ). refused_line fault.kind fault.offset ++ m) tell ∙ append-nil (refused_line fault.kind fault.offset);
    tells = refl;
    counted = counted;
  })

  pub tells : {X : Type 0} (explained : Explained X) (detailed : Bool) (text : List ℕ) → Explains gives has_ended config source source' may_lack explained
      → counts source' ≡ counts source + failures_of explained.answer → IsExplainedText config explained detailed text
      → TellsExplained gives has_ended counts config source source' text (answer_status explained.answer)
      ⊎ TellsFault gives has_ended counts config source source' may_lack text (answer_status explained.answer)
      ⊎ TellsVerdict gives has_ended counts config source source' text (answer_status explained.answer)
  tells explained detailed text is counted said =
      tells_it explained.answer explained.reason detailed explained.totals said.more text is counted said.is_more said.whole

  -- a record that is kept can be put
  can_put : {X Y : Type 0} (answer : Result (Verdict X) CaptureFault) (why : Option (Reason Y)) (totals : Totals) → ExplainsBy gives has_ended config source source' may_lack answer why totals
      → CanBePutOf config.parts.session why
  can_put (Ok verdict) why totals is =
      can_of config.parts.session config is.records verdict why
      (subst (λ (rs : List ShownRecord). AllByRecursion (Can config.parts.session) rs) (sym is.spells.shown) (each_can config.parts.session None is.spells.pieces is.spells.text.each)) is.reason
  can_put (Err fault) why octets is = subst (λ (w : Option (Reason _)). CanBePutOf config.parts.session w) (sym is.1) tt

pub can_be_put : {S X : Type 0} (gives : S → S → List ℕ → Type 0) (has_ended : S → Bool) (config : Config) (source new : S)
    (may_lack : Config → List ShownRecord → ShownRecord → Type 0) (reader : ReaderState) (explained : Explained X)
    → ReadsWith gives config.parts.session source new reader (fault_in explained.answer) (λ given. Explains given has_ended config source new may_lack explained)
    → CanBePutOf config.parts.session explained.reason
can_be_put gives has_ended config source new may_lack reader explained (by, ends) =
    can_put (λ from to octets. octets ≡ joined by.pieces ++ by.rest) has_ended (λ s. 0) config source new may_lack explained.answer explained.reason explained.totals by.holds

-- Of a source that is seen as another, what was explained is explained of that one.
module _ {F R : Type 0} (view : F → R) (has_ended : R → Bool) (config : Config) (source source' : F)
    (may_lack : Config → List ShownRecord → ShownRecord → Type 0) (octets : List ℕ) where
  refusal_viewed : (fault : CaptureFault) → IsRefusal (λ from to some. some ≡ octets) (λ state. has_ended (view state)) config source source' may_lack fault
      → IsRefusal (λ from to some. some ≡ octets) has_ended config (view source) (view source') may_lack fault
  refusal_viewed fault (inl is) = inl record {
    octets = is.octets;
    records = is.records;
    gave = is.gave;
    first = is.first;
  }
  refusal_viewed fault (inr (inl is)) = inr (inl record {
    pieces = is.pieces;
    rest = is.rest;
    gave = is.gave;
    each = is.each;
    kind = is.kind;
    offset = is.offset;
    begun = is.begun;
  })
  refusal_viewed fault (inr (inr is)) = inr (inr record {
    pieces = is.pieces;
    rest = is.rest;
    gave = is.gave;
    each = is.each;
    kind = is.kind;
    offset = is.offset;
    place = is.place;
  })

  pub viewed : {X Y : Type 0} (answer : Result (Verdict X) CaptureFault) (why : Option (Reason Y)) (totals : Totals)
      → ExplainsBy (λ from to some. some ≡ octets) (λ state. has_ended (view state)) config source source' may_lack answer why totals
      → ExplainsBy (λ from to some. some ≡ octets) has_ended config (view source) (view source') may_lack answer why totals
  viewed (Ok verdict) why totals is = record {
    count = is.count;
    confederation = is.confederation;
    left_out = is.left_out;
    summed = is.summed;
    skips = is.skips;
    fractions = is.fractions;
    octets = is.octets;
    records = is.records;
    gave = is.gave;
    ended = is.ended;
    spells = is.spells;
    verdict = is.verdict;
    reason = is.reason;
  }
  viewed (Err fault) why totals is = (refusal_viewed fault is.0, is.1)

-- the status of a verdict is one of three, and that of a fault none of them
verdict_below : {X : Type 0} (verdict : Verdict X) → verdict_status verdict < 3
verdict_below (Yes ends) = omega arith
verdict_below (No count) = omega arith
verdict_below Unfinished = omega arith

fault_above : (kind : FaultKind) → status_by kind < 3 → ⊥
fault_above kinds.Truncated less = omega (arith, less)
fault_above kinds.TooLong less = omega (arith, less)
fault_above kinds.Body less = omega (arith, less)
fault_above kinds.BadState less = omega (arith, less)
fault_above kinds.NotAMessage less = omega (arith, less)
fault_above kinds.TimeBack less = omega (arith, less)
fault_above kinds.RouteRefresh less = omega (arith, less)
fault_above kinds.AddPath less = omega (arith, less)
fault_above kinds.Device less = omega (arith, less)
fault_above kinds.Memory less = omega (arith, less)

-- what is lacking in records of which all is seen
pub same_lacking : (code : ℕ) (seen : Seen) (records : List ShownRecord) → (code ≡ 0 → seen ≡ seen_in records)
    → lacking_by (code == 0) seen ≡ lacking_in code records
same_lacking zero seen records shows = ap (λ (s : Seen). lacking_by true s) (shows refl)
same_lacking (suc code) seen records shows =
    let no = eqb-suc-zero code in ap (λ (b : Bool). lacking_by b seen) no ∙ sym (ap (λ (b : Bool). lacking_by b (seen_in records)) no)

-- What was read by a reader of captures, and what is told of it.
module _ {R W : Type 0} (form : VerdictForm) (takes : W → W → List ℕ → Type 0) (failures : W → ℕ) (gives : R → R → List ℕ → Type 0)
    (has_ended : R → Bool) (counts : R → ℕ) (config : Config) (source source' : R)
    (may_lack : Config → List ShownRecord → ShownRecord → Type 0) (sink sink' : W) where
  pub record ToldOf (reader : ReaderState) (status : ℕ) (first : List ℕ) (refused : Option CaptureFault) (seen : Seen) (confederation : Bool) (left_out : LeftOut) : Type 0 where
    pub read : ReadBy gives config.parts.session source source' reader
        (λ given. ExplainsCapture form given has_ended takes counts failures config source source' may_lack sink sink' status)
    pub ends : EndsBy read.pieces read.rest (fault_told read.holds.answer)
    pub front : first ≡ kept (joined read.pieces ++ read.rest)
    pub fault : refused ≡ fault_told read.holds.answer
    pub lacking : lacking_by (read.holds.code == 0) seen ≡ lacking_in read.holds.code (records_of read.pieces)
    pub is_of_one : IsTrue confederation ↔ IsOfConfederation read.holds.code (records_of read.pieces)
    pub is_left_out : IsLeftOutBy config read.holds.code (records_of read.pieces) left_out

-- And it is told of just the octets of which a reader of captures knows all pieces.
module _ {F R W : Type 0} (view : F → R) (form : VerdictForm) (takes : W → W → List ℕ → Type 0) (failures : W → ℕ) (gives : R → R → List ℕ → Type 0)
    (has_ended : R → Bool) (counts : R → ℕ) (config : Config) (source source' : F)
    (may_lack : Config → List ShownRecord → ShownRecord → Type 0) (sink sink' : W) where
  told_in : {X Y : Type 0} (given : R → R → List ℕ → Type 0) (answer : Result (Verdict X) CaptureFault) (why : Option (Reason Y)) (detailed : Bool) (totals : Totals) (more text : List ℕ)
      → (is : ExplainsBy given has_ended config (view source) (view source') may_lack answer why totals)
      → (counted : counts (view source') ≡ counts (view source) + failures_of answer) (tell : IsMoreOf config answer why detailed totals more) (whole : text ≡ answer_text answer ++ more)
      → fault_in answer ≡ fault_told (tells_it given has_ended counts config (view source) (view source') may_lack answer why detailed totals more text is counted tell whole)
  unfolding tells_it
  told_in given (Ok verdict) why detailed totals more text is counted tell whole =
      no_fault_told given has_ended counts config (view source) (view source') may_lack verdict why totals text (verdict_status verdict) is counted
      (says config is.records (micros_of is.spells.pieces) (skipped_of is.spells.pieces) verdict why detailed totals more text is.verdict is.reason is.summed is.skips is.fractions tell whole)
  told_in given (Err fault) why detailed totals more text is counted tell whole = refl

  told_at : {X : Type 0} (given : R → R → List ℕ → Type 0) (explained : Explained X) (detailed : Bool) (text : List ℕ)
      → (is : Explains given has_ended config (view source) (view source') may_lack explained)
      → (counted : counts (view source') ≡ counts (view source) + failures_of explained.answer) (said : IsExplainedText config explained detailed text)
      → fault_in explained.answer ≡ fault_told (tells given has_ended counts config (view source) (view source') may_lack explained detailed text is counted said)
  unfolding tells
  told_at given explained detailed text is counted said =
      told_in given explained.answer explained.reason detailed explained.totals said.more text is counted said.is_more said.whole

  -- what the records show is known where the verdict is yes
  pub shows : {X : Type 0} (explained : Explained X) (pieces : List Piece) (rest : List ℕ)
      → ExplainsBy (λ from to some. some ≡ joined pieces ++ rest) has_ended config (view source) (view source') may_lack explained.answer explained.reason explained.totals
      → ArePieces config.parts.session None pieces → EndsBy pieces rest (fault_in explained.answer) → answer_status explained.answer ≡ 0
      → explained.totals.seen ≡ seen_in (records_of pieces)
  shows explained pieces rest is each ends naught =
      go explained.answer explained.reason explained.totals is ends naught where
        go : {X Y : Type 0} (answer : Result (Verdict X) CaptureFault) (why : Option (Reason Y)) (totals : Totals)
            → ExplainsBy (λ from to some. some ≡ joined pieces ++ rest) has_ended config (view source) (view source') may_lack answer why totals
            → EndsBy pieces rest (fault_in answer) → answer_status answer ≡ 0 → totals.seen ≡ seen_in (records_of pieces)
        go (Ok (Yes ends)) why totals is none naught =
            let octets : is.octets ≡ joined pieces = is.gave ∙ ap (λ (o : List ℕ). joined pieces ++ o) none ∙ append-nil (joined pieces) in
            is.summed.1 ∙ ap seen_in (one_spelling config.parts.session (joined pieces) is.records (records_of pieces)
            (subst (λ (o : List ℕ). Spells config.parts.session o is.records) octets is.spells) (spelled config pieces each))
        go (Ok (No count)) why totals is none naught = absurd (let e : 1 ≡ 0 = naught in omega (arith, e))
        go (Ok Unfinished) why totals is none naught = absurd (let e : 2 ≡ 0 = naught in omega (arith, e))
        go (Err fault) why totals is none naught = fault_is_no_yes fault (totals.seen ≡ seen_in (records_of pieces)) naught

  -- whether they are of a confederation is known where there is a verdict
  pub is_of_one : {X : Type 0} (explained : Explained X) (pieces : List Piece) (rest : List ℕ)
      → ExplainsBy (λ from to some. some ≡ joined pieces ++ rest) has_ended config (view source) (view source') may_lack explained.answer explained.reason explained.totals
      → ArePieces config.parts.session None pieces → EndsBy pieces rest (fault_in explained.answer)
      → IsTrue (confederation_in explained.answer explained.totals) ↔ IsOfConfederation (answer_status explained.answer) (records_of pieces)
  is_of_one explained pieces rest is each ends =
      go explained.answer explained.reason explained.totals is ends where
        go : {X Y : Type 0} (answer : Result (Verdict X) CaptureFault) (why : Option (Reason Y)) (totals : Totals)
            → ExplainsBy (λ from to some. some ≡ joined pieces ++ rest) has_ended config (view source) (view source') may_lack answer why totals
            → EndsBy pieces rest (fault_in answer) → IsTrue (confederation_in answer totals) ↔ IsOfConfederation (answer_status answer) (records_of pieces)
        go (Ok verdict) why totals is none =
            let octets : is.octets ≡ joined pieces = is.gave ∙ ap (λ (o : List ℕ). joined pieces ++ o) none ∙ append-nil (joined pieces) in
            let same : is.records ≡ records_of pieces =
            one_spelling config.parts.session (joined pieces) is.records (records_of pieces)
            (subst (λ (o : List ℕ). Spells config.parts.session o is.records) octets is.spells) (spelled config pieces each) in (
              λ flag. (verdict_below verdict, subst SomeShowConfederations same (is.confederation.0 flag)),
              λ one. is.confederation.1 (subst SomeShowConfederations (sym same) one.1),
            )
        go (Err fault) why totals is none = (λ flag. absurd (let k : ⊥ = cc in k), λ one. absurd (fault_above fault.kind one.0))

  -- and so is what was left out of what both OPENs offer
  pub is_left_out : {X : Type 0} (explained : Explained X) (pieces : List Piece) (rest : List ℕ)
      → ExplainsBy (λ from to some. some ≡ joined pieces ++ rest) has_ended config (view source) (view source') may_lack explained.answer explained.reason explained.totals
      → ArePieces config.parts.session None pieces → EndsBy pieces rest (fault_in explained.answer)
      → IsLeftOutBy config (answer_status explained.answer) (records_of pieces) (left_out_in explained.answer explained.totals)
  is_left_out explained pieces rest is each ends =
      go explained.answer explained.reason explained.totals is ends where
        go : {X Y : Type 0} (answer : Result (Verdict X) CaptureFault) (why : Option (Reason Y)) (totals : Totals)
            → ExplainsBy (λ from to some. some ≡ joined pieces ++ rest) has_ended config (view source) (view source') may_lack answer why totals
            → EndsBy pieces rest (fault_in answer) → IsLeftOutBy config (answer_status answer) (records_of pieces) (left_out_in answer totals)
        go (Ok verdict) why totals is none =
            let octets : is.octets ≡ joined pieces = is.gave ∙ ap (λ (o : List ℕ). joined pieces ++ o) none ∙ append-nil (joined pieces) in
            let same : is.records ≡ records_of pieces =
            one_spelling config.parts.session (joined pieces) is.records (records_of pieces)
            (subst (λ (o : List ℕ). Spells config.parts.session o is.records) octets is.spells) (spelled config pieces each) in
            let below = verdict_below verdict in
            record {
              verdict = λ b. subst (λ (r : List ShownRecord). JudgesWithout config r totals.left_out) same is.left_out;
              none = λ above. absurd (omega (arith, below, above));
            }
        go (Err fault) why totals is none = record { verdict = λ below. absurd (fault_above fault.kind below); none = λ above. refl }

  -- and the source keeps its front
  pub explains_read : {X : Type 0} (front_of : F → List ℕ) (reader : ReaderState) (explained : Explained X) (status : ℕ) (refused : Option CaptureFault)
      → front_of source ≡ []
      → ReadsWith (λ from to some. gives (view from) (view to) some × (front_of to ≡ kept (front_of from ++ some))) config.parts.session source source' reader
      (fault_in explained.answer) (λ given. Explains given (λ state. has_ended (view state)) config source source' may_lack explained)
      → counts (view source') ≡ counts (view source) + failures_of explained.answer
      → (text : List ℕ) × (detailed : Bool) × IsExplainedText config explained detailed text × IsWrittenIn form takes failures text (answer_status explained.answer) sink sink' status
      → refused ≡ fault_in explained.answer
      → ToldOf form takes failures gives has_ended counts config (view source) (view source') may_lack sink sink' reader status (front_of source') refused
      explained.totals.seen (confederation_in explained.answer explained.totals) (left_out_in explained.answer explained.totals)
  explains_read front_of reader explained status refused nothing (by, ends) counted (text, detailed, said, wrote) is =
      let code = answer_status explained.answer in
      let octets = joined by.pieces ++ by.rest in
      let given = λ (from to : R) (some : List ℕ). some ≡ octets in
      let seen = viewed view has_ended config source source' may_lack octets explained.answer explained.reason explained.totals by.holds in
      let told = told_at given explained detailed text seen counted said in record {
        read = record {
          pieces = by.pieces;
          rest = by.rest;
          knows = by.knows;
          gave = by.gave.0;
          each = by.each;
          holds = record {
            text = text;
            code = code;
            answer = tells given has_ended counts config (view source) (view source') may_lack explained detailed text seen counted said;
            wrote = wrote;
          };
        };
        ends = subst (λ (f : Option CaptureFault). EndsBy by.pieces by.rest f) told ends;
        front = by.gave.1 ∙ ap (λ (o : List ℕ). kept (o ++ octets)) nothing;
        fault = is ∙ told;
        lacking = same_lacking code explained.totals.seen (records_of by.pieces) (shows explained by.pieces by.rest seen by.each ends);
        is_of_one = is_of_one explained by.pieces by.rest seen by.each ends;
        is_left_out = is_left_out explained by.pieces by.rest seen by.each ends;
      }

-- what is explained of octets that were given is explained of what was given
module _ {S : Type 0} (has_ended : S → Bool) (config : Config) (source new : S) (may_lack : Config → List ShownRecord → ShownRecord → Type 0)
    (just gives : S → S → List ℕ → Type 0)
    (given : (octets : List ℕ) → just source new octets → gives source new octets) where
  refusal_given : (fault : CaptureFault) → IsRefusal just has_ended config source new may_lack fault → IsRefusal gives has_ended config source new may_lack fault
  refusal_given fault (inl is) = inl record {
    octets = is.octets;
    records = is.records;
    gave = given is.octets is.gave;
    first = is.first;
  }
  refusal_given fault (inr (inl is)) = inr (inl record {
    pieces = is.pieces;
    rest = is.rest;
    gave = given (joined is.pieces ++ is.rest) is.gave;
    each = is.each;
    kind = is.kind;
    offset = is.offset;
    begun = is.begun;
  })
  refusal_given fault (inr (inr is)) = inr (inr record {
    pieces = is.pieces;
    rest = is.rest;
    gave = given (joined is.pieces ++ is.rest) is.gave;
    each = is.each;
    kind = is.kind;
    offset = is.offset;
    place = is.place;
  })

  explains_given : {X Y : Type 0} (answer : Result (Verdict X) CaptureFault) (why : Option (Reason Y)) (totals : Totals) → ExplainsBy just has_ended config source new may_lack answer why totals
      → ExplainsBy gives has_ended config source new may_lack answer why totals
  explains_given (Ok verdict) why totals is = record {
    count = is.count;
    confederation = is.confederation;
    left_out = is.left_out;
    summed = is.summed;
    skips = is.skips;
    fractions = is.fractions;
    octets = is.octets;
    records = is.records;
    gave = given is.octets is.gave;
    ended = is.ended;
    spells = is.spells;
    verdict = is.verdict;
    reason = is.reason;
  }
  explains_given (Err fault) why totals is = (refusal_given fault is.0, is.1)

module _ {R W : Type 0} (form : VerdictForm) (takes : W → W → List ℕ → Type 0) (failures : W → ℕ) (gives : R → R → List ℕ → Type 0) (has_ended : R → Bool) (counts : R → ℕ)
    (config : Config) (source source' : R) (may_lack : Config → List ShownRecord → ShownRecord → Type 0) (sink sink' : W) where
  pub explains_capture : {X : Type 0} (reader : ReaderState) (explained : Explained X) (status : ℕ)
      → ReadsWith gives config.parts.session source source' reader (fault_in explained.answer) (λ given. Explains given has_ended config source source' may_lack explained)
      → counts source' ≡ counts source + failures_of explained.answer
      → (text : List ℕ) × (detailed : Bool) × IsExplainedText config explained detailed text × IsWrittenIn form takes failures text (answer_status explained.answer) sink sink' status
      → ExplainsCapture form gives has_ended takes counts failures config source source' may_lack sink sink' status
  explains_capture reader explained status (by, ends) counted (text, detailed, said, wrote) = record {
    text = text;
    code = answer_status explained.answer;
    answer = tells gives has_ended counts config source source' may_lack explained detailed text
        (explains_given has_ended config source source' may_lack (λ from to octets. octets ≡ joined by.pieces ++ by.rest) gives
        (λ octets is. subst (λ (o : List ℕ). gives source source' o) (sym is) by.gave) explained.answer explained.reason explained.totals by.holds)
        counted said;
    wrote = wrote;
  }
