-- Each mark of a recording has its answer in what is printed.
use Rattle.std.proofs.Common.{◌≡◌, ◌∙◌, ◌+◌, ◌++◌, ◌&&◌, ℕ, Bool, true, false, List, [], ◌∷◌, Option, None, Some, append-nil, append_assoc, ap, ap₂, codes, if◌then◌else◌, map, refl, subst, sym}
use Rattle.std.specs.List.{AllByRecursion}
use Rattle.std.proofs.lemmas.List.{map-append}
use Rattle.std.specs.Prelude.{IfSome}
use Rattle.std.proofs.lemmas.Grind.{flat_map-append}
use Rattle.segments.specs.declared.found.Endpoint.{Endpoint}
use Rattle.bgp_prefix.specs.Shown.{ShownRecord}
use Rattle.bgp_prefix.specs.declared.session.Session.{Session}
use Rattle.bgp_wire.specs.declared.header.Limit.{Limit}
use Rattle.bgp_judge.specs.Verdict.{No, Unfinished, VerdictValue, Yes}
use Rattle.bgp_recording.specs.Captured.{records_of}
use Rattle.bgp_import.specs.ListText.{end_of, other_side}
use Rattle.bgp_import.specs.declared.cut_short.CutShort.{CutShort}
use Rattle.bgp_import.specs.declared.refusal.Refusal.{Refusal}
use Rattle.bgp_html.specs.Taking.{HasNoEnd}
use Rattle.bgp_html.specs.Noted.{is_answer}
use Rattle.bgp_html.specs.declared.printed.Kind.TheVariants as kinds
use Rattle.bgp_check.specs.Answered.{AnswerValue, JudgedAs, Unjudged}
use Rattle.bgp_check.specs.declared.peer_as.PeerAs.{PeerAs}
use Rattle.bgp_why.specs.declared.endpoint.Endpoint.{Endpoint as NamedEnd}
use Rattle.bgp_why.specs.declared.place.Place.{Place}
use Rattle.bgp_check_text.specs.Quiet.{is_left_out}
use Rattle.bgp_check_text.specs.States.{routes_if}
use Rattle.bgp_check_text.specs.Tally.{is_empty}
use Rattle.bgp_check_text.specs.Text.{no_line, unfinished_line, yes_line}
use Rattle.bgp_check_text.specs.declared.options.JudgeOptions.{JudgeOptions}
use Rattle.bgp_check_text.specs.declared.quiet.Printing.{Printing}
use Rattle.bgp_check_text.specs.declared.tally.Tally.{Tally}
use Rattle.bgp_check_lines.specs.Values.{nothing_at_line}
use Rattle.bgp_list.specs.Connections.{connection_text}
use Rattle.bgp_check_tool.specs.Blocks.{AllRefused, Block, BothEnds, OneEnd, Refused, are_left_out, block_text, both_text, kept_lines, neither_text}
use Rattle.bgp_check_tool.specs.Checking.{blocks_text, cut_note, file_text, nothing_text}
use Rattle.bgp_check_tool.specs.Elsewhere.{IsOther, in_none}
use Rattle.bgp_check_tool.specs.Judging.{judge_text}
use Rattle.bgp_check_tool.specs.Late.{is_late_yes, late_text}
use Rattle.bgp_check_tool.specs.Marks.{block_marks, end_mark, mark_by, marks_of}
use Rattle.bgp_check_tool.specs.Marks as marks
use Rattle.bgp_check_tool.specs.Text.{after_no, after_unfinished, after_yes, another_text, answer_text, deed_by, in_made_text, name_of, named_end, one_end_line, one_unless, order_text, told_lines, unfinished_text, verdict_text}
use Rattle.bgp_check_tool.specs.Told.{EndTold, peer_end}
use Rattle.bgp_check_tool.specs.declared.another.Order.{Order}
use Rattle.bgp_check_tool.specs.declared.another.Order.TheVariants as orders
use Rattle.bgp_check_tool.specs.declared.marks.BothMarks.{BothMarks}
use Rattle.bgp_check_tool.specs.declared.marks.EndMark.{EndMark}
use Rattle.bgp_check_laws.specs.Deeds.{DeedsAreVisible, SentDeedsAreVisible}
use Rattle.bgp_answer_laws.specs.Answers.{Answer, Says, Tells, possible_lines}
use Rattle.bgp_answer_laws.specs.Ends.{EachMarkHasItsAnswer, HasLines, HaveLines, ToldEndsHaveLines, answer_by, block_pairs, end_pairs, judged_pair, mark_if, marks_in, pairs_of, printed_text}
use Rattle.bgp_answer_laws.proofs.Heads.{connection_says, refused_between_says, refused_connection_says, refused_says}
use Rattle.bgp_answer_laws.proofs.Lines.{IsPlain, answers_are, behind, both, ends, none_both, nothing, says_aside, says_both, says_nothing, tells_answer, tells_both, tells_nothing, word}
use Rattle.bgp_answer_laws.proofs.Plain.{plain}
use Rattle.bgp_answer_laws.proofs.Reasons.{reasons_are_lines}
use Rattle.bgp_answer_laws.proofs.Times as times
use Rattle.bgp_answer_laws.proofs.Verdicts.{all_orders_say, another_order_says, cut_short_says, in_made_says, judge_says, last_says, late_says, no_kind, no_whole, not_judged_says, nothing_says, one_order_says, routes_if_say, unfinished_kind, unfinished_whole, unshown_say, yes_kind, yes_whole}

-- ---- what an end's lines are made of

-- the type of a field, which has no name here
abbrev TypeOf : {A : Type 0} → A → Type 0
TypeOf {A} a = A

of_other : (told : EndTold) → SentDeedsAreVisible → (session : Session) (sent : Limit) (peer : NamedEnd) (records : List ShownRecord) (found : TypeOf told.found) (place : Option Place) (other : Option (List ℕ))
    → IsOther session sent peer records found place other → IfSome other HasNoEnd
of_other told sent_deeds session sent peer records None place other is = subst (λ (o : Option (List ℕ)). IfSome o HasNoEnd) (sym is) tt
of_other told sent_deeds session sent peer records (Some found) None other is = subst (λ (o : Option (List ℕ)). IfSome o HasNoEnd) (sym is) tt
of_other told sent_deeds session sent peer records (Some found) (Some place) None is = tt
of_other told sent_deeds session sent peer records (Some found) (Some place) (Some other) is =
    subst HasNoEnd (sym is.is) (in_none_plain is.deed (plain (sent_deeds session sent peer is.form found.message.second found.message.octets.now is.deed is.is_deed))).none
  where
    in_none_plain : (deed : List ℕ) → IsPlain deed → IsPlain (in_none deed)
    in_none_plain [] its = nothing
    in_none_plain (x ∷ deed) its = both its (word (codes ", as in no order that these packets allow") refl)

pub ends_have_lines : DeedsAreVisible → SentDeedsAreVisible → ToldEndsHaveLines
ends_have_lines deeds sent_deeds options asked end session connection told is all = record {
  deed = (plain (deeds session is.framings.sent.limit _ true (peer_end session connection) _ is.instead (records_of is.entries) is.about told.deed told.reason all is.explains)).none;
  other = of_other told sent_deeds session is.framings.sent.limit (peer_end session connection) (records_of is.entries) told.found told.in_made told.other is.is_other;
  reason = reasons_are_lines session is.framings.sent.limit _ true (peer_end session connection) _ is.instead (records_of is.entries) is.about told.deed told.reason all is.explains;
}

-- ---- the lines behind a verdict

judge_if : (options : Option JudgeOptions) → Says (judge_text options) []
judge_if None = says_nothing
judge_if (Some options) = judge_says options

late_if : (told : EndTold) (within : ℕ) (late : TypeOf told.late) → Says (late_text within late) []
late_if told within None = says_nothing
late_if told within (Some late) = late_says within (is_late_yes late)

another_if : (order : Order) → Says (another_text order) []
another_if orders.Made = says_nothing
another_if orders.Another = another_order_says
another_if orders.All = says_nothing

order_if : (told : EndTold) (count : ℕ) (found : TypeOf told.found) → Says (order_text count found) []
order_if told count None = one_order_says count
order_if told count (Some found) = says_nothing

unless : (over_all : Bool) (put_off : ℕ) → Says (one_unless over_all put_off) []
unless false put_off = one_order_says put_off
unless true put_off = says_nothing

unfinished_if : (order : Order) (over_all : Bool) (put_off : ℕ) → Says (unfinished_text order over_all put_off) []
unfinished_if orders.Made over_all put_off = unless over_all put_off
unfinished_if orders.Another over_all put_off = unless over_all put_off
unfinished_if orders.All over_all put_off = all_orders_say

in_made_if : (first : ℕ) (deed : List ℕ) (place : Option Place) → HasNoEnd deed → Says (in_made_text first deed place) []
in_made_if first deed None none = says_nothing
in_made_if first deed (Some place) none = in_made_says first deed place record { none = none }

-- lines that say what could have come, with others around them
around : (before its after possible : List ℕ) → Says before [] → Says its possible → Says after [] → Says (before ++ (its ++ after)) possible
around before its after possible first second third =
    says_both before (its ++ after) [] possible first
    (subst (λ (p : List ℕ). Says (its ++ after) p) (append-nil possible) (says_both its after possible [] second third))

deed_plain : (deed : List ℕ) (other : Option (List ℕ)) → HasNoEnd deed → IfSome other HasNoEnd → IsPlain (deed_by deed other)
deed_plain deed None none also = record { none = none }
deed_plain deed (Some other) none also = record { none = also }

yes_after : (told : EndTold) → Says (after_yes told) []
yes_after told = none_both (unshown_say told.received told.sent) (none_both (another_if told.order) (judge_if told.judge))

no_after : (told : EndTold) → HasLines told → Says (after_no told) (possible_lines told.reason)
no_after told has =
    around (in_made_text told.first told.deed told.in_made) told.reason _ (possible_lines told.reason) (in_made_if told.first told.deed told.in_made has.deed) has.reason
    (none_both (unshown_say told.received told.sent) (none_both (late_if told told.within told.late) (none_both (order_if told told.put_off told.found) (judge_if told.judge))))

unfinished_after : (told : EndTold) → HasLines told → Says (after_unfinished told) (possible_lines told.reason)
unfinished_after told has =
    around (in_made_text told.first told.deed told.in_made) told.reason _ (possible_lines told.reason) (in_made_if told.first told.deed told.in_made has.deed) has.reason
    (none_both (unshown_say told.received told.sent) (none_both (late_if told told.within told.late)
    (none_both (unfinished_if told.order told.over_all told.put_off) (judge_if told.judge))))

-- ---- the lines of an end

abbrev answers_in_pairs : List (EndMark × Answer) → List Answer
answers_in_pairs pairs = map (λ (pair : EndMark × Answer). pair.1) pairs

abbrev marks_in_pairs : List (EndMark × Answer) → List EndMark
marks_in_pairs pairs = map (λ (pair : EndMark × Answer). pair.0) pairs

verdict_tells : (routes : Bool) (told : EndTold) (peer : PeerAs) (verdict : VerdictValue) → HasLines told
    → Tells (verdict_text routes told peer verdict) (answer_by told peer verdict ∷ [])
verdict_tells routes told peer (Yes its) has =
    let line = yes_line (name_of told) peer told.reached its in
    subst (λ (t : List ℕ). Tells t (answer_by told peer (Yes its) ∷ [])) (sym (append_assoc line (routes_if routes told.reached its) (after_yes told)))
    (tells_answer line (routes_if routes told.reached its ++ after_yes told) [] (yes_whole (name_of told) peer told.reached its)
    (ap is_answer (yes_kind (name_of told) peer told.reached its))
    (none_both (routes_if_say routes told.reached its) (yes_after told)))
verdict_tells routes told peer (No count) has =
    let deed = deed_by told.deed told.other in
    tells_answer (no_line told.place (name_of told) deed) (after_no told) (possible_lines told.reason)
    (no_whole told.place (name_of told) deed (deed_plain told.deed told.other has.deed has.other)) (ap is_answer (no_kind told.place (name_of told) deed)) (no_after told has)
verdict_tells routes told peer Unfinished has =
    tells_answer (unfinished_line told.place (name_of told)) (after_unfinished told) (possible_lines told.reason)
    (unfinished_whole told.place (name_of told)) (ap is_answer (unfinished_kind told.place (name_of told))) (unfinished_after told has)

answer_tells : (routes : Bool) (told : EndTold) (answer : AnswerValue) → HasLines told
    → Tells (answer_text routes told answer) (answers_in_pairs (judged_pair told answer))
answer_tells routes told (Unjudged why) has = tells_nothing _ (not_judged_says (name_of told) why)
answer_tells routes told (JudgedAs number peer under verdict) has = verdict_tells routes told peer verdict has

end_tells : (printing : Printing) (told : EndTold) → HasLines told → Tells (kept_lines printing told) (answers_in_pairs (end_pairs printing told))
end_tells printing told has = by (is_left_out printing.quiet told.answer)
  where
    by : (left_out : Bool)
        → Tells (if left_out then [] else told_lines printing.routes told) (answers_in_pairs (if left_out then [] else judged_pair told told.answer))
    by true = tells_nothing [] says_nothing
    by false = answer_tells printing.routes told told.answer has

end_marked : (printing : Printing) (told : EndTold) → mark_if (end_mark printing told) ≡ marks_in_pairs (end_pairs printing told)
end_marked printing told = by (is_left_out printing.quiet told.answer)
  where
    of_answer : (answer : AnswerValue) → mark_if (marks.mark_if answer told) ≡ marks_in_pairs (judged_pair told answer)
    of_answer (Unjudged why) = refl
    of_answer (JudgedAs number peer under verdict) = refl

    by : (left_out : Bool)
        → mark_if (if left_out then None else marks.mark_if told.answer told) ≡ marks_in_pairs (if left_out then [] else judged_pair told told.answer)
    by true = refl
    by false = of_answer told.answer

-- ---- a block

one_end_says : (its : Endpoint) → Says (one_end_line its) []
unfolding one_end_line
one_end_says its =
    says_aside kinds.NotJudged refl refl (one_end_line its)
    (behind (word (codes "not judged: ") refl) (behind (times.end (named_end its)) (ends (word (codes ": both ends have this address and port") refl)))) refl

-- where both are left out there is no answer
none_left : (printing : Printing) (opener other : EndTold) (a b : Bool)
    → (a && b) ≡ true → ((if a then [] else judged_pair opener opener.answer) ++ (if b then [] else judged_pair other other.answer)) ≡ []
none_left printing opener other true true is = refl
none_left printing opener other true false is = absurd (let k : ⊥ = cc in k)
none_left printing opener other false b is = absurd (let k : ⊥ = cc in k)

block_tells : (printing : Printing) (block : Block) → HaveLines block → Tells (block_text printing block) (answers_in_pairs (block_pairs printing block))
block_tells printing (BothEnds session opening outline first second opener other) has = by (are_left_out printing opener other) refl
  where
    by : (left_out : Bool) → are_left_out printing opener other ≡ left_out
        → Tells (if left_out then [] else connection_text session opening outline first second ++ both_text printing opener other)
        (answers_in_pairs (end_pairs printing opener ++ end_pairs printing other))
    by true is =
        subst (λ (pairs : List (EndMark × Answer)). Tells [] (answers_in_pairs pairs))
        (sym (none_left printing opener other (is_left_out printing.quiet opener.answer) (is_left_out printing.quiet other.answer) is))
        (tells_nothing [] says_nothing)
    by false is =
        subst (λ (answers : List Answer). Tells (connection_text session opening outline first second ++ both_text printing opener other) answers)
        (sym (map-append (λ (pair : EndMark × Answer). pair.1) (end_pairs printing opener) (end_pairs printing other)))
        (tells_both _ _ [] _ (tells_nothing _ (connection_says session opening outline first second))
        (tells_both _ _ _ _ (end_tells printing opener has.0) (end_tells printing other has.1)))
block_tells printing (OneEnd session opening outline first second) has = by printing.quiet
  where
    by : (quiet : Bool) → Tells (if quiet then [] else connection_text session opening outline first second ++ neither_text session opening) []
    by true = tells_nothing [] says_nothing
    by false =
        tells_nothing _ (none_both (connection_says session opening outline first second)
        (none_both (one_end_says (end_of opening.opened_by session opening)) (one_end_says (end_of (other_side opening.opened_by) session opening))))
block_tells printing (Refused session opening refusal) has = tells_nothing _ (refused_connection_says session opening refusal)
block_tells printing (AllRefused addresses refusal) has = tells_nothing _ (refused_between_says addresses refusal)

block_marked : (printing : Printing) (block : Block) → marks_in (block_marks printing block) ≡ marks_in_pairs (block_pairs printing block)
block_marked printing (BothEnds session opening outline first second opener other) =
    append-nil (mark_if (end_mark printing opener) ++ mark_if (end_mark printing other))
    ∙ ap₂ (λ (xs ys : List EndMark). xs ++ ys) (end_marked printing opener) (end_marked printing other)
    ∙ sym (map-append (λ (pair : EndMark × Answer). pair.0) (end_pairs printing opener) (end_pairs printing other))
block_marked printing (OneEnd session opening outline first second) = refl
block_marked printing (Refused session opening refusal) = refl
block_marked printing (AllRefused addresses refusal) = refl

-- ---- all of them

blocks_tell : (printing : Printing) (blocks : List (ℕ × Block)) → AllByRecursion (λ (b : ℕ × Block). HaveLines b.1) blocks
    → Tells (blocks_text printing blocks) (answers_in_pairs (pairs_of printing blocks))
blocks_tell printing [] all = tells_nothing [] says_nothing
blocks_tell printing (block ∷ blocks) all =
    subst (λ (answers : List Answer). Tells (block_text printing block.1 ++ blocks_text printing blocks) answers)
    (sym (map-append (λ (pair : EndMark × Answer). pair.1) (block_pairs printing block.1) (pairs_of printing blocks)))
    (tells_both _ _ _ _ (block_tells printing block.1 all.0) (blocks_tell printing blocks all.1))

blocks_marked : (printing : Printing) (blocks : List (ℕ × Block)) → marks_in (marks_of printing blocks) ≡ marks_in_pairs (pairs_of printing blocks)
blocks_marked printing [] = refl
blocks_marked printing (block ∷ blocks) =
    flat_map-append (λ (both : BothMarks). mark_if both.opener ++ mark_if both.other) (block_marks printing block.1) (marks_of printing blocks)
    ∙ ap₂ (λ (xs ys : List EndMark). xs ++ ys) (block_marked printing block.1) (blocks_marked printing blocks)
    ∙ sym (map-append (λ (pair : EndMark × Answer). pair.0) (block_pairs printing block.1) (pairs_of printing blocks))

file_says : (refusal : Option Refusal) → Says (file_text refusal) []
file_says None = says_nothing
file_says (Some refusal) = refused_says refusal

cut_says : (quiet : Bool) (cut_short : Option CutShort) → Says (cut_note quiet cut_short) []
cut_says quiet None = says_nothing
cut_says true (Some cut) = says_nothing
cut_says false (Some cut) = cut_short_says (cut.before + 1)

none_says : (port : ℕ) (tally : Tally) → Says (nothing_text port tally) []
none_says port tally = by (is_empty tally)
  where
    by : (empty : Bool) → Says (if empty then nothing_at_line port else []) []
    by true = nothing_says port
    by false = says_nothing

pub each_mark : EachMarkHasItsAnswer
each_mark options blocks stopped lacking cut_short tally all =
    let printing = options.printing in
    let behind_it = none_both (file_says stopped) (none_both (file_says lacking) (none_both (cut_says printing.quiet cut_short)
    (none_both (none_says options.port tally) (last_says printing.quiet tally)))) in
    record {
      marks = blocks_marked printing blocks;
      answers =
          answers_are (printed_text options blocks stopped lacking cut_short tally) _
          (tells_both (blocks_text printing blocks) _ (answers_in_pairs (pairs_of printing blocks)) [] (blocks_tell printing blocks all) (tells_nothing _ behind_it))
          ∙ append-nil (answers_in_pairs (pairs_of printing blocks));
    }
