use Rattle.std.proofs.Common.{◌∙◌, subst, sym}
use Rattle.std.proofs.lemmas.Bool.{false≢true}
use Rattle.bgp_judge.specs.Verdict.{No, Unfinished, Yes}
use Rattle.bgp_check.specs.Answered.{AnswerValue, JudgedAs, Unjudged, answer_value}
use Rattle.bgp_check_tool.specs.Another.{IsLeft, IsNo, IsNoYes}
use Rattle.bgp_check_tool.specs.Orders.{IsSaid, SaysRecords}
use Rattle.bgp_check_tool.proofs.NoneLeft.{none_unexplained, some_family}
use Rattle.bgp_check_tool.proofs.another.search_orders.Goals as goal

left_by : (answer : AnswerValue) → IsNoYes answer → (IsNo answer → ⊥) → IsLeft answer
left_by (Unjudged why) no_yes isnt = no_yes
left_by (JudgedAs number peer under (Yes ends)) no_yes isnt = no_yes
left_by (JudgedAs number peer under (No count)) no_yes isnt = absurd (isnt tt)
left_by (JudgedAs number peer under Unfinished) no_yes isnt = tt

pub returns-then-is_no-2-clause-found : goal.returns-then-is_no-2-clause-found
returns-then-is_no-2-clause-found g c = λ clocked of_order.
    let viewed = c.args.viewed.now in
    let told = rw c.in-Ok-Unfinished.is at c.search_end.ensures.said in
    subst (λ s. IsSaid viewed.session viewed.options.within c.args.framings viewed.connection c.args.known s) c.in-Ok-Unfinished.field-0-is (told clocked)

pub returns-else-is_no-2-clause-found : goal.returns-else-is_no-2-clause-found
returns-else-is_no-2-clause-found g c = λ clocked of_order.
    let viewed = c.args.viewed.now in
    let told = rw c.in-Ok-Unfinished.is at c.search_end.ensures.said in
    subst (λ s. IsSaid viewed.session viewed.options.within c.args.framings viewed.connection c.args.known s) c.in-Ok-Unfinished.field-0-is (told clocked)

pub returns-then-is_no-clause-found : goal.returns-then-is_no-clause-found
returns-then-is_no-clause-found g c = λ clocked of_order.
    let viewed = c.args.viewed.now in
    let told = rw c.in-Ok-NoOrder.is at c.search_end.ensures.said in
    subst (λ s. IsSaid viewed.session viewed.options.within c.args.framings viewed.connection c.args.known s) c.in-Ok-NoOrder.field-0-is (told clocked)

pub returns-else-is_no-clause-found : goal.returns-else-is_no-clause-found
returns-else-is_no-clause-found g c = λ clocked of_order no_yes.
    let viewed = c.args.viewed.now in
    let told = rw c.in-Ok-NoOrder.is at c.search_end.ensures.said in
    let unexplained = subst (λ s. IsSaid viewed.session viewed.options.within c.args.framings viewed.connection c.args.known s) c.in-Ok-NoOrder.field-0-is (told clocked) in
    let answer = answer_value c.args.answer.now in
    none_unexplained viewed.session viewed.options.within c.args.framings viewed.connection c.no_order_has_a_run.ensures.found clocked answer of_order
    (left_by answer no_yes (λ no. false≢true (sym c.if-is_no.false ∙ c.is_no.ensures.1 no))) c.in-Ok-NoOrder.found unexplained

pub returns-in-Ok-Neither-clause-found : goal.returns-in-Ok-Neither-clause-found
returns-in-Ok-Neither-clause-found g c = λ clocked of_order no_yes.
    let viewed = c.args.viewed.now in
    let told = rw c.in-Ok-Neither.is at c.search_end.ensures.said in
    let none = subst (λ s. IsSaid viewed.session viewed.options.within c.args.framings viewed.connection c.args.known s) c.in-Ok-Neither.field-0-is (told clocked) in
    some_family viewed.session viewed.options.within c.args.framings viewed.connection clocked (answer_value c.args.answer.now) of_order no_yes none

pub returns-in-Ok-TooLong-clause-found : goal.returns-in-Ok-TooLong-clause-found
returns-in-Ok-TooLong-clause-found g c = λ clocked of_order.
    let viewed = c.args.viewed.now in
    let told = rw c.in-Ok-TooLong.is at c.search_end.ensures.said in
    subst (λ s. IsSaid viewed.session viewed.options.within c.args.framings viewed.connection c.args.known s) c.in-Ok-TooLong.field-0-is (told clocked)

pub another_yes-requires : goal.another_yes-requires
another_yes-requires g c =
    let records = rw c.in-Ok-Whole.is at c.search_end.ensures.records in
    subst (λ s. SaysRecords s) c.in-Ok-Whole.field-0-is records

pub returns-in-Ok-None-clause-found : goal.returns-in-Ok-None-clause-found
returns-in-Ok-None-clause-found g c = λ clocked of_order.
    let viewed = c.args.viewed.now in
    let told = rw c.in-Ok-Whole.is at c.search_end.ensures.said in
    let whole = subst (λ s. IsSaid viewed.session viewed.options.within c.args.framings viewed.connection c.args.known s) c.in-Ok-Whole.field-0-is (told clocked) in
    let found = rw c.in-Ok-None.is at c.another_yes.ensures.none in
    let none = rw c.in-Ok-None.field-0-is at found in
    none c.args.framings _ (answer_value c.args.answer.now) clocked whole of_order
