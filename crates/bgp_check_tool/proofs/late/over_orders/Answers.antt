use Rattle.std.proofs.Common.{◌∙◌, false, ℕ, Option, ap, inl, inr}
use Rattle.bgp_judge.specs.Verdict.{Unfinished}
use Rattle.bgp_check.specs.Answered.{JudgedAs, answer_value}
use Rattle.bgp_check_tool.proofs.Later.{left_so, over_so}
use Rattle.bgp_check_tool.proofs.NoneLeft.{too_many}
use Rattle.bgp_check_tool.proofs.late.over_orders.Goals as goal

pub returns-in-Nothing : goal.returns-in-Nothing
returns-in-Nothing g c = λ clocked of_order are.
    let viewed = c.args.viewed.now in
    let of_made = answer_value c.args.answer in
    let later = c.with_memory-in-Nothing.result in
    left_so viewed.session viewed.connection c.args.framings of_made later.lacks_memory (answer_value later.answer) c.with_memory-in-Nothing.ensures.lacks_memory c.with_memory-in-Nothing.ensures.answer
    (inl (c.in-Nothing.ensures.found clocked of_order))

pub returns-in-NoOrder : goal.returns-in-NoOrder
returns-in-NoOrder g c = λ clocked of_order are.
    let viewed = c.args.viewed.now in
    let of_made = answer_value c.args.answer in
    let later = c.with_memory-in-NoOrder.result in
    left_so viewed.session viewed.connection c.args.framings of_made later.lacks_memory (answer_value later.answer) c.with_memory-in-NoOrder.ensures.lacks_memory c.with_memory-in-NoOrder.ensures.answer
    (inr (inl (c.in-NoOrder.ensures.sought, (c.in-NoOrder.field-0, c.in-NoOrder.ensures.found clocked of_order))))

pub returns-in-AsMade : goal.returns-in-AsMade
returns-in-AsMade g c = λ clocked of_order are.
    let viewed = c.args.viewed.now in
    let of_made = answer_value c.args.answer in
    let its = c.in-AsMade.field-0 in
    let later = c.with_memory-in-AsMade.result in
    left_so viewed.session viewed.connection c.args.framings of_made later.lacks_memory (answer_value later.answer) c.with_memory-in-AsMade.ensures.lacks_memory c.with_memory-in-AsMade.ensures.answer
    (inr (inr (inl (c.in-AsMade.ensures.sought, (its.peer_as, its.under, c.in-AsMade.ensures.found clocked of_order)))))

pub returns-in-TooLong : goal.returns-in-TooLong
returns-in-TooLong g c = λ clocked of_order are.
    let viewed = c.args.viewed.now in
    let of_made = answer_value c.args.answer in
    let later = c.with_memory-in-TooLong.result in
    left_so viewed.session viewed.connection c.args.framings of_made later.lacks_memory (answer_value later.answer) c.with_memory-in-TooLong.ensures.lacks_memory c.with_memory-in-TooLong.ensures.answer
    (inr (inr (inr (too_many viewed.session 65535 c.args.framings viewed.connection c.in-TooLong.field-0 (c.in-TooLong.ensures.found clocked of_order are)))))

pub returns-in-Another : goal.returns-in-Another
returns-in-Another g c = λ clocked of_order are.
    let viewed = c.args.viewed.now in
    let of_made = answer_value c.args.answer in
    let another = c.in-Another.another in
    let sought = c.in-Another.ensures.sought in
    let later = c.with_memory.result in
    over_so viewed.session viewed.connection c.args.framings of_made later.lacks_memory false (answer_value later.answer) (answer_value another.answer) c.with_memory.ensures.lacks_memory
    c.with_memory.ensures.answer
    (inr (inl (record {
      no_yes = sought.0;
      entries = another.recording.entries.items;
      received_unshown = another.recording.received;
      sent_unshown = another.recording.sent;
      way = c.in-Another.ensures.found clocked of_order;
      answers = sought.2;
      is_yes = sought.3;
    })))

pub returns-in-Unfinished : goal.returns-in-Unfinished
returns-in-Unfinished g c = λ clocked of_order are.
    let viewed = c.args.viewed.now in
    let of_made = answer_value c.args.answer in
    let its = c.in-Unfinished.its in
    let later = c.with_memory-in-Unfinished.result in
    over_so viewed.session viewed.connection c.args.framings of_made later.lacks_memory false (answer_value later.answer) (answer_value c.unfinished.result) c.with_memory-in-Unfinished.ensures.lacks_memory
    c.with_memory-in-Unfinished.ensures.answer
    (inr (inr (record {
      is_no = c.in-Unfinished.ensures.sought;
      peer = its.peer_as;
      under = its.under;
      over = c.in-Unfinished.ensures.found clocked of_order;
      is = c.unfinished.ensures ∙ ap (λ (n : Option ℕ). JudgedAs n its.peer_as its.under Unfinished) c.number_in.ensures;
    })))
