use Rattle.std.proofs.Common.{◌≡◌, ◌∙◌, Bool, ℕ, List, Option, None, ap, inr, refl, subst, sym}
use Rattle.bgp_recording.specs.Captured.{records_of}
use Rattle.bgp_recording.specs.declared.entry.Entry.{Entry}
use Rattle.bgp_judge.specs.Verdict.{Unfinished}
use Rattle.bgp_check_lines.specs.Places.{shown_places}
use Rattle.bgp_check.specs.Answered.{JudgedAs, answer_value}
use Rattle.bgp_check_lines.specs.Reached.{reached_value}
use Rattle.bgp_check_tool.specs.declared.late.Later.{Later}
use Rattle.bgp_check_tool.specs.declared.orders.NoOrder.{NoOrder}
use Rattle.bgp_check_tool.specs.Another.{number_in}
use Rattle.bgp_check_tool.specs.Elsewhere.{no_place}
use Rattle.bgp_check_tool.specs.Orders.{IsKnown}
use Rattle.bgp_check_tool.specs.Place.{second_at}
use Rattle.bgp_check_tool.specs.Told.{peer_end, place_of, told_value}
use Rattle.bgp_why.specs.declared.other_orders.OtherOrders.TheVariants.{Unasked}
use Rattle.bgp_check_tool.proofs.NoneLeft.{none_known}
use Rattle.bgp_check_tool.proofs.TellingEnd.{about_so, late_so, nothing_found, nothing_instead, nothing_other, over_all_orders, reached_so, reason_so, told_so}
use Rattle.bgp_check_tool.proofs.ending.told_over_all.Goals as goal

pub returns : goal.returns
returns g c = λ clocked made over.
    let viewed = c.args.viewed.now in
    let options = viewed.options in
    let framings = c.args.made.now.framings in
    let recording = c.args.made.now.recording in
    let entries = recording.entries.items in
    let records = records_of entries in
    let peer = peer_end viewed.session viewed.connection in
    let answer = answer_value c.args.answer.now in
    let its = c.args.its in
    let unfinished = answer_value c.unfinished-answer.result in
    let beside = c.of_all-beside.ensures in
    let told = told_value c.told_of.result in
    let is = c.told_of.ensures in
    let so : told.answer ≡ JudgedAs (number_in answer) its.peer_as its.under Unfinished =
    is.answer ∙ c.unfinished-answer.ensures ∙ ap (λ (n : Option ℕ). JudgedAs n its.peer_as its.under Unfinished) c.number_in.ensures in
    let nothing : told.found ≡ None = is.beside.1 ∙ beside.found in
    told_so options viewed.asked viewed.end viewed.session viewed.connection framings entries recording.received recording.sent told answer answer unfinished is.answer c.requires.answers
    (about_so viewed.session records answer answer told.found None nothing refl)
    (inr (inr (record {
      is_order = is.beside.0 ∙ beside.order;
      made = made;
      is_no = c.requires.no;
      peer = its.peer_as;
      under = its.under;
      over = over;
      is_told = so;
      is_known = is.over_all.0 ∙ beside.over_all;
      is_in_made = is.beside.2 ∙ beside.in_made ∙ c.no_place-in_made.ensures ∙ ap (λ (es : List Entry). no_place es answer) c.as_slice.ensures.value;
      no_judge = is.beside.5 ∙ beside.judge;
    })))
    is.end is.as_number
    (nothing_found viewed.session options.within framings viewed.connection unfinished told.found nothing)
    (subst (λ (b : Bool). IsKnown viewed.session options.within framings viewed.connection b) (sym (is.over_all.0 ∙ beside.over_all)) (its.peer_as, its.under, over))
    (λ is_made none. absurd (over_all_orders told.order (is.beside.0 ∙ beside.order) is_made))
    (is.place ∙ ap (λ (f : Option NoOrder). place_of unfinished f entries) (sym is.beside.1))
    (nothing_other viewed.session framings.sent.limit peer records told.found told.in_made told.other nothing (is.beside.3 ∙ beside.other))
    is.first is.put_off is.within
    (late_so viewed.session viewed.connection unfinished told.late _ told.lacks_memory_later _ (is.beside.4 ∙ ap (λ (l : Later). l.late) beside.later)
    (is.lacks_later ∙ ap (λ (l : Later). l.lacks_memory) beside.later)
    (c.in_ok-later.ensures clocked (record {
      entries = entries;
      received_unshown = recording.received;
      sent_unshown = recording.sent;
      framings = framings;
      made = made;
      are = none_known options.within framings viewed.connection viewed.session c.unknown.result c.unknown.ensures.wanting c.unknown.ensures.another;
    })))
    (reached_so records unfinished told.reached (reached_value c.in_ok-reached.reached) is.reached c.in_ok-reached.ensures)
    Unasked
    (nothing_instead options.within framings viewed.connection entries answer told.found nothing)
    (reason_so viewed.session framings.sent.limit peer records (second_at entries 0) (shown_places entries) Unasked answer told.deed _ told.reason _ is.reason.0 is.reason.1 c.in_ok-reason.ensures)
    (is.asked_at ∙ beside.asked_at ∙ c.no_count-asked_at.ensures) is.unshown.0 is.unshown.1
