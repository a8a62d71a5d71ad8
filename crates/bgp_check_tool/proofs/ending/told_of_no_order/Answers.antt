use Rattle.std.proofs.Common.{◌≡◌, ◌∙◌, Bool, Option, Some, ap, inl, refl, subst, sym}
use Rattle.bgp_recording.specs.Captured.{records_of}
use Rattle.bgp_check_lines.specs.Places.{shown_places}
use Rattle.bgp_judge.specs.Verdict.{verdict_value}
use Rattle.bgp_check.specs.Answered.{answer_value}
use Rattle.bgp_check_lines.specs.Reached.{reached_value}
use Rattle.bgp_check_lines.specs.JudgeOptions.{JudgeOptions}
use Rattle.bgp_check_tool.specs.declared.late.Later.{Later}
use Rattle.bgp_check_tool.specs.declared.orders.NoOrder.{NoOrder}
use Rattle.bgp_check_tool.specs.About.{judged_value}
use Rattle.bgp_check_tool.specs.Another.{number_in}
use Rattle.bgp_check_tool.specs.Instead.{AreInstead}
use Rattle.bgp_check_tool.specs.Judging.{AreOptionsTo}
use Rattle.bgp_check_tool.specs.Orders.{IsKnown}
use Rattle.bgp_check_tool.specs.Place.{second_at}
use Rattle.bgp_check_tool.specs.Told.{peer_end, place_of, told_value}
use Rattle.bgp_check_tool.proofs.TellingEnd.{about_so, late_so, made_so, message_found, other_so, reached_so, reason_so, some_found, told_so}
use Rattle.bgp_check_tool.proofs.NoneLeft.{none_known}
use Rattle.bgp_check_tool.proofs.NoUnder.{about_holds, about_no, about_number, about_widest}
use Rattle.bgp_check_tool.proofs.ending.told_of_no_order.Goals as goal

pub reason_about-requires-clause-number : goal.reason_about-requires-clause-number
reason_about-requires-clause-number g c =
    let answer = answer_value c.args.watched.answer in
    let its = c.args.about.now in
    about_number (records_of c.args.made.now.recording.entries.items) (number_in answer) its.as_number c.args.found its.peer_as its.under (verdict_value its.verdict) c.requires.about c.args.viewed.now.session
    answer refl c.requires.no c.requires.answers

pub reason_about-requires-clause-holds : goal.reason_about-requires-clause-holds
reason_about-requires-clause-holds g c =
    let its = c.args.about.now in
    about_holds (records_of c.args.made.now.recording.entries.items) (number_in (answer_value c.args.watched.answer)) its.as_number c.args.found its.peer_as its.under (verdict_value its.verdict) c.requires.about

pub returns : goal.returns
returns g c = λ clocked made unexplained.
    let viewed = c.args.viewed.now in
    let options = viewed.options in
    let framings = c.args.made.now.framings in
    let recording = c.args.made.now.recording in
    let entries = recording.entries.items in
    let records = records_of entries in
    let peer = peer_end viewed.session viewed.connection in
    let answer = answer_value c.args.watched.answer in
    let its = c.args.about.now in
    let about = judged_value its in
    let beside = c.in_ok-beside.ensures in
    let told = told_value c.told_of.result in
    let is = c.told_of.ensures in
    let its_no = about_no records (number_in answer) its.as_number c.args.found its.peer_as its.under (verdict_value its.verdict) c.requires.about viewed.session options.within framings viewed.connection unexplained in
    let some : told.found ≡ Some c.args.found = is.beside.1 ∙ beside.found in
    told_so options viewed.asked viewed.end viewed.session viewed.connection framings entries recording.received recording.sent told answer about answer is.answer c.requires.answers
    (about_so viewed.session records answer about told.found (Some c.args.found) some its_no)
    (inl (record {
      is_order = is.beside.0 ∙ beside.order;
      made = made;
      is_told = is.answer;
      is_in_made = made_so entries told.found (Some c.args.found) about told.in_made some (is.beside.2 ∙ beside.in_made);
      judges = subst (λ (j : Option JudgeOptions). AreOptionsTo options.within viewed.asked viewed.connection entries recording.received recording.sent options.settings about j) (sym is.beside.5)
          (beside.judge clocked made.recorded);
    }))
    is.end is.as_number
    (message_found viewed.session options.within framings viewed.connection answer told.found c.args.found some c.requires.no unexplained)
    (subst (λ (b : Bool). IsKnown viewed.session options.within framings viewed.connection b) (sym (is.over_all.0 ∙ beside.over_all)) tt)
    (λ is_made none. absurd (some_found told.found c.args.found some none))
    (is.place ∙ ap (λ (f : Option NoOrder). place_of answer f entries) (sym is.beside.1))
    (other_so viewed.session framings.sent.limit peer records told.found (Some c.args.found) told.in_made _ told.other _ some is.beside.2 is.beside.3 beside.other)
    is.first is.put_off is.within
    (late_so viewed.session viewed.connection answer told.late _ told.lacks_memory_later _ (is.beside.4 ∙ ap (λ (l : Later). l.late) beside.later)
    (is.lacks_later ∙ ap (λ (l : Later). l.lacks_memory) beside.later)
    (c.in_ok-later.ensures clocked (record {
      entries = entries;
      received_unshown = recording.received;
      sent_unshown = recording.sent;
      framings = framings;
      made = made;
      are = none_known options.within framings viewed.connection viewed.session c.unknown.result c.unknown.ensures.wanting c.unknown.ensures.another;
    })))
    (reached_so records answer told.reached (reached_value c.in_ok-reached.reached) is.reached c.in_ok-reached.ensures)
    c.instead_of-instead.result
    (subst (λ (f : Option NoOrder). AreInstead options.within framings viewed.connection entries about f c.instead_of-instead.result) (sym some) (c.instead_of-instead.ensures clocked))
    (reason_so viewed.session framings.sent.limit peer records (second_at entries 0) (shown_places entries) c.instead_of-instead.result about told.deed _ told.reason _ is.reason.0 is.reason.1
    (c.in_ok-reason.ensures
    (about_widest records (number_in answer) its.as_number c.args.found its.peer_as its.under (verdict_value its.verdict) c.requires.about viewed.session options.within framings viewed.connection unexplained)))
    (is.asked_at ∙ beside.asked_at) is.unshown.0 is.unshown.1
