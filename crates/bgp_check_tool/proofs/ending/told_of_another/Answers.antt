use Rattle.std.proofs.Common.{◌≡◌, ◌∙◌, Bool, Option, None, ap, inl, inr, refl, subst, sym}
use Rattle.bgp_recording.specs.Captured.{records_of}
use Rattle.bgp_check_lines.specs.Places.{shown_places}
use Rattle.bgp_check.specs.Answered.{answer_value}
use Rattle.bgp_check_lines.specs.Reached.{reached_value}
use Rattle.bgp_check_tool.specs.declared.orders.NoOrder.{NoOrder}
use Rattle.bgp_check_tool.specs.Another.{IsYes}
use Rattle.bgp_check_tool.specs.Orders.{IsKnown}
use Rattle.bgp_check_tool.specs.Place.{second_at}
use Rattle.bgp_check_tool.specs.Told.{peer_end, place_of, told_value}
use Rattle.bgp_why.specs.declared.other_orders.OtherOrders.TheVariants.{Unasked}
use Rattle.bgp_check_tool.proofs.TellingEnd.{about_so, another_order, nothing_found, nothing_instead, nothing_other, reached_so, reason_so, told_so, yes_not_asked, yes_not_late}
use Rattle.bgp_check_tool.proofs.ending.told_of_another.Goals as goal

pub returns : goal.returns
returns g c = λ made_entries made_received made_sent made_answer made answers_made no_yes way.
    let viewed = c.args.viewed.now in
    let options = viewed.options in
    let framings = c.args.framings in
    let other = c.args.another.recording in
    let entries = other.entries.items in
    let records = records_of entries in
    let peer = peer_end viewed.session viewed.connection in
    let answer = answer_value c.args.another.answer in
    let beside = c.of_another.ensures in
    let told = told_value c.told_of.result in
    let is = c.told_of.ensures in
    let nothing : told.found ≡ None = is.beside.1 ∙ beside.found in
    told_so options viewed.asked viewed.end viewed.session viewed.connection framings entries other.received other.sent told answer answer answer is.answer c.requires.answers
    (about_so viewed.session records answer answer told.found None nothing refl)
    (inr (inl (record {
      is_order = is.beside.0 ∙ beside.order;
      way = way;
      is_told = is.answer;
      is_yes = subst IsYes (sym is.answer) c.requires.yes;
      made_entries = made_entries;
      made_received = made_received;
      made_sent = made_sent;
      made = made;
      made_answer = made_answer;
      answers_made = answers_made;
      is_no_yes = no_yes;
      not_in_made = is.beside.2 ∙ beside.in_made;
      no_judge = is.beside.5 ∙ beside.judge;
    })))
    is.end is.as_number (nothing_found viewed.session options.within framings viewed.connection answer told.found nothing)
    (subst (λ (b : Bool). IsKnown viewed.session options.within framings viewed.connection b) (sym (is.over_all.0 ∙ beside.over_all)) tt)
    (λ is_made none. absurd (another_order told.order (is.beside.0 ∙ beside.order) is_made))
    (is.place ∙ ap (λ (f : Option NoOrder). place_of answer f entries) (sym is.beside.1))
    (nothing_other viewed.session framings.sent.limit peer records told.found told.in_made told.other nothing (is.beside.3 ∙ beside.other))
    is.first is.put_off is.within
    (yes_not_late viewed.session options.within framings viewed.connection answer told.late told.lacks_memory_later c.requires.yes (is.beside.4 ∙ beside.late) (is.lacks_later ∙ beside.lacks_later))
    (reached_so records answer told.reached (reached_value c.in_ok-reached.reached) is.reached c.in_ok-reached.ensures)
    Unasked
    (nothing_instead options.within framings viewed.connection entries answer told.found nothing)
    (reason_so viewed.session framings.sent.limit peer records (second_at entries 0) (shown_places entries) Unasked answer told.deed _ told.reason _ is.reason.0 is.reason.1 c.in_ok-reason.ensures)
    (yes_not_asked answer told.asked_at c.requires.yes (is.asked_at ∙ beside.asked_at)) is.unshown.0 is.unshown.1
