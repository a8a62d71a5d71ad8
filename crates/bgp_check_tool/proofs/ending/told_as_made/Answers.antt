use Rattle.std.proofs.Common.{◌≡◌, ◌∙◌, Bool, Option, None, ap, inl, refl, subst, sym}
use Rattle.bgp_recording.specs.Captured.{records_of}
use Rattle.bgp_check_lines.specs.Places.{shown_places}
use Rattle.bgp_check.specs.Answered.{answer_value}
use Rattle.bgp_check_lines.specs.Reached.{reached_value}
use Rattle.bgp_check_lines.specs.JudgeOptions.{JudgeOptions}
use Rattle.bgp_check_tool.specs.declared.late.Later.{Later}
use Rattle.bgp_check_tool.specs.declared.orders.NoOrder.{NoOrder}
use Rattle.bgp_check_tool.specs.Judging.{AreOptionsTo}
use Rattle.bgp_check_tool.specs.Orders.{IsKnown}
use Rattle.bgp_check_tool.specs.Place.{second_at}
use Rattle.bgp_check_tool.specs.Told.{peer_end, place_of, told_value}
use Rattle.bgp_why.specs.declared.other_orders.OtherOrders.TheVariants.{Unasked}
use Rattle.bgp_check_tool.proofs.TellingEnd.{about_so, cause_so, late_so, made_so, nothing_found, nothing_instead, nothing_other, reached_so, reason_so, told_so}
use Rattle.bgp_check_tool.proofs.ending.told_as_made.Goals as goal

pub returns : goal.returns
returns g c = λ clocked made are_known known cause.
    let viewed = c.args.viewed.now in
    let options = viewed.options in
    let framings = c.args.made.now.framings in
    let recording = c.args.made.now.recording in
    let entries = recording.entries.items in
    let records = records_of entries in
    let peer = peer_end viewed.session viewed.connection in
    let answer = answer_value c.args.watched.answer in
    let beside = c.in_ok-beside.ensures in
    let told = told_value c.told_of.result in
    let is = c.told_of.ensures in
    let nothing : told.found ≡ None = is.beside.1 ∙ beside.found in
    told_so options viewed.asked viewed.end viewed.session viewed.connection framings entries recording.received recording.sent told answer answer answer is.answer c.requires.answers
    (about_so viewed.session records answer answer told.found None nothing refl)
    (inl (record {
      is_order = is.beside.0 ∙ beside.order;
      made = made;
      is_told = is.answer;
      is_in_made = made_so entries told.found None answer told.in_made nothing (is.beside.2 ∙ beside.in_made);
      judges = subst (λ (j : Option JudgeOptions). AreOptionsTo options.within viewed.asked viewed.connection entries recording.received recording.sent options.settings answer j) (sym is.beside.5)
          (beside.judge clocked made.recorded);
    }))
    is.end is.as_number
    (nothing_found viewed.session options.within framings viewed.connection answer told.found nothing)
    (subst (λ (b : Bool). IsKnown viewed.session options.within framings viewed.connection b) (sym (is.over_all.0 ∙ beside.over_all)) known)
    (λ is_made none. cause_so viewed.session options.within framings viewed.connection answer told.over_all _ told.lacks_memory _ (is.over_all.0 ∙ beside.over_all) (is.over_all.1 ∙ beside.lacks_memory) cause)
    (is.place ∙ ap (λ (f : Option NoOrder). place_of answer f entries) (sym is.beside.1))
    (nothing_other viewed.session framings.sent.limit peer records told.found told.in_made told.other nothing (is.beside.3 ∙ beside.other))
    is.first is.put_off is.within
    (late_so viewed.session viewed.connection answer told.late _ told.lacks_memory_later _ (is.beside.4 ∙ ap (λ (l : Later). l.late) beside.later)
    (is.lacks_later ∙ ap (λ (l : Later). l.lacks_memory) beside.later)
    (c.in_ok-later.ensures clocked
    (record { entries = entries; received_unshown = recording.received; sent_unshown = recording.sent; framings = framings; made = made; are = are_known })))
    (reached_so records answer told.reached (reached_value c.in_ok-reached.reached) is.reached c.in_ok-reached.ensures)
    Unasked
    (nothing_instead options.within framings viewed.connection entries answer told.found nothing)
    (reason_so viewed.session framings.sent.limit peer records (second_at entries 0) (shown_places entries) Unasked answer told.deed _ told.reason _ is.reason.0 is.reason.1 c.in_ok-reason.ensures)
    (is.asked_at ∙ beside.asked_at) is.unshown.0 is.unshown.1
