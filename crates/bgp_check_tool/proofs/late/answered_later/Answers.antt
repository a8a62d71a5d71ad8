use Rattle.std.proofs.Common.{◌∙◌, ◌≤◌, List, ap, arith, map, subst}
use Rattle.bgp_prefix.specs.Shown.{ShownRecord}
use Rattle.mrt.specs.Reader.{shown_of}
use Rattle.bgp_check.specs.Answered.{IsAnswerTo, answer_value}
use Rattle.bgp_check_tool.specs.Another.{IsOfAnOrder}
use Rattle.bgp_check_tool.proofs.Known.{known_later}
use Rattle.bgp_check_tool.proofs.late.answered_later.Goals as goal

pub returns : goal.returns
returns g c = λ clocked known.
    let viewed = c.args.viewed.now in
    let framings = c.in_ok-made.made.framings in
    let recording = c.in_ok-made.made.recording in
    let entries = recording.entries.items in
    let made = c.in_ok-made.ensures.told clocked in
    let of_made = answer_value c.in_ok-answer.answer in
    let answers =
    subst (λ (rs : List ShownRecord). IsAnswerTo viewed.session rs of_made) (ap (map shown_of) c.as_slice-records.ensures.value ∙ c.in_ok-made.ensures.records) c.in_ok-answer.ensures.answer in
    let of_order : IsOfAnOrder viewed.session 65535 framings viewed.connection of_made =
    record { entries = entries; received_unshown = recording.received; sent_unshown = recording.sent; recorded = made.recorded.told; answers = answers } in
    let less : viewed.options.within ≤ 65535 = omega arith in
    record {
      entries = entries;
      received_unshown = recording.received;
      sent_unshown = recording.sent;
      framings = framings;
      made = made;
      of_made = of_made;
      answers = answers;
      over = c.over_orders.ensures clocked of_order
          (known_later viewed.connection clocked viewed.session viewed.options.within 65535 framings entries recording.received recording.sent c.args.known
          c.more_patience_reaches_no_fewer_nodes.ensures.too_long less made known);
    }
