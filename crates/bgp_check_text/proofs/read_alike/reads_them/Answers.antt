use Rattle.std.proofs.Common.{◌∙◌, ap, map, refl, sym}
use Rattle.bgp_recording.specs.Tells.{numbered_of}
use Rattle.bgp_check_text.proofs.SameAt.{tells_itself}
use Rattle.bgp_check_text.proofs.read_alike.reads_them.Goals as goal

pub returns-then-are_framed_alike : goal.returns-then-are_framed_alike
returns-then-are_framed_alike g c = λ clock recorded. (
  λ yes. record {
    others = c.args.made.now.entries.items;
    received = c.args.made.now.received;
    sent = c.args.made.now.sent;
    recorded = c.are_framed_alike.ensures c.if-are_framed_alike.true c.args.within c.args.connection.now recorded;
    same = refl;
  },
  λ alike. refl,
)

pub returns : goal.returns
returns g c = λ clock recorded.
    let connection = c.args.connection.now in
    let others = c.in_ok-others.others in
    let told = c.in_ok-others.ensures.told clock in
    let one = ap (map numbered_of) c.as_slice.ensures.value in
    let other = ap (map numbered_of) c.as_slice-2.ensures.value in (
      λ yes. record {
        others = others.entries.items;
        received = others.received;
        sent = others.sent;
        recorded = told;
        same = sym one ∙ c.are_same.ensures.0 yes ∙ other;
      },
      λ alike.
          let once = c.connections_are_recorded_once.ensures _ c.args.within connection connection others.entries.items alike.others others.received others.sent
          alike.received alike.sent (tells_itself connection) clock told alike.recorded in
          c.are_same.ensures.1 (one ∙ (once.0 ∙ alike.same) ∙ sym other),
    )
