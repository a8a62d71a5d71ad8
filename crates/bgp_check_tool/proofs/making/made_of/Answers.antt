use Rattle.std.proofs.Common.{◌≡◌, ◌∙◌, List, ap, map, subst}
use Rattle.bgp_prefix.specs.Shown.{ShownRecord}
use Rattle.mrt.specs.Reader.{shown_of}
use Rattle.bgp_recording.specs.Captured.{records_of}
use Rattle.bgp_recording.specs.Recorded.{IsRecordedInOrder}
use Rattle.bgp_recording.specs.declared.framing.Framings.{Framings}
use Rattle.bgp_check_tool.specs.Made.{AreOffered}
use Rattle.bgp_check_tool.proofs.making.made_of.Goals as goal

-- where what both offer finds the same, what was looked in is what is made
pub returns-then-are_framed_alike-clause-told : goal.returns-then-are_framed_alike-clause-told
returns-then-are_framed_alike-clause-told g c = λ clock.
    let connection = c.args.connection.now in
    let looked_in = c.in_ok-looked_in.looked_in in
    let framings = c.offered_in-framings.result in
    let told = c.in_ok-looked_in.ensures.told clock in
    let same : map shown_of c.deref.result.now ≡ records_of looked_in.entries.items =
    ap (map shown_of) c.deref.ensures.value ∙ c.in_ok-looked_in.ensures.records in
    record {
      looked_in = looked_in.entries.items;
      looked_in_received = looked_in.received;
      looked_in_sent = looked_in.sent;
      is_looked_in = subst (λ (f : Framings). IsRecordedInOrder f c.args.within connection looked_in.entries.items looked_in.received looked_in.sent) c.with_both_offers-offered.ensures told;
      are_offered = subst (λ (records : List ShownRecord). AreOffered records framings) same c.offered_in-framings.ensures;
      recorded = c.are_framed_alike.ensures c.if-are_framed_alike.true c.args.within connection told;
    }
