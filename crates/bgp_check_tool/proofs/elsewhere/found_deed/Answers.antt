use Rattle.std.proofs.Common.{◌≡◌, ◌∙◌, List, ap, map, subst}
use Rattle.std.proofs.lemmas.Result.{IfOk-weaker}
use Rattle.bgp_prefix.specs.Shown.{ShownRecord}
use Rattle.mrt.specs.Reader.{shown_of}
use Rattle.bgp_recording.specs.Captured.{records_of}
use Rattle.bgp_check_lines.specs.SentDeed.{IsSentDeed, IsSentForm}
use Rattle.bgp_why.specs.declared.endpoint.Endpoint.{Endpoint}
use Rattle.bgp_check_tool.specs.Elsewhere.{IsFoundDeed}
use Rattle.bgp_check_tool.specs.Told.{peer_end}
use Rattle.bgp_check_tool.proofs.elsewhere.found_deed.Goals as goal

pub returns : goal.returns
returns g c =
    let viewed = c.args.viewed.now in
    let made = c.args.made.now in
    let found = c.args.found.now in
    let sent = made.framings.sent.limit in
    let records : map shown_of c.deref.result.now ≡ records_of made.recording.entries.items = ap (map shown_of) c.deref.ensures.value ∙ c.requires.records in
    let form = subst (λ (rs : List ShownRecord). IsSentForm rs c.sent_form-form.result) records c.sent_form-form.ensures in
    let said = subst (λ (p : Endpoint). IsSentDeed viewed.session sent p c.sent_form-form.result found.message.second found.message.octets.now c.in_ok-deed.deed.items)
    c.peer_end-peer.ensures c.in_ok-deed.ensures in
    IfOk-weaker c.in_none.result _
    (λ text. IsFoundDeed viewed.session sent (peer_end viewed.session viewed.connection) (records_of made.recording.entries.items) found text.items)
    (λ text is. record { form = c.sent_form-form.result; is_form = form; deed = c.in_ok-deed.deed.items; is_deed = said; is = is })
    c.in_none.ensures
