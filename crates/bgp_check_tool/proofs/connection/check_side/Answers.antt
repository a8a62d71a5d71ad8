use Rattle.std.proofs.Common.{subst, sym}
use Rattle.bgp_prefix.specs.declared.session.Session.{Session}
use Rattle.segments.specs.declared.found.Endpoint.{Endpoint}
use Rattle.streams.specs.declared.connection.Connection.{Connection}
use Rattle.bgp_recording.specs.Gathered.{IsClocked}
use Rattle.bgp_import.specs.ListText.{end_of}
use Rattle.bgp_check_tool.specs.Seen.{session_from}
use Rattle.bgp_check_tool.specs.Told.{IsTold, told_value}
use Rattle.bgp_check_tool.proofs.OtherEnd.{clocked}
use Rattle.bgp_check_tool.proofs.connection.check_side.Goals as goal

pub returns : goal.returns
returns g c = λ clock.
    let options = c.args.between.now.options in
    let session = session_from c.args.side c.args.between.now.session in
    let end = end_of c.args.side c.args.between.now.session c.args.opening in
    let told = told_value c.in_ok-told.told in
    let its_clock = subst (λ (v : Connection). IsClocked v) (sym c.seen_from.ensures) (clocked c.args.side c.args.connection.now clock) in
    let is = c.in_ok-told.ensures its_clock (c.in_ok-made.ensures.told its_clock) in
    subst (λ (v : Connection). IsTold options c.args.asked end session v told) c.seen_from.ensures
    (subst (λ (v : Session). IsTold options c.args.asked end v c.seen_from.result told) c.session_from.ensures
    (subst (λ (v : Endpoint). IsTold options c.args.asked v c.session_from.result c.seen_from.result told) c.end_of.ensures is))
