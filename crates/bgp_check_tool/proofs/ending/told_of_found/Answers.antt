use Rattle.std.proofs.lemmas.Result.{IfOk-weaker}
use Rattle.bgp_orders.proofs.Along.{none_is}
use Rattle.bgp_check_tool.specs.About.{NeverUnexplained}
use Rattle.bgp_check_tool.proofs.NoneLeft.{none_known}
use Rattle.bgp_check_tool.proofs.ending.told_of_found.Goals as goal

pub returns-in-None : goal.returns-in-None
returns-in-None g c =
    let viewed = c.args.viewed.now in
    let recording = c.args.made.now.recording in
    let never : NeverUnexplained recording.entries.items c.args.found =
    none_is c.in_ok-about.field-0 (NeverUnexplained recording.entries.items c.args.found) c.in-None.is c.in_ok-about.ensures.none in
    IfOk-weaker c.told_as_made.result _ _
    (λ told is clocked made unexplained.
    is clocked made (none_known viewed.options.within c.args.made.now.framings viewed.connection viewed.session c.unknown-unknown.result c.unknown-unknown.ensures.wanting c.unknown-unknown.ensures.another)
    tt
    (λ one.
    absurd
    (never viewed.session viewed.options.within c.args.made.now.framings viewed.connection recording.received recording.sent clocked made.recorded.told unexplained)))
    c.told_as_made.ensures
