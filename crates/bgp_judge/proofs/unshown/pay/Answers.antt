use Rattle.std.proofs.Common.{ap}
use Rattle.bgp_prefix.specs.Shown.{Sent, Changed}
use Rattle.mrt.specs.Reader.{shown_of}
use Rattle.bgp_judge.specs.Unshown.{PaysNothing, Leaves}
use Rattle.bgp_judge.proofs.Paying.{option_weaker, leaves_at}
use Rattle.bgp_judge.proofs.unshown.pay.Goals as goal

pub returns-in-Out : goal.returns-in-Out
returns-in-Out c =
    let r2 = Sent c.in-Out.field-0 c.in-Out.octets.now in
    leaves_at c.args.config.now c.args.link (shown_of c.args.shown.now) r2 c.args.unshown c.pay_message.result (ap shown_of c.in-Out.is)
    (option_weaker c.pay_message.result _ (PaysNothing c.args.config.now c.args.link r2 c.args.unshown) _ (Leaves c.args.config.now c.args.link r2 c.args.unshown)
    (λ h. h c.in-Out.field-0) (λ x h. h c.in-Out.field-0) c.pay_message.ensures)

pub returns-in-Change : goal.returns-in-Change
returns-in-Change c =
    let r2 = Changed c.in-Change.field-0 c.in-Change.old c.in-Change.new in
    leaves_at c.args.config.now c.args.link (shown_of c.args.shown.now) r2 c.args.unshown c.pay_change.result (ap shown_of c.in-Change.is)
    (option_weaker c.pay_change.result _ (PaysNothing c.args.config.now c.args.link r2 c.args.unshown) _ (Leaves c.args.config.now c.args.link r2 c.args.unshown)
    (λ h. h c.args.config.now c.args.link c.in-Change.field-0) (λ x h. h c.args.config.now c.args.link c.in-Change.field-0) c.pay_change.ensures)
