use Rattle.mrt.specs.Reader.{shown_of}
use Rattle.bgp_compact.proofs.FallsPaid.{all_fallen}
use Rattle.bgp_compact.proofs.paying.paid_falls.Goals as goal

pub returns-clause-members : goal.returns-clause-members
returns-clause-members c = λ m.
    all_fallen c.args.config.now c.args.words (shown_of c.args.shown.now) m c.if_so-silent.result c.if_so-ceased.result c.if_so-expired.result c.if_so-send_expired.result c.if_so-erred.result c.faulted-faulted.result
    c.none.result c.add_paid-falls.result c.add_paid-falls-2.result c.add_paid-falls-3.result c.add_paid-falls-4.result c.add_paid-falls-5.result c.add_paid.result
    c.none.ensures c.if_so-silent.ensures c.if_so-ceased.ensures c.if_so-expired.ensures c.if_so-send_expired.ensures c.if_so-erred.ensures c.faulted-faulted.ensures
    (c.add_paid-falls.ensures.members m) (c.add_paid-falls-2.ensures.members m) (c.add_paid-falls-3.ensures.members m) (c.add_paid-falls-4.ensures.members m) (c.add_paid-falls-5.ensures.members m) (c.add_paid.ensures.members m)
