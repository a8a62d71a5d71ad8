use Rattle.std.proofs.Common.{ap, refl, subst, sym, Option}
use Rattle.mrt.specs.Reader.{shown_of}
use Rattle.bgp_explain.specs.declared.moments.SentNotification.{SentNotification}
use Rattle.bgp_explain.specs.Fractions.{IsNameAfter, number_in}
use Rattle.bgp_explain.specs.Moments.{IsSentAs}
use Rattle.bgp_explain.proofs.MomentsKept.{moments_more, named_sent}
use Rattle.bgp_explain.proofs.moments.Moments.with.Goals as goal

pub returns-clause-are : goal.returns-clause-are
returns-clause-are c = λ config records number link tells are.
    moments_more c.records_tell_one_by_one.ensures.one_more config records (shown_of c.args.shown.now) c.args.number c.second_in-second.result c.args.link c.args.told c.args.self
    c.sent_in-sent.result c.leaves-left_idle.result number link tells are c.second_in-second.ensures _ c.leaves-left_idle.ensures c.sent_in-sent.ensures.some c.sent_in-sent.ensures.none
    c.first_after.ensures c.named_after.ensures c.named_after-2.ensures refl c.notification_after.ensures

pub returns-clause-named : goal.returns-clause-named
returns-clause-named c =
    subst (λ (o : Option SentNotification). IsNameAfter c.args.number (number_in c.args.self.notification) (number_in o)) (sym c.notification_after.ensures)
    (named_sent c.args.number (IsSentAs c.args.link (shown_of c.args.shown.now)) c.args.self.notification c.sent_in-sent.result c.leaves-left_idle.result c.sent_in-sent.ensures.some)
