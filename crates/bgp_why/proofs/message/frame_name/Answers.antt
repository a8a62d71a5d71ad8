use Rattle.std.proofs.Common.{ap, sym}
use Rattle.bgp_why.proofs.Named.{keepalive_named}
use Rattle.bgp_why.proofs.message.frame_name.Goals as goal

pub open_name-requires : goal.open_name-requires
open_name-requires c = sym (rw c.in-Open.is at c.requires)

pub update_name-requires : goal.update_name-requires
update_name-requires c = sym (rw c.in-Update.is at c.requires)

pub notification_name-requires : goal.notification_name-requires
notification_name-requires c = sym (rw c.in-Notification.is at c.requires)

pub returns-in-Open : goal.returns-in-Open
returns-in-Open c = c.open_name.ensures c.args.form

pub returns-in-Notification : goal.returns-in-Notification
returns-in-Notification c = c.notification_name.ensures c.args.form

pub returns-in-Keepalive : goal.returns-in-Keepalive
returns-in-Keepalive c message says = keepalive_named c.args.form c.args.frame.now message says (sym (rw c.in-Keepalive.is at c.requires))
