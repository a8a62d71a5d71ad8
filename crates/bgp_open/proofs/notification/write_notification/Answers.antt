use Rattle.std.proofs.Common.{arith}
use Rattle.bgp_open.proofs.WrittenNotification.{appended_notification, appended_reads_back}
use Rattle.bgp_open.proofs.notification.write_notification.Goals as goal

pub returns-clause-ok : goal.returns-clause-ok
returns-clause-ok g c =
    rw (c.put.ensures.items, c.put_u8-2.ensures.items, c.put_u8.ensures.items, c.put_header.ensures.items, c.reserve.ensures.items)
    (appended_notification _ _ _ _ _ (omega arith))

pub returns-clause-reads_back : goal.returns-clause-reads_back
returns-clause-reads_back g c =
    appended_reads_back _ _ _ _ _ (returns-clause-ok g c) c.if-notification-gt-MOST_DETAIL.false
