use Rattle.std.proofs.Common.{refl}
use Rattle.bgp_machine.specs.declared.rows.ReceivedRow.TheVariants as rows
use Rattle.bgp_machine.specs.declared.state.Head.TheVariants.{OpenConfirm}
use Rattle.bgp_speaker.proofs.MayBeTaken.{may}
use Rattle.bgp_speaker.proofs.choosing.picked_in_open_confirm.Goals as goal

pub returns-in-ValidOpen-clause-may : goal.returns-in-ValidOpen-clause-may
returns-in-ValidOpen-clause-may c own timer t octets =
    may (OpenConfirm own timer) t octets _ _ rows.Overlooks _ _ c.in-ValidOpen.is (refl, refl)

pub returns-in-FaultyHeader-clause-may : goal.returns-in-FaultyHeader-clause-may
returns-in-FaultyHeader-clause-may c own timer t octets =
    may (OpenConfirm own timer) t octets _ _ rows.NamesFault _ _ c.in-FaultyHeader.is (refl, refl)

pub returns-in-InvalidOpen-clause-may : goal.returns-in-InvalidOpen-clause-may
returns-in-InvalidOpen-clause-may c own timer t octets =
    may (OpenConfirm own timer) t octets _ _ rows.NamesFault _ _ c.in-InvalidOpen.is (refl, refl)

pub returns-in-BadVersion-clause-may : goal.returns-in-BadVersion-clause-may
returns-in-BadVersion-clause-may c own timer t octets =
    may (OpenConfirm own timer) t octets _ _ rows.Drops _ _ c.in-BadVersion.is (refl, refl)

pub returns-in-Notification-clause-may : goal.returns-in-Notification-clause-may
returns-in-Notification-clause-may c own timer t octets =
    may (OpenConfirm own timer) t octets _ _ rows.Drops _ _ c.in-Notification.is (refl, refl)

pub returns-in-Keepalive-clause-may : goal.returns-in-Keepalive-clause-may
returns-in-Keepalive-clause-may c own timer t octets =
    may (OpenConfirm own timer) t octets _ _ rows.Establishes _ _ c.in-Keepalive.is (refl, refl)

pub returns-in-Update-clause-may : goal.returns-in-Update-clause-may
returns-in-Update-clause-may c own timer t octets =
    may (OpenConfirm own timer) t octets _ _ rows.ReportsError _ _ c.in-Update.is (refl, refl)
