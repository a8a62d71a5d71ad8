use Rattle.bgp_speaker.proofs.choosing.picked_on.Goals as goal

pub returns-in-OpenSent-clause-picks : goal.returns-in-OpenSent-clause-picks
returns-in-OpenSent-clause-picks c octets = rw c.in-OpenSent.is (c.picked_in_open_sent.ensures.picks c.in-OpenSent.field-0 octets)

pub returns-in-OpenSent-clause-may : goal.returns-in-OpenSent-clause-may
returns-in-OpenSent-clause-may c t octets = rw c.in-OpenSent.is (c.picked_in_open_sent.ensures.may c.in-OpenSent.field-0 t octets)

pub returns-in-OpenConfirm-clause-picks : goal.returns-in-OpenConfirm-clause-picks
returns-in-OpenConfirm-clause-picks c octets = rw c.in-OpenConfirm.is (c.picked_in_open_confirm.ensures.picks c.in-OpenConfirm.field-0 c.in-OpenConfirm.field-1 octets)

pub returns-in-OpenConfirm-clause-may : goal.returns-in-OpenConfirm-clause-may
returns-in-OpenConfirm-clause-may c t octets = rw c.in-OpenConfirm.is (c.picked_in_open_confirm.ensures.may c.in-OpenConfirm.field-0 c.in-OpenConfirm.field-1 t octets)

pub returns-in-Established-clause-may : goal.returns-in-Established-clause-may
returns-in-Established-clause-may c t octets = rw c.in-Established.is (c.picked_in_established.ensures.may c.in-Established.field-0 c.in-Established.field-1 t octets)
