use Rattle.bgp_speaker.proofs.saying.update.Goals as goal

pub returns-in-Announced : goal.returns-in-Announced
returns-in-Announced g c = rw c.in-Announced.is c.announcement.ensures

pub returns-in-Withdrawn : goal.returns-in-Withdrawn
returns-in-Withdrawn g c = rw c.in-Withdrawn.is c.withdrawal.ensures
