use Rattle.bgp_speaker.proofs.saying.message.Goals as goal

pub returns-in-Some-Some : goal.returns-in-Some-Some
returns-in-Some-Some g c = rw (c.in-CleanUpdate.is, c.in-Some-Some.is-0, c.in-Some-Some.is-1) c.update.ensures
