use Rattle.bgp_rib.proofs.applying.write_all.Goals as goal

pub returns-clause-noted : goal.returns-clause-noted
returns-clause-noted g c = λ h. c.put_all.ensures.noted (c.hide_all.ensures.noted h)
