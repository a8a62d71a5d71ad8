use Rattle.bgp_instead.proofs.asking.could_send.Goals as goal

pub returns : goal.returns
returns g c = λ of. c.could_be_sent.ensures of.config of.within of.exchange of.before of.told of.is
