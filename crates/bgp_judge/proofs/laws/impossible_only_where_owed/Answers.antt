use Rattle.bgp_judge.proofs.Receiving.{owed_before}
use Rattle.bgp_judge.proofs.laws.impossible_only_where_owed.Goals as goal

pub returns : goal.returns
returns g c = λ whole.
    owed_before c.each_owed_want_can_be_met.ensures.met c.args.config.now c.args.link.now c.args.octets.now c.hear-heard.result c.hear-heard.ensures whole c.settle.ensures
