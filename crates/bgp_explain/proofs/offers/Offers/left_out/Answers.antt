use Rattle.std.proofs.Common.{◌∙◌}
use Rattle.bgp_explain.proofs.OffersKept.{left_out_of}
use Rattle.bgp_explain.proofs.offers.Offers.left_out.Goals.{in-Some, in-None}
use Rattle.bgp_explain.proofs.offers.Offers.left_out.Goals as goal

pub returns : goal.returns
returns c = λ records at. elim c.match-self.branch [
  | in-Some w ↦ left_out_of c.args.config.now records c.args.self.own c.match-self.own c.args.self.settling c.of.result at.own at.settling (rw w.in-Some.is w.own-is) c.of.ensures
  | in-None w ↦ left_out_of c.args.config.now records c.args.self.own c.match-self.own c.args.self.settling c.of.result at.own at.settling
      (rw w.in-None.is w.own-is) c.of.ensures
]
