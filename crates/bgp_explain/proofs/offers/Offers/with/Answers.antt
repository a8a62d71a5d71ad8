use Rattle.mrt.specs.Reader.{shown_of}
use Rattle.bgp_judge.specs.Told as judged
use Rattle.bgp_explain.proofs.OffersKept.{peers_then, settling_kept}
use Rattle.bgp_explain.proofs.offers.Offers.with.Goals as goal

pub returns : goal.returns
returns c records state after at =
    let shown = shown_of c.args.shown.now in
    let peers = peers_then records shown c.peers_after-peers.result (c.peers_after-peers.ensures (judged.told records) state at.peers) in record {
      own = c.own_after.ensures records at.own;
      peers = peers;
      settling = rw c.settling_in.ensures (settling_kept records shown c.args.after c.args.self.settling c.peers_after-peers.result after at.settling peers);
    }
