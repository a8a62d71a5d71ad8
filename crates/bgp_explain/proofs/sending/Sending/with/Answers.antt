use Rattle.std.proofs.Common.{◌∙◌}
use Rattle.mrt.specs.Reader.{shown_of}
use Rattle.bgp_judge.specs.Told as judged
use Rattle.bgp_explain.proofs.LinkKept.{link_kept, offered_then}
use Rattle.bgp_explain.proofs.sending.Sending.with.Goals as goal

pub returns : goal.returns
returns c records state after begins at =
    let config = c.args.config.now in
    let shown = shown_of c.args.shown.now in
    let offered = offered_then config records shown c.offered_after-offered.result (c.offered_after-offered.ensures (judged.told records) state at.offered) in record {
      offered = offered;
      offers = c.with.ensures records state after at.offers;
      link = c.link_in.ensures ∙ link_kept config records shown c.args.after c.args.self.link c.offered_after-offered.result after begins at.link offered;
    }
