use Rattle.bgp_explain.proofs.OneKept.{why_at}
use Rattle.bgp_explain.specs.Places.{places_of}
use Rattle.bgp_explain.proofs.why.put_lines.Goals as goal

pub returns : goal.returns
returns g c =
    let (text, with, put) = c.put_lines_with.ensures in
    (text, why_at c.args.config.now c.args.style.now c.args.session.now c.args.another (places_of c.args.places) c.args.reason.now c.why_of-why.result text c.why_of-why.ensures with, put)
