use Rattle.bgp_explain.specs.Places.{places_of}
use Rattle.bgp_explain.proofs.OneKept.{one_kept, why_at}
use Rattle.bgp_explain.proofs.OfLines.{of_lines}
use Rattle.bgp_explain.proofs.kept_lines.KeptLines.of.Goals as goal

pub invariant_of-result : goal.invariant_of-result
invariant_of-result g c =
    let config = c.args.config.now in
    let style = c.args.style.now in
    let session = c.args.session.now in
    let places = places_of c.args.places in
    let why = c.why_of-why.result in
    let text = c.in_ok-text.text.items in
    record {
      can = c.requires.can;
      is = of_lines config style session c.args.another c.args.reason why text c.in_ok-text.ensures;
      one = one_kept config style session c.args.another places c.args.reason why c.subcodes_are_sets.ensures c.requires.heard c.why_of-why.ensures text c.in_ok-text.ensures;
    }

pub returns : goal.returns
returns g c =
    why_at c.args.config.now c.args.style.now c.args.session.now c.args.another (places_of c.args.places) c.args.reason c.why_of-why.result c.in_ok-text.text.items
    c.why_of-why.ensures c.in_ok-text.ensures
