use Rattle.bgp_ended.proofs.Stretches.{last_decides}
use Rattle.bgp_ended.proofs.stretch.fallen_in.Goals as goal

pub returns : goal.returns
returns c =
    last_decides c.args.records.now c.in_ok-last.front.now c.in_ok-last.last.now c.fallen_at.result c.in_ok-last.ensures.cases c.requires c.fallen_at.ensures.some c.fallen_at.ensures.none
