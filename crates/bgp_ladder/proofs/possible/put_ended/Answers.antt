use Rattle.std.proofs.Common.{◌-◌, [], drop, take}
use Rattle.bgp_text.proofs.Pieces.{nothing_yet}
use Rattle.bgp_ladder.proofs.InPossible.{line_ends, line_goes_on}
use Rattle.bgp_ladder.specs.Possible.{possible_row}
use Rattle.bgp_ladder.proofs.possible.put_ended.Goals as goal

pub returns-then-text-place-eq10-clause-puts : goal.returns-then-text-place-eq10-clause-puts
returns-then-text-place-eq10-clause-puts g c =
    (possible_row c.args.numbering (take (c.args.place - c.args.first) (drop c.args.first c.args.text.now)), c.put_possible_row.ensures, line_ends c.args.numbering c.args.text.now c.args.first c.args.place c.requires.place c.requires.first c.if-text-place-eq10.true)

pub returns-else-text-place-eq10-clause-puts : goal.returns-else-text-place-eq10-clause-puts
returns-else-text-place-eq10-clause-puts g c = (
  [],
  nothing_yet g.W.Sink g.met.W.Sink.nothing c.args.lines.now.outlet c.args.lines.now.held.items,
  line_goes_on c.args.numbering c.args.text.now c.args.first c.args.place c.requires.place c.requires.first c.if-text-place-eq10.false,
)
