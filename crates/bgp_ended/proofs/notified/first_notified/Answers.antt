use Rattle.std.proofs.Common.{[]}
use Rattle.streams.specs.declared.passed.Side.TheVariants.{Local}
use Rattle.bgp_ended.specs.Notified.{said_by}
use Rattle.bgp_ended.proofs.notified.first_notified.Goals as goal

-- those that were sent, and then those that were received
pub returns : goal.returns
returns c = c.first_among.ensures (said_by Local c.args.sent.now) (c.first_among-first.ensures [] tt)
