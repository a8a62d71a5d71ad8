use Rattle.std.proofs.Common.{arith}
use Rattle.json_writer.proofs.Decimals.{thousands}
use Rattle.json_writer.proofs.InPlace.{then_put}
use Rattle.json_writer.proofs.places.write_more.Goals as goal

pub returns-clause-written : goal.returns-clause-written
returns-clause-written c = rw (thousands c.args.number (omega arith) (omega arith)) (then_put c.write_few-at.ensures.written c.write_three.ensures.written)
