use Rattle.std.proofs.Common.{arith, sym}
use Rattle.std.proofs.lemmas.Bool.{eqb-true}
use Rattle.bgp_json.proofs.Parameters.{more_octets, no_octets}
use Rattle.bgp_json.proofs.open.are_spelled.Goals as goal

pub returns-then-is_empty : goal.returns-then-is_empty
returns-then-is_empty c = no_octets c.args.parameters.now (eqb-true _ _ (sym c.if-is_empty.ensures))

pub returns : goal.returns
returns c = rw c.from.ensures (more_octets c.args.parameters.now c.requires.whole c.requires.types (omega (arith, c.if-parameters-le2.false)))
