use Rattle.std.proofs.Common.{arith}
use Rattle.bgp_prefix.specs.declared.family.Family.TheVariants.{V4}
use Rattle.bgp_update_writer.specs.Update.{Withdraws}
use Rattle.bgp_update_writer.proofs.Measured.{too_large}
use Rattle.bgp_update_writer.proofs.lengths.withdrawn_v4.Goals as goal

pub returns-in_default-clause-none : goal.returns-in_default-clause-none
returns-in_default-clause-none c = too_large c.args.link.now (Withdraws V4 c.args.prefixes.now) (omega (arith, c.field_room.ensures, c.in_default.ensures.none))
