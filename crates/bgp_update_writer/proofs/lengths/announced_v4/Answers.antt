use Rattle.std.proofs.Common.{arith}
use Rattle.bgp_prefix.specs.declared.family.Family.TheVariants.{V4}
use Rattle.bgp_update_writer.specs.Update.{Announces}
use Rattle.bgp_update_writer.proofs.Measured.{too_large}
use Rattle.bgp_update_writer.proofs.lengths.announced_v4.Goals as goal

pub returns-in_default-clause-none : goal.returns-in_default-clause-none
returns-in_default-clause-none g c =
    let h = rw c.side.ensures at c.in_default.ensures.none in
    too_large c.args.link.now (Announces V4 c.args.prefixes.now c.args.path.now) (omega (arith, h, c.field_room-most.ensures))

pub returns-in_default-prefixes_len-clause-none : goal.returns-in_default-prefixes_len-clause-none
returns-in_default-prefixes_len-clause-none g c =
    let h = rw c.side.ensures at c.in-Some.ensures.some in
    too_large c.args.link.now (Announces V4 c.args.prefixes.now c.args.path.now) (omega (arith, h, c.field_room-most.ensures, c.in-Some.ensures.fits, c.in_default-prefixes_len.ensures.none))
