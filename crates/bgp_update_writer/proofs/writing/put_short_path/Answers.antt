use Rattle.std.proofs.Common.{arith}
use Rattle.bgp_attr.proofs.FirstOfType.{is_writable}
use Rattle.bgp_update.specs.Found.{side_of}
use Rattle.bgp_update_writer.proofs.Measured.{fits_length}
use Rattle.bgp_update_writer.proofs.writing.put_short_path.Goals as goal

pub put_path-requires-clause-writable : goal.put_path-requires-clause-writable
put_path-requires-clause-writable g c =
    rw c.side.ensures (is_writable (side_of c.args.link.now) c.args.path.now (omega (arith, c.requires.fits, fits_length c.args.link.now)))
