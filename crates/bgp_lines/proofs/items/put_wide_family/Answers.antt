use Rattle.std.proofs.Common.{arith}
use Rattle.bgp_lines.proofs.WideFamilies.{no_name}
use Rattle.bgp_lines.proofs.items.put_wide_family.Goals as goal

pub returns-in-Err : goal.returns-in-Err
returns-in-Err g c = rw (no_name c.args.afi c.args.safi (omega (arith, c.try_from.ensures))) c.put_numbers.ensures
