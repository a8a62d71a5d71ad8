use Rattle.std.specs.Net.Text.{hex}
use Rattle.bgp_prefix.proofs.PrintedTexts.{group_text-hex}
use Rattle.bgp_text.proofs.addresses.put_group.Goals as goal

pub returns : goal.returns
unfolding hex
returns g c =
    let shown =
    rw (c.leading_zeros.ensures.value, c.hex_digit.ensures, c.hex_digit-2.ensures, c.hex_digit-3.ensures, c.hex_digit-4.ensures) at c.split_at.ensures.back
    in
    rw (group_text-hex c.args.group c.ranges.group.fits) (rw shown at c.put.ensures)
