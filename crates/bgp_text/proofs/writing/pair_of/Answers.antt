use Rattle.std.proofs.Common.{◌≡◌, ◌∙◌, ap}
use Rattle.bgp_text.proofs.HexDigits.{pair_at, pair_is}
use Rattle.bgp_text.proofs.writing.pair_of.Goals as goal

pub returns : goal.returns
returns c =
    let same : c.from-from.result ≡ c.args.octet = c.from-from.ensures in
    ap pair_at same ∙ pair_is c.args.octet c.ranges.octet.fits
