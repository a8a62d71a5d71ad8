use Rattle.std.proofs.Common.{◌≡◌, ◌∙◌, ap, sym, subst}
use Rattle.json_writer.specs.Plain.{ArePlain}
use Rattle.json_writer.proofs.HexDigits.{pair_at, pair_is, pair_plain}
use Rattle.json_writer.proofs.places.pair_of.Goals as goal

pub returns-clause-digits : goal.returns-clause-digits
returns-clause-digits c =
    let same : c.from-from.result ≡ c.args.octet = c.from-from.ensures in
    ap pair_at same ∙ pair_is c.args.octet c.ranges.octet.fits

pub returns-clause-plain : goal.returns-clause-plain
returns-clause-plain c =
    let same : c.from-from.result ≡ c.args.octet = c.from-from.ensures in
    subst (λ octet. ArePlain (pair_at octet)) (sym same) (pair_plain c.args.octet c.ranges.octet.fits)
