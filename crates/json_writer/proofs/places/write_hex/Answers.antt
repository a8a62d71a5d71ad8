use Rattle.std.proofs.Common.{◌≡◌, ◌∙◌, ◌+◌, ◌++◌, ◌∷◌, [], take, set, get_or, ap, arith, length-set, subst}
use Rattle.std.proofs.lemmas.List.{take_more}
use Rattle.hex.specs.Hex.{encode_lower, lower_digits}
use Rattle.json_writer.specs.Plain.{ArePlain}
use Rattle.json_writer.proofs.HexDigits.{no_digits, encode_with-append}
use Rattle.json_writer.proofs.InPlace.{none_put, one_put, then_put}
use Rattle.json_writer.proofs.Plain.{plain_append}
use Rattle.json_writer.proofs.places.write_hex.Goals as goal

pub loop-octet-init : goal.loop-octet-init
loop-octet-init c = (omega arith, rw no_digits (none_put c.args.at c.args.places.now), rw no_digits tt)

pub loop-octet-preserved : goal.loop-octet-preserved
loop-octet-preserved c =
    let l = c.loop-octet in
    let octets = c.args.octets.now in
    let octet = get_or octets l.octet-index 0 in
    let pair = c.pair_of-high.result in
    let is = l.invariant.0 in
    let further : l.end + 1 + 1 ≡ l.end + 2 = omega arith in
    let high = one_put l.end pair.0 l.places (omega (arith, l.auto.places)) in
    let low = one_put (l.end + 1) pair.1 (set l.places l.end pair.0) (omega (arith, l.auto.places, length-set l.places l.end pair.0)) in
    let digits : encode_lower (take (l.octet-index + 1) octets) ≡ encode_lower (take l.octet-index octets) ++ encode_lower (octet ∷ []) =
    ap encode_lower (take_more octets l.octet-index 0 c.loop-octet-test.true) ∙ encode_with-append lower_digits (take l.octet-index octets) (octet ∷ [])
    in
    let put = rw (c.pair_of-high.ensures.digits, further) at (then_put high low) in
    let plain = subst ArePlain c.pair_of-high.ensures.digits c.pair_of-high.ensures.plain in
    (omega arith, rw digits (then_put l.invariant.1 put), rw digits (plain_append _ _ l.invariant.2 plain))
