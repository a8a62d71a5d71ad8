use Rattle.std.proofs.Common.{◌∙◌, List, ℕ, ap, arith, length, subst, sym, take}
use Rattle.std.proofs.lemmas.List.{length-take-le}
use Rattle.bgp_json_values.specs.Fronts.{IsAfter}
use Rattle.bgp_json_values.proofs.PrefixOctets.{fits_V4, octets_V4, octets_V6}
use Rattle.bgp_json_values.proofs.destinations.after_bits.Goals as goal

pub slice_bounds-after-end : goal.slice_bounds-after-end
slice_bounds-after-end c =
    let prefix = c.args.prefix in
    let four = ap length c.to_be_bytes.ensures in
    let few = fits_V4 prefix.family prefix.bits c.in-V4.number c.octet_count-count.ensures.fits c.in-V4.ensures in
    omega (arith, c.octet_count-count.ensures.value)

pub slice_bounds-after-end-in-V4 : goal.slice_bounds-after-end-in-V4
slice_bounds-after-end-in-V4 c =
    let prefix = c.args.prefix in
    let four = ap length c.to_be_bytes.ensures in
    let few = fits_V4 prefix.family prefix.bits c.in-V4.number c.octet_count-count.ensures.fits c.in-V4.ensures in
    sym (length-take-le c.octet_count-count.result c.to_be_bytes.result (omega (arith, c.octet_count-count.ensures.value)))

pub returns-in-V4 : goal.returns-in-V4
returns-in-V4 c =
    let prefix = c.args.prefix in
    let same = ap (take c.octet_count-count.result) c.to_be_bytes.ensures
    ∙ octets_V4 prefix.family prefix.bits c.in-V4.number c.octet_count-count.result c.octet_count-count.ensures.fits c.in-V4.ensures c.octet_count-count.ensures.value in
    subst (λ (front : List ℕ). IsAfter front c.args.octets.now c.after.result) same c.after.ensures

pub returns-in-V6 : goal.returns-in-V6
returns-in-V6 c =
    let prefix = c.args.prefix in
    let same = ap (take c.octet_count-count.result) c.to_be_bytes-in-V6.ensures
    ∙ octets_V6 prefix.family prefix.bits c.in-V6.number c.octet_count-count.result c.octet_count-count.ensures.fits c.in-V6.ensures c.octet_count-count.ensures.value in
    subst (λ (front : List ℕ). IsAfter front c.args.octets.now c.after-in-V6.result) same c.after-in-V6.ensures
