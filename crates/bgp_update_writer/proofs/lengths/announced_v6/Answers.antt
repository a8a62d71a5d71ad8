use Rattle.std.proofs.Common.{◌≡◌, ◌+◌, ap, refl, arith, length, length-append}
use Rattle.std.specs.List.{flat_map}
use Rattle.bgp_prefix.specs.declared.family.Family.TheVariants.{V6}
use Rattle.bgp_attr.specs.declared.types.AttrType.TheVariants as types
use Rattle.bgp_attr.specs.Field.{attribute_octets}
use Rattle.bgp_path.specs.Path.{PathValue}
use Rattle.bgp_attr.specs.Writing.{attribute_with, path_attributes}
use Rattle.bgp_update.specs.Found.{side_of}
use Rattle.bgp_update_writer.specs.Update.{Announces}
use Rattle.bgp_update_writer.specs.Written.{nlri_octets, hop_octets, reach_octets}
use Rattle.bgp_update_writer.proofs.Measured.{too_large, reach_len}
use Rattle.bgp_update_writer.proofs.lengths.announced_v6.Goals as goal

pub returns-in_default-clause-none : goal.returns-in_default-clause-none
returns-in_default-clause-none g c =
    let h = rw c.side.ensures at c.in_default.ensures.none in
    let mp = attribute_with types.MpReachNlri (reach_octets c.args.path.now.next_hop c.args.prefixes.now) in
    too_large c.args.link.now (Announces V6 c.args.prefixes.now c.args.path.now)
    (omega (arith, h, c.field_room-most.ensures, length-append (attribute_octets mp) (flat_map attribute_octets (path_attributes (side_of c.args.link.now) c.args.path.now))))

pub returns-in_default-mp_length-clause-none : goal.returns-in_default-mp_length-clause-none
returns-in_default-mp_length-clause-none g c =
    let ps = c.args.prefixes.now in
    let path = c.args.path.now in
    let value = reach_octets path.next_hop ps in
    let mp = attribute_with types.MpReachNlri value in
    let hop = ap (λ (p : PathValue). length (hop_octets p.next_hop)) c.parts.ensures.value in
    let size : length value ≡ 5 + c.hop_len.result + length (nlri_octets ps) = omega (arith, reach_len path.next_hop ps, hop, c.hop_len.ensures.len) in
    let long = c.in_default-mp_length.ensures.none types.MpReachNlri value (omega (arith, size, c.from-fixed.ensures)) in
    let own = rw c.side.ensures at c.in-Some.ensures.some in
    too_large c.args.link.now (Announces V6 ps path)
    (omega (arith, long, own, c.field_room-most.ensures, c.in-Some.ensures.fits, length-append (attribute_octets mp) (flat_map attribute_octets (path_attributes (side_of c.args.link.now) path))))

pub returns-clause-some : goal.returns-clause-some
returns-clause-some g c =
    let ps = c.args.prefixes.now in
    let path = c.args.path.now in
    let value = reach_octets path.next_hop ps in
    let mp = attribute_with types.MpReachNlri value in
    let hop = ap (λ (p : PathValue). length (hop_octets p.next_hop)) c.parts.ensures.value in
    let size : length value ≡ c.in-Some-mp_length.mp.value = omega (arith, reach_len path.next_hop ps, hop, c.hop_len.ensures.len, c.from-fixed.ensures, c.in-Some-mp_length.ensures.value) in
    let long = c.in-Some-mp_length.ensures.attribute types.MpReachNlri value size in
    let own = rw c.side.ensures at c.in-Some.ensures.some in
    record {
      withdrawn = refl;
      mp_value = omega (arith, size);
      attributes = omega (arith, long, own, length-append (attribute_octets mp) (flat_map attribute_octets (path_attributes (side_of c.args.link.now) path)));
      nlri = refl;
      room = omega (arith, c.field_room-most.ensures, c.in-Some.ensures.fits, c.in-Some-mp_length.ensures.fits);
      fits = (c.in-Some-mp_length.ensures.each, c.path_is_fit.ensures);
    }
