use Rattle.std.proofs.Common.{◌≡◌, refl, arith, length, length-append, []}
use Rattle.bgp_prefix.specs.declared.family.Family.TheVariants.{V6}
use Rattle.bgp_attr.specs.declared.types.AttrType.TheVariants as types
use Rattle.bgp_attr.specs.Field.{attribute_octets}
use Rattle.bgp_attr.specs.Writing.{attribute_with}
use Rattle.bgp_update_writer.specs.Update.{Withdraws}
use Rattle.bgp_update_writer.specs.Written.{unreach_octets}
use Rattle.bgp_update_writer.proofs.Measured.{too_large, unreach_len}
use Rattle.bgp_update_writer.proofs.lengths.withdrawn_v6.Goals as goal

pub returns-in_default-clause-none : goal.returns-in_default-clause-none
returns-in_default-clause-none c =
    let ps = c.args.prefixes.now in
    let mp = attribute_with types.MpUnreachNlri (unreach_octets ps) in
    let long = c.in_default.ensures.none types.MpUnreachNlri (unreach_octets ps) (unreach_len ps) in
    too_large c.args.link.now (Withdraws V6 ps) (omega (arith, c.field_room.ensures, long, length-append (attribute_octets mp) []))

pub returns-clause-some : goal.returns-clause-some
returns-clause-some c =
    let ps = c.args.prefixes.now in
    let mp = attribute_with types.MpUnreachNlri (unreach_octets ps) in
    let size : length (unreach_octets ps) ≡ c.in-Some.mp.value = omega (arith, c.in-Some.ensures.value, unreach_len ps) in
    let long = c.in-Some.ensures.attribute types.MpUnreachNlri (unreach_octets ps) size in
    record {
      withdrawn = refl;
      mp_value = omega (arith, size);
      attributes = omega (arith, long, length-append (attribute_octets mp) []);
      nlri = refl;
      room = omega (arith, c.field_room.ensures, c.in-Some.ensures.fits);
      fits = c.in-Some.ensures.each;
    }
