use Rattle.std.proofs.Common.{◌≡◌, ◌+◌, ◌++◌, ℕ, List, length, arith, append_assoc}
use Rattle.std.specs.List.{flat_map}
use Rattle.byteorder.specs.Endian.{big_bytes}
use Rattle.bgp_open.specs.declared.link.Link.{Link}
use Rattle.bgp_wire.specs.Header.{header_octets}
use Rattle.bgp_wire.specs.Message.{message_octets}
use Rattle.bgp_attr.specs.Field.{attribute_octets}
use Rattle.bgp_update.specs.Sections.{section_octets}
use Rattle.bgp_update_writer.specs.declared.lengths.Lengths.{Lengths}
use Rattle.bgp_update_writer.specs.Update.{UpdateValue, update_value}
use Rattle.bgp_update_writer.specs.Written.{withdrawn_octets, announced_octets, written_attributes, written_sections, update_octets}
use Rattle.bgp_update_writer.specs.Lengths.{AreLengths}
use Rattle.bgp_update_writer.proofs.Measured.{length_of_update}
use Rattle.bgp_update_writer.proofs.WrittenSections.{length-section_octets}
use Rattle.bgp_update_writer.proofs.writing.put_update.Goals as goal

joined : (link : Link) (value : UpdateValue) (n : Lengths) (old a b c d e f : List ℕ) (count : ℕ) → AreLengths link value n
    → count ≡ 23 + n.withdrawn + n.attributes + n.nlri
    → a ≡ old ++ header_octets 2 count → b ≡ a ++ big_bytes 2 n.withdrawn → c ≡ b ++ withdrawn_octets value → d ≡ c ++ big_bytes 2 n.attributes
    → e ≡ d ++ flat_map attribute_octets (written_attributes link value) → f ≡ e ++ announced_octets value → f ≡ old ++ update_octets link value
unfolding message_octets
joined link value n old a b c d e f count are is ha hb hc hd he hf =
    let s = written_sections link value in
    let total : count ≡ 19 + length (section_octets s) = omega (arith, is, are.withdrawn, are.attributes, are.nlri, length-section_octets s) in
    rw (hf, he, hd, hc, hb, ha, total, are.withdrawn, are.attributes) (simp append_assoc)

pub put_header-requires : goal.put_header-requires
put_header-requires g c = omega (arith, c.requires.room, length_of_update c.args.link.now (update_value c.args.update.now))

pub put_u16-requires : goal.put_u16-requires
put_u16-requires g c = omega (arith, c.requires.room, length_of_update c.args.link.now (update_value c.args.update.now))

pub put_withdrawn-requires : goal.put_withdrawn-requires
put_withdrawn-requires g c = omega (arith, c.requires.room, length_of_update c.args.link.now (update_value c.args.update.now))

pub put_u16-requires-2 : goal.put_u16-requires-2
put_u16-requires-2 g c = omega (arith, c.requires.room, length_of_update c.args.link.now (update_value c.args.update.now))

pub put_attributes-requires-clause-room : goal.put_attributes-requires-clause-room
put_attributes-requires-clause-room g c = omega (arith, c.requires.room, length_of_update c.args.link.now (update_value c.args.update.now))

pub put_nlri-requires : goal.put_nlri-requires
put_nlri-requires g c = omega (arith, c.requires.room, length_of_update c.args.link.now (update_value c.args.update.now))

pub returns : goal.returns
returns g c =
    joined c.args.link.now (update_value c.args.update.now) c.args.lengths c.args.out.now.items c.put_header.new.out.items c.put_u16.new.out.items c.put_withdrawn.new.out.items c.put_u16-2.new.out.items c.put_attributes.new.out.items c.put_nlri.new.out.items c.message.result
    c.requires.lengths c.message.ensures c.put_header.ensures.items c.put_u16.ensures.items c.put_withdrawn.ensures.items c.put_u16-2.ensures.items c.put_attributes.ensures.items c.put_nlri.ensures.items
