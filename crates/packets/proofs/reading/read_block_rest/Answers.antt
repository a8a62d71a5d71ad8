use Rattle.std.proofs.Common.{sym, subst}
use Rattle.packets.specs.declared.blocks.BlockKind.{BlockKind}
use Rattle.packets.specs.declared.blocks.BlockKind.TheVariants as blocks
use Rattle.packets.specs.Reading.{IsRestRead}
use Rattle.packets.proofs.Exits.{ok_then}
use Rattle.packets.proofs.BlockPlaces.{other_rest}
use Rattle.packets.proofs.reading.read_block_rest.Goals as goal

pub returns-in-Section-clause-ok : goal.returns-in-Section-clause-ok
returns-in-Section-clause-ok g c =
    ok_then c.read_section.result _ _ (λ read made.
    let (octets, given, is) = made in (
      octets,
      given,
      λ context behind.
          subst (λ (k : BlockKind). IsRestRead c.args.order c.args.interfaces.now k c.args.len c.args.head.now context octets
          (g.S.Source.has_ended c.read_section.new.source) c.read_section.new.buffer read)
          (sym c.in-Section.is) (is c.args.interfaces.now context),
    ))
    c.read_section.ensures.ok

pub returns-in-Interface-clause-ok : goal.returns-in-Interface-clause-ok
returns-in-Interface-clause-ok g c =
    ok_then c.read_interface.result _ _ (λ read made.
    let (octets, given, is) = made in (
      octets,
      given,
      λ context behind.
          other_rest c.args.order c.args.interfaces.now c.args.kind blocks.Interface c.args.len c.args.head.now context octets
          (g.S.Source.has_ended c.read_interface.new.source) c.read_interface.new.buffer read c.in-Interface.is (λ e. absurd (cc e)) behind (is c.args.interfaces.now),
    ))
    c.read_interface.ensures.ok

pub returns-in-Timeless-clause-ok : goal.returns-in-Timeless-clause-ok
returns-in-Timeless-clause-ok g c =
    ok_then c.read_timeless.result _ _ (λ read made.
    let (octets, given, is) = made in (
      octets,
      given,
      λ context behind.
          other_rest c.args.order c.args.interfaces.now c.args.kind blocks.Timeless c.args.len c.args.head.now context octets
          (g.S.Source.has_ended c.read_timeless.new.source) c.read_timeless.new.buffer read c.in-Timeless.is (λ e. absurd (cc e)) behind (is c.args.interfaces.now),
    ))
    c.read_timeless.ensures.ok

pub returns-in-Enhanced-clause-ok : goal.returns-in-Enhanced-clause-ok
returns-in-Enhanced-clause-ok g c =
    ok_then c.read_enhanced.result _ _ (λ read made.
    let (octets, given, is) = made in (
      octets,
      given,
      λ context behind.
          other_rest c.args.order c.args.interfaces.now c.args.kind blocks.Enhanced c.args.len c.args.head.now context octets
          (g.S.Source.has_ended c.read_enhanced.new.source) c.read_enhanced.new.buffer read c.in-Enhanced.is (λ e. absurd (cc e)) behind is,
    ))
    c.read_enhanced.ensures.ok

pub returns-in-Other-clause-ok : goal.returns-in-Other-clause-ok
returns-in-Other-clause-ok g c =
    ok_then c.read_other.result _ _ (λ read made.
    let (octets, given, is) = made in (
      octets,
      given,
      λ context behind.
          other_rest c.args.order c.args.interfaces.now c.args.kind blocks.Other c.args.len c.args.head.now context octets
          (g.S.Source.has_ended c.read_other.new.source) c.read_other.new.buffer read c.in-Other.is (λ e. absurd (cc e)) behind (is c.args.interfaces.now),
    ))
    c.read_other.ensures.ok
