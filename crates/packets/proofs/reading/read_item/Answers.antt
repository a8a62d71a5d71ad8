use Rattle.std.proofs.Common.{sym, subst}
use Rattle.packets.specs.Recording.{judgement_at}
use Rattle.packets.specs.Reading.{context_of, IsReadAs, IsBegunAs}
use Rattle.packets.specs.declared.progress.Format.{Format}
use Rattle.packets.proofs.Exits.{ok_then, err_then}
use Rattle.packets.proofs.StartPlaces.{at_start, at_packet, at_block, start_begun, packet_is_begun, block_is_begun}
use Rattle.packets.proofs.reading.read_item.Goals as goal

pub returns-in-Unknown-clause-ok : goal.returns-in-Unknown-clause-ok
returns-in-Unknown-clause-ok g c =
    ok_then c.read_start.result _ _ (λ read made.
    let (octets, given, is, within) = made in (
      octets,
      given,
      subst (λ (f : Format). IsReadAs (judgement_at (context_of f c.args.interfaces.now)) (context_of f c.args.interfaces.now) octets
          (g.S.Source.has_ended c.read_start.new.source) c.read_start.new.buffer read) (sym c.in-Unknown.is)
          (at_start octets (g.S.Source.has_ended c.read_start.new.source) c.read_start.new.buffer read is),
      within,
    ))
    c.read_start.ensures.ok

pub returns-in-Unknown-clause-err : goal.returns-in-Unknown-clause-err
returns-in-Unknown-clause-err g c =
    err_then c.read_start.result _ _ (λ made.
    let (taken, given, begun) = made in (
      taken,
      given,
      subst (λ (f : Format). IsBegunAs (judgement_at (context_of f c.args.interfaces.now)) taken) (sym c.in-Unknown.is) (start_begun taken begun),
    ))
    c.read_start.ensures.err

pub returns-in-Pcap-clause-ok : goal.returns-in-Pcap-clause-ok
returns-in-Pcap-clause-ok g c =
    ok_then c.read_packet.result _ _ (λ read made.
    let (octets, given, is, within) = made in (
      octets,
      given,
      subst (λ (f : Format). IsReadAs (judgement_at (context_of f c.args.interfaces.now)) (context_of f c.args.interfaces.now) octets
          (g.S.Source.has_ended c.read_packet.new.source) c.read_packet.new.buffer read) (sym c.in-Pcap.is)
          (at_packet c.in-Pcap.magic c.in-Pcap.link_type octets (g.S.Source.has_ended c.read_packet.new.source) c.read_packet.new.buffer read is),
      within,
    ))
    c.read_packet.ensures.ok

pub returns-in-Pcap-clause-err : goal.returns-in-Pcap-clause-err
returns-in-Pcap-clause-err g c =
    err_then c.read_packet.result _ _ (λ made.
    let (taken, given, begun) = made in (
      taken,
      given,
      subst (λ (f : Format). IsBegunAs (judgement_at (context_of f c.args.interfaces.now)) taken) (sym c.in-Pcap.is)
          (packet_is_begun c.in-Pcap.magic c.in-Pcap.link_type taken begun),
    ))
    c.read_packet.ensures.err

pub returns-in-Pcapng-clause-ok : goal.returns-in-Pcapng-clause-ok
returns-in-Pcapng-clause-ok g c =
    ok_then c.read_block.result _ _ (λ read made.
    let (octets, given, is, within) = made in (
      octets,
      given,
      subst (λ (f : Format). IsReadAs (judgement_at (context_of f c.args.interfaces.now)) (context_of f c.args.interfaces.now) octets
          (g.S.Source.has_ended c.read_block.new.source) c.read_block.new.buffer read) (sym c.in-Pcapng.is)
          (at_block c.in-Pcapng.order c.args.interfaces.now octets (g.S.Source.has_ended c.read_block.new.source) c.read_block.new.buffer read is),
      within,
    ))
    c.read_block.ensures.ok

pub returns-in-Pcapng-clause-err : goal.returns-in-Pcapng-clause-err
returns-in-Pcapng-clause-err g c =
    err_then c.read_block.result _ _ (λ made.
    let (taken, given, begun) = made in (
      taken,
      given,
      subst (λ (f : Format). IsBegunAs (judgement_at (context_of f c.args.interfaces.now)) taken) (sym c.in-Pcapng.is)
          (block_is_begun c.in-Pcapng.order c.args.interfaces.now taken begun),
    ))
    c.read_block.ensures.err
