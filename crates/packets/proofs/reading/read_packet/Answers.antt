use Rattle.std.proofs.Common.{◌≡◌, ◌∙◌, ap, sym, subst, List, ℕ, ◌++◌, take, drop, length, length-append, append-nil, append_assoc, arith}
use Rattle.std.proofs.lemmas.List.{take_all, length-take-le}
use Rattle.packets.specs.Judgement.{Told}
use Rattle.packets.specs.Pcap.{PacketHeader, packet_header_in, packet_by, packet_at, pcap_packet}
use Rattle.packets.specs.Values.{packet_value}
use Rattle.packets.proofs.Exits.{on_err}
use Rattle.packets.proofs.Longer.{packet_begun, packet_head_begun}
use Rattle.packets.proofs.Taken.{held}
use Rattle.packets.proofs.Placing.{packet_front, packet_cut, packet_told}
use Rattle.packets.proofs.reading.read_packet.Goals as goal

pub returns-in_err-filled-clause-err : goal.returns-in_err-filled-clause-err
returns-in_err-filled-clause-err g c =
    let (taken, given, fewer) = c.in_err-filled.ensures.err in
    let many : length c.fill.new.buffer ≡ 16 = c.fill.ensures.room in
    on_err c.from_residual.result _ (taken, given, packet_head_begun c.args.magic c.args.link_type taken (omega (arith, fewer)))

pub returns-in_err-there-clause-err : goal.returns-in_err-there-clause-err
returns-in_err-there-clause-err g c =
    let (taken, given, fewer) = c.in_err-there.ensures.err in
    let front = c.fill.new.buffer in
    let many : length front ≡ 16 = c.fill.ensures.room in
    let all : take c.in_ok-filled.filled front ≡ front = take_all _ _ (omega arith) in
    let gave = subst (λ (o : List ℕ). g.S.Source.gives c.args.source.now c.fill.new.source o) all c.in_ok-filled.ensures.ok in
    let header = c.packet_header_in-header.result in
    let kept : header.kept ≡ (packet_header_in c.args.magic front).kept = ap (λ (h : PacketHeader). h.kept) c.packet_header_in-header.ensures in
    let room = length-take-le header.kept c.args.buffer.now (omega (arith, c.requires.room)) in
    on_err c.from_residual-in_err-there.result _ (
      front ++ taken,
      g.met.S.Source.joined _ _ _ _ _ gave given,
      packet_begun c.args.magic c.args.link_type front taken many (omega (arith, fewer, c.fill-2.ensures.room)),
    )

pub returns-then-there-kept-clause-ok : goal.returns-then-there-kept-clause-ok
returns-then-there-kept-clause-ok g c =
    let front = c.fill.new.buffer in
    let header = c.packet_header_in-header.result in
    let many : length front ≡ 16 = c.fill.ensures.room in
    let all : take c.in_ok-filled.filled front ≡ front = take_all _ _ (omega arith) in
    let gave = subst (λ (o : List ℕ). g.S.Source.gives c.args.source.now c.fill.new.source o) all c.in_ok-filled.ensures.ok in
    let room = length-take-le header.kept c.args.buffer.now (omega (arith, c.requires.room)) in
    let part = take c.in_ok-there.there c.fill-2.new.buffer in
    let len = length-take-le c.in_ok-there.there c.fill-2.new.buffer c.in_ok-there.ensures.bound in
    let magic = c.args.magic in
    let link = c.args.link_type in (
      front ++ part,
      g.met.S.Source.joined _ _ _ _ _ gave c.in_ok-there.ensures.ok,
      λ more told.
          let none = told tt (c.in_ok-there.ensures.ended (omega (arith, c.fill-2.ensures.room))) in
          ap (λ (m : List ℕ). packet_at magic link ((front ++ part) ++ m)) none
          ∙ ap (λ (o : List ℕ). packet_at magic link o) (append-nil (front ++ part))
          ∙ packet_front magic link front part many
          ∙ ap (λ (h : PacketHeader). packet_by link h part) (sym c.packet_header_in-header.ensures)
          ∙ packet_cut link (packet_value header) part (omega arith) (omega arith),
      λ truncated. c.in_ok-there.ensures.ended (omega (arith, c.fill-2.ensures.room)),
    )

pub returns-clause-ok : goal.returns-clause-ok
returns-clause-ok g c =
    let front = c.fill.new.buffer in
    let header = c.packet_header_in-header.result in
    let many : length front ≡ 16 = c.fill.ensures.room in
    let all : take c.in_ok-filled.filled front ≡ front = take_all _ _ (omega arith) in
    let gave = subst (λ (o : List ℕ). g.S.Source.gives c.args.source.now c.fill.new.source o) all c.in_ok-filled.ensures.ok in
    let room = length-take-le header.kept c.args.buffer.now (omega (arith, c.requires.room)) in
    let also : length c.fill-2.new.buffer ≡ header.kept = c.fill-2.ensures.room ∙ room in
    let bound = c.in_ok-there.ensures.bound in
    let whole : c.in_ok-there.there ≡ header.kept = omega (arith, bound, also) in
    let body = take c.in_ok-there.there c.fill-2.new.buffer in
    let len : length body ≡ header.kept = length-take-le c.in_ok-there.there c.fill-2.new.buffer bound ∙ whole in
    let there = held c.fill-2.new.buffer (drop header.kept c.args.buffer.now) header.kept c.in_ok-there.there also whole in
    let both = length-append front body in
    let room_left = length-append c.fill-2.new.buffer (drop header.kept c.args.buffer.now) in
    let magic = c.args.magic in
    let link = c.args.link_type in (
      front ++ body,
      g.met.S.Source.joined _ _ _ _ _ gave c.in_ok-there.ensures.ok,
      λ more told.
          ap (λ (o : List ℕ). packet_at magic link o) (append_assoc front body more)
          ∙ packet_front magic link front (body ++ more) many
          ∙ ap (λ (h : PacketHeader). packet_by link h (body ++ more)) (sym c.packet_header_in-header.ensures)
          ∙ packet_told link (packet_value header) body more (omega arith) len
          ∙ ap (λ (n : ℕ). Told n (pcap_packet link (packet_value header) body)) (omega arith)
          ∙ ap (λ (o : List ℕ). Told (length (front ++ body)) (pcap_packet link (packet_value header) o)) (sym there),
      (omega arith, omega arith),
    )
