use Rattle.std.proofs.Common.{◌≡◌, ◌+◌, subst, List, ℕ, ◌++◌, take, length, length-append, arith, Some}
use Rattle.std.proofs.lemmas.List.{take_all}
use Rattle.packets.specs.Reading.{IsInBuffer}
use Rattle.packets.proofs.Exits.{on_err, ok_then, err_then}
use Rattle.packets.proofs.BlockPlaces.{block_head_begun}
use Rattle.packets.proofs.reading.read_block.Goals as goal

pub returns-in_err-filled-clause-err : goal.returns-in_err-filled-clause-err
returns-in_err-filled-clause-err g c =
    let (taken, given, fewer) = c.in_err-filled.ensures.err in
    let many : length c.fill.new.buffer ≡ 12 = c.fill.ensures.room in
    on_err c.from_residual.result _ (taken, given, block_head_begun (Some c.args.order) c.args.interfaces.now taken (omega (arith, fewer)))

pub returns-clause-ok : goal.returns-clause-ok
returns-clause-ok g c =
    let front = c.fill.new.buffer in
    let many : length front ≡ 12 = c.fill.ensures.room in
    let all : take c.in_ok-filled.filled front ≡ front = take_all _ _ (omega arith) in
    let gave = subst (λ (o : List ℕ). g.S.Source.gives c.args.source.now c.fill.new.source o) all c.in_ok-filled.ensures.ok in
    ok_then c.read_headed_block.result _ _ (λ read made.
    let (octets, given, is, within) = made in
    let both = length-append front octets in (
      front ++ octets,
      g.met.S.Source.joined _ _ _ _ _ gave given,
      is,
      subst (λ (n : ℕ). IsInBuffer n (g.S.Source.has_ended c.read_headed_block.new.source) c.read_headed_block.new.buffer read)
          (let same : 12 + length octets ≡ length (front ++ octets) = omega arith in same) within,
    ))
    c.read_headed_block.ensures.ok

pub returns-clause-err : goal.returns-clause-err
returns-clause-err g c =
    let front = c.fill.new.buffer in
    let many : length front ≡ 12 = c.fill.ensures.room in
    let all : take c.in_ok-filled.filled front ≡ front = take_all _ _ (omega arith) in
    let gave = subst (λ (o : List ℕ). g.S.Source.gives c.args.source.now c.fill.new.source o) all c.in_ok-filled.ensures.ok in
    err_then c.read_headed_block.result _ _ (λ made.
    let (taken, given, begun) = made in
    (front ++ taken, g.met.S.Source.joined _ _ _ _ _ gave given, begun))
    c.read_headed_block.ensures.err
