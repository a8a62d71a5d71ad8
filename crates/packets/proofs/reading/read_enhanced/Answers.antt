use Rattle.std.proofs.Common.{◌≡◌, ◌≤◌, ◌+◌, ◌-◌, subst, List, ℕ, take, length, arith, Option, Ok}
use Rattle.std.proofs.lemmas.List.{length-take-le}
use Rattle.packets.specs.declared.fault.FaultKind.{FaultKind}
use Rattle.packets.specs.Pcapng.{enhanced_by, enhanced_in}
use Rattle.packets.specs.Reading.{IsPassedOver, told_as}
use Rattle.packets.proofs.BlockPlaces.{enhanced_read}
use Rattle.packets.proofs.reading.read_enhanced.Goals as goal

pub returns-in-Ok-clause-ok : goal.returns-in-Ok-clause-ok
returns-in-Ok-clause-ok g c =
    let (octets, given, over, held) = c.in_ok-fault.ensures.ok in
    let buffer = c.hold_block.new.buffer in
    let whole = subst (λ (f : Option FaultKind). IsPassedOver c.args.order c.args.head.now c.args.len octets (g.S.Source.has_ended c.hold_block.new.source) f) c.in_default.is over in
    let front : take (c.args.len - 12) buffer ≡ octets = held c.in_default.is in
    let many = length-take-le (c.args.len - 12) buffer (omega (arith, c.hold_block.ensures.room)) in
    let found = c.in-Ok.found in
    let told = subst (λ (o : List ℕ). told_as (12 + length o) o (Ok found) ≡ enhanced_by c.args.interfaces.now (12 + length o) (enhanced_in c.args.order c.args.head.now o) o)
    front c.in-Ok.ensures.told in
    let within = subst (λ (o : List ℕ). found.at + found.count ≤ length o) front c.in-Ok.ensures.within in (
      octets,
      given,
      enhanced_read c.args.order c.args.interfaces.now c.args.len c.args.head.now octets (g.S.Source.has_ended c.hold_block.new.source) buffer found whole front
          (omega (arith, whole.0, c.hold_block.ensures.room)) within told,
    )
