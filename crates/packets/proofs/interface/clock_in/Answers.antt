use Rattle.std.proofs.Common.{◌≡◌, ◌∙◌, ℤ, ℕ, List, suc, sym, ap, length, rules, w64}
use Rattle.std.proofs.lemmas.Int.{to_z-of_z}
use mir.Val.{to_z, of_z, SFits}
use Rattle.packets.specs.declared.clock.Clock.{Clock}
use Rattle.packets.specs.declared.order.Order.{Order}
use Rattle.packets.specs.Pcapng.{clock_by}
use Rattle.packets.proofs.Options.{by_last, by_faulty, by_resolution, by_offset, by_skip, behind}
use Rattle.packets.proofs.interface.clock_in.Goals as goal

-- a signed number is read as it was written
read_back : (order : Order) (clock : Clock) (rest : List ℕ) → SFits w64 clock.offset
    → clock_by (suc (length rest)) order (record clock { offset = to_z w64 (of_z w64 clock.offset) }) rest ≡ clock_by (suc (length rest)) order clock rest
read_back order clock rest fits =
    ap (λ (z : ℤ). clock_by (suc (length rest)) order (record clock { offset = z }) rest) (to_z-of_z w64 clock.offset fits)

pub returns-in-Last : goal.returns-in-Last
returns-in-Last c = sym (by_last (length c.each.rest.now) c.args.order c.each.clock c.each.rest.now (sym c.in-Last.ensures.value)) ∙ c.each.invariant

pub returns-in-Faulty : goal.returns-in-Faulty
returns-in-Faulty c = sym (by_faulty (length c.each.rest.now) c.args.order c.each.clock c.each.rest.now (sym c.in-Faulty.ensures.value)) ∙ c.each.invariant

pub each-preserved-in-Resolution : goal.each-preserved-in-Resolution
each-preserved-in-Resolution c =
    let rest = c.each.rest.now in
    let within = c.in-Resolution.ensures.within in
    let fits : SFits w64 c.each.clock.offset = search rules in
    read_back c.args.order (record c.each.clock { resolution = c.in-Resolution.resolution }) c.split_at.result.1.now fits
    ∙ behind c.args.order c.each.clock (record c.each.clock { resolution = c.in-Resolution.resolution }) rest c.split_at.result.1.now c.in-Resolution.len
    within.0 within.1 c.split_at.ensures.back
    (by_resolution (length rest) c.args.order c.each.clock rest c.in-Resolution.resolution c.in-Resolution.len (sym c.in-Resolution.ensures.value))
    ∙ c.each.invariant

pub each-preserved-in-Offset : goal.each-preserved-in-Offset
each-preserved-in-Offset c =
    let rest = c.each.rest.now in
    let within = c.in-Offset.ensures.within in
    let fits : SFits w64 c.in-Offset.offset = search rules in
    read_back c.args.order (record c.each.clock { offset = c.in-Offset.offset }) c.split_at-in-Offset.result.1.now fits
    ∙ behind c.args.order c.each.clock (record c.each.clock { offset = c.in-Offset.offset }) rest c.split_at-in-Offset.result.1.now c.in-Offset.len
    within.0 within.1 c.split_at-in-Offset.ensures.back
    (by_offset (length rest) c.args.order c.each.clock rest c.in-Offset.offset c.in-Offset.len (sym c.in-Offset.ensures.value))
    ∙ c.each.invariant

pub each-preserved : goal.each-preserved
each-preserved c =
    let rest = c.each.rest.now in
    let within = c.in-Skips.ensures.within in
    behind c.args.order c.each.clock c.each.clock rest c.split_at-in-Skips.result.1.now c.in-Skips.len
    within.0 within.1 c.split_at-in-Skips.ensures.back
    (by_skip (length rest) c.args.order c.each.clock rest c.in-Skips.len (sym c.in-Skips.ensures.value))
    ∙ c.each.invariant
