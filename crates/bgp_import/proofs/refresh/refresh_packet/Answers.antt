use Rattle.std.proofs.Common.{refl, subst, sym, List, None}
use Rattle.std.proofs.Math.ListN.{drop_of_length-le}
use Rattle.bgp_recording.specs.declared.entry.Entry.{Entry}
use Rattle.bgp_import.specs.Refreshes.{IsRefreshPacket}
use Rattle.bgp_import.proofs.Refreshed.{refresh_here, refresh_behind}
use Rattle.bgp_import.proofs.refresh.refresh_packet.Goals as goal

pub loop-entry-init : goal.loop-entry-init
loop-entry-init c = λ packet is. is

pub returns-then-is_refresh_from : goal.returns-then-is_refresh_from
returns-then-is_refresh_from c =
    c.loop-entry.invariant _
    (refresh_here c.args.entries.now c.loop-entry.entry-index _ c.loop-entry-test.true c.args.from (c.is_refresh_from.ensures.0 c.if-is_refresh_from.true))

pub loop-entry-preserved : goal.loop-entry-preserved
loop-entry-preserved c = λ packet later.
    c.loop-entry.invariant packet
    (refresh_behind c.args.entries.now c.loop-entry.entry-index _ c.loop-entry-test.true c.args.from packet
    (λ is. let yes = c.is_refresh_from.ensures.1 is in let no = c.if-is_refresh_from.false in cc) later)

pub returns : goal.returns
returns c =
    c.loop-entry.invariant None
    (subst (λ (q : List Entry). IsRefreshPacket c.args.from q None) (sym (drop_of_length-le c.args.entries.now c.loop-entry-test.false)) refl)
