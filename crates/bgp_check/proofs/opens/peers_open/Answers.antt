use Rattle.std.proofs.Common.{List, None, Some, map, refl, subst, sym}
use Rattle.std.proofs.Math.ListN.{drop_of_length-le}
use Rattle.mrt.specs.Reader.{shown_of}
use Rattle.mrt.specs.declared.record.Record.{Record}
use Rattle.bgp_parts.specs.Opens.{HasPeersOpen, IsOpenMessage}
use Rattle.bgp_check.proofs.FirstOpens.{received_here, received_behind}
use Rattle.bgp_check.proofs.opens.peers_open.Goals as goal

pub loop-record-init : goal.loop-record-init
loop-record-init c = λ it has. has

pub returns-in-Some : goal.returns-in-Some
returns-in-Some c =
    c.loop-record.invariant (Some c.in-Some.octets.now)
    (received_here c.args.records.now c.loop-record.record-index _ c.loop-record-test.true IsOpenMessage c.in-Some.octets.now c.in-Some.ensures.some)

pub loop-record-preserved : goal.loop-record-preserved
loop-record-preserved c = λ it later.
    c.loop-record.invariant it (received_behind c.args.records.now c.loop-record.record-index _ c.loop-record-test.true IsOpenMessage it c.in-None.ensures.none later)

pub returns : goal.returns
returns c =
    c.loop-record.invariant None
    (subst (λ (v : List Record). HasPeersOpen (map shown_of v) None) (sym (drop_of_length-le c.args.records.now c.loop-record-test.false)) refl)
