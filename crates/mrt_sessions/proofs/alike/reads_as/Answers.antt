use Rattle.std.proofs.Common.{◌∙◌, map, sym}
use Rattle.mrt.specs.Reader.{shown_of}
use Rattle.mrt_sessions.proofs.Awaiting.{all_read, is_empty, none_left, read_no_further, read_on}
use Rattle.mrt_sessions.proofs.alike.reads_as.Goals as goal

pub loop-next-preserved : goal.loop-next-preserved
loop-next-preserved c =
    read_on c.args.session.now c.args.named.now (map shown_of c.args.records.now) c.loop-next.awaited c.loop-next.next-index c.loop-next.invariant
    c.next-item.result c.in-Some.behind c.loop-next-test.true c.next-item.is c.in-Some.ensures

pub returns-in_default : goal.returns-in_default
returns-in_default c = (
  λ no. let k : ⊥ = cc in absurd k,
  λ reads. absurd (read_no_further c.args.session.now c.args.named.now (map shown_of c.args.records.now) c.loop-next.awaited c.loop-next.next-index c.loop-next.invariant
      c.next-item.result c.loop-next-test.true c.next-item.is c.in_default.ensures reads),
)

pub returns : goal.returns
returns c =
    let left = c.loop-next.awaited.records.now in
    let reads = all_read c.args.session.now c.args.named.now (map shown_of c.args.records.now) c.loop-next.awaited c.loop-next.next-index c.loop-next.invariant c.loop-next-test.false in (
      λ is. reads.1 (none_left left (sym c.is_empty.ensures ∙ is)),
      λ all. c.is_empty.ensures ∙ is_empty left (reads.0 all),
    )
