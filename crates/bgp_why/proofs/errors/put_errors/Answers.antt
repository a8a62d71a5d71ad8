use Rattle.std.proofs.Common.{◌++◌, [], None, codes, get_or, refl, false, true}
use Rattle.bgp_text.proofs.Pieces.{Joins, and_then, nothing_yet}
use Rattle.bgp_why.specs.Errors.{errors_in, errors_text}
use Rattle.bgp_why.specs.Waiting.{passed}
use Rattle.bgp_why.proofs.Waiting.{none_left, one_more, still_waiting}
use Rattle.bgp_why.proofs.errors.put_errors.Goals as goal

pub loop-error-init : goal.loop-error-init
loop-error-init g c =
    ([], nothing_yet g.W.Sink g.met.W.Sink.nothing c.args.lines.now.outlet c.args.lines.now.held.items, refl, λ no. absurd cc)

pub loop-error-preserved : goal.loop-error-preserved
loop-error-preserved g c =
    let law : Joins g.W.Sink = record { joined = g.met.W.Sink.joined } in
    let so_far = c.loop-error.invariant in
    let errors = c.args.errors.now in
    let waiting = c.loop-error.waiting in
    let error = get_or errors c.loop-error.error-index None in (
      so_far.0 ++ passed waiting error,
      and_then law so_far.1 c.put_passed.ensures,
      rw c.with-waiting.ensures
          (one_more c.args.word.now so_far.0 (errors_text c.args.word.now (errors_in errors)) waiting errors c.loop-error.error-index c.loop-error-test.true so_far.3 so_far.2),
      rw c.with-waiting.ensures (still_waiting waiting error so_far.3),
    )

pub returns : goal.returns
returns g c =
    let law : Joins g.W.Sink = record { joined = g.met.W.Sink.joined } in
    let so_far = c.loop-error.invariant in
    let errors = c.args.errors.now in
    rw (none_left c.args.word.now so_far.0 (errors_text c.args.word.now (errors_in errors)) c.loop-error.waiting errors c.loop-error.error-index c.loop-error-test.false so_far.2)
    at (and_then law so_far.1 c.put_after.ensures)
