use Rattle.std.proofs.Common.{◌∙◌, [], refl, sym, subst}
use Rattle.std.proofs.Math.ListN.{drop_of_length-le}
use Rattle.bgp_import.specs.Captures.{CanBeWritten}
use Rattle.bgp_import.proofs.Entries.{here_and_behind, all_behind, written_here, begun_here, octets_all}
use Rattle.bgp_import.proofs.capture.write_entries.Goals as goal

pub loop-entry-init : goal.loop-entry-init
loop-entry-init g c = record {
  written = ([], g.met.W.Sink.nothing c.args.sink.now, refl);
  writable = c.requires.writable;
  calm = refl;
}

pub write_record-requires-clause-writable : goal.write_record-requires-clause-writable
write_record-requires-clause-writable g c =
    (here_and_behind c.args.entries.now c.loop-entry.entry-index _ c.loop-entry-test.true (CanBeWritten c.args.session.now) c.loop-entry.invariant.writable).0

pub returns-in-Err-clause-err : goal.returns-in-Err-clause-err
returns-in-Err-clause-err g c =
    let so_far = c.loop-entry.invariant.written in
    begun_here c.args.entries.now c.loop-entry.entry-index _ c.loop-entry-test.true g.W.Sink.takes g.met.W.Sink.joined c.args.session.now c.args.numbers so_far.0 _ _ _ _ so_far.2 so_far.1
    c.in-Err.ensures.err

pub returns-clause-ok : goal.returns-clause-ok
returns-clause-ok g c =
    let so_far = c.loop-entry.invariant.written in
    let all = octets_all c.args.session.now c.args.numbers _ so_far.0 _ (drop_of_length-le c.args.entries.now c.loop-entry-test.false) so_far.2 in
    subst (g.W.Sink.takes c.args.sink.now c.loop-entry.sink) (sym all) so_far.1

pub loop-entry-preserved : goal.loop-entry-preserved
loop-entry-preserved g c =
    let so_far = c.loop-entry.invariant.written in record {
      written = written_here c.args.entries.now c.loop-entry.entry-index _ c.loop-entry-test.true g.W.Sink.takes g.met.W.Sink.joined c.args.session.now c.args.numbers so_far.0 _ _ _ _ so_far.2 so_far.1
          c.in-Ok.ensures.ok;
      writable = all_behind c.args.entries.now c.loop-entry.entry-index c.loop-entry-test.true (CanBeWritten c.args.session.now) c.loop-entry.invariant.writable;
      calm = let failures = rw c.in-Ok.is at c.write_record.ensures.failures in failures ∙ c.loop-entry.invariant.calm;
    }
