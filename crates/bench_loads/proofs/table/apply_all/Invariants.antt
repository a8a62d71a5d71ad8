use Rattle.std.proofs.Common.{◌≡◌, ◌≤◌}
use Rattle.bench_loads.proofs.table.apply_all.Given as goal

-- no read has failed, and the reader has passed no more than was given
abbrev pub invariant-loop : goal.invariant-loop
invariant-loop g l = record {
  calm : g.S.Source.failures l.source ≡ g.S.Source.failures l.fn.source;
  one_source : l.records.passed ≤ g.S.Source.given_count l.source;
}
