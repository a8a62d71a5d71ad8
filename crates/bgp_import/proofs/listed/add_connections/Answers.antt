use Rattle.std.proofs.Common.{arith, reverse}
use Rattle.streams.specs.Choice.{first_packet}
use Rattle.bgp_import.specs.Listed.{IsPlaceOf}
use Rattle.bgp_import.specs.Places.{connection_in}
use Rattle.bgp_import.proofs.ListedSoFar.{up_to_more}
use Rattle.bgp_import.proofs.listed.add_connections.Goals as goal

pub add_connection-requires-clause-last : goal.add_connection-requires-clause-last
add_connection-requires-clause-last g c = λ segments holds. omega (arith, c.count-index-end.ensures segments holds, c.loop-index-test.true)

pub loop-index-preserved : goal.loop-index-preserved
loop-index-preserved g c =
    let so = c.loop-index.invariant in
    let is = c.in_ok-add_connection.ensures in
    record {
      listed = λ port packets o h all. is.listed port packets o h (so.listed port packets o h all);
      keeps = λ place some. is.keeps place (so.keeps place some);
      adds = λ segments holds number first last.
          up_to_more (λ n. IsPlaceOf c.add_connection.new.listed (first_packet (connection_in segments n))) c.loop-index.index number
          (λ below. is.keeps _ (so.adds segments holds number first below)) (is.adds segments holds) last;
    }

pub returns-clause-adds : goal.returns-clause-adds
returns-clause-adds g c = λ segments holds number is.
    c.loop-index.invariant.adds segments holds number is.0 (omega (arith, is.1, c.count-index-end.ensures (reverse segments) holds, c.loop-index-test.false))
