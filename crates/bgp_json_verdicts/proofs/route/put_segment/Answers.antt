use Rattle.bgp_tool.proofs.Tokens.{array}
use Rattle.bgp_json_values.specs.Objects.{array_of, number_of}
use Rattle.bgp_json_verdicts.proofs.Parts.{lone, sequence_values}
use Rattle.bgp_json_verdicts.proofs.route.put_segment.Goals as goal

pub returns-in-Sequence : goal.returns-in-Sequence
returns-in-Sequence g c =
    let put = rw c.numbers.ensures.numbers at c.put_numbers.ensures in
    rw (← c.in-Sequence.ensures.kind) (rw (sequence_values c.args.segment.now.numbers) at put)

pub returns-in_ok-put_numbers-in-Set : goal.returns-in_ok-put_numbers-in-Set
returns-in_ok-put_numbers-in-Set g c =
    let put = rw c.numbers-in-Set.ensures.numbers at c.in_ok-put_numbers-in-Set.ensures in
    let numbers = c.args.segment.now.numbers in
    rw (← c.in-Set.ensures.kind) (lone (array_of number_of numbers) (array number_of numbers c.in_ok-begin_array-in-Set.ensures put c.end_array.ensures))
