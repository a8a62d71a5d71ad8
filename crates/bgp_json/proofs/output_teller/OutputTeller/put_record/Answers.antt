use Rattle.bgp_json.proofs.Outputs.{as_output}
use Rattle.bgp_json.proofs.output_teller.OutputTeller.put_record.Goals as goal

pub returns-in-Json-clause-line : goal.returns-in-Json-clause-line
returns-in-Json-clause-line g c = rw c.in-Json.is (λ before known.
    let (line, is, puts) = c.put_record-in-Json.ensures.line before known in
    (line, is, as_output c.in-Json.teller.as2 _ _ _ line puts))

pub returns-in-Json-clause-knows : goal.returns-in-Json-clause-knows
returns-in-Json-clause-knows g c = rw c.in-Json.is (λ before known. c.put_record-in-Json.ensures.knows before known)
