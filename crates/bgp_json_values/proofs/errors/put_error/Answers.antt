use Rattle.bgp_values.specs.ErrorData.{cause_of, error_of}
use Rattle.bgp_json_values.specs.ErrorJson.{cause_members, plain_error_members}
use Rattle.bgp_json_values.proofs.Members.{then_members}
use Rattle.bgp_json_values.proofs.errors.put_error.Goals as goal

pub returns : goal.returns
returns g c =
    let said = error_of c.args.error in
    then_members (plain_error_members said) (cause_members (cause_of said)) c.in_ok-put_plain_error.ensures (rw c.cause_of.ensures at c.put_cause.ensures)
