use Rattle.std.specs.Prelude.{codes}
use Rattle.bgp_values.specs.ErrorData.{error_of}
use Rattle.bgp_json_values.specs.ErrorJson.{plain_error_members}
use Rattle.bgp_json_values.specs.Objects.{object_of}
use Rattle.bgp_json_values.proofs.Members.{member, object}
use Rattle.bgp_json_values.proofs.errors.put_cause.Goals as goal

pub returns-in_ok-put_plain_error-in-Some : goal.returns-in_ok-put_plain_error-in-Some
returns-in_ok-put_plain_error-in-Some g c =
    let said = plain_error_members (error_of c.in-Some.cause) in
    let cause = object said c.in_ok-begin_object-in-Some.ensures c.in_ok-put_plain_error-in-Some.ensures c.end_object.ensures in
    rw c.in-Some.is (member (codes "cause") (object_of said) c.in_ok-key-in-Some.ensures cause)
