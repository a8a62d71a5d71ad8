use Rattle.std.proofs.Common.{refl}
use Rattle.bgp_values.specs.ErrorData.{error_of}
use Rattle.bgp_explain.specs.SentLine.{error_line}
use Rattle.bgp_explain.proofs.sent_line.put_error.Goals as goal

pub returns : goal.returns
returns g c =
    let error = error_of c.in-Some.error in
    (error_line error, (error, c.in-Some.ensures.some, refl), c.put_data.ensures)
