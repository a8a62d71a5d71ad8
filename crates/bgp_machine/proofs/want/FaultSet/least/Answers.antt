use Rattle.std.proofs.Common.{◌∙◌}
use Rattle.bgp_machine.proofs.LeastFaults.{least_of_header, none_of_header, least_of_open, none_of_open, least_of_update, none_of_update}
use Rattle.bgp_machine.proofs.want.FaultSet.least.Goals as goal

pub returns-in-Header-clause-some : goal.returns-in-Header-clause-some
returns-in-Header-clause-some c = rw c.in-Header.is (least_of_header c.in-Header.faults c.least.result c.least.ensures.some)

pub returns-in-Header-clause-none : goal.returns-in-Header-clause-none
returns-in-Header-clause-none c = rw c.in-Header.is (none_of_header c.in-Header.faults c.least.result c.least.ensures.none)

pub returns-in-Open-clause-some : goal.returns-in-Open-clause-some
returns-in-Open-clause-some c = rw c.in-Open.is (least_of_open c.in-Open.subcodes c.least-in-Open.result c.least-in-Open.ensures.some)

pub returns-in-Open-clause-none : goal.returns-in-Open-clause-none
returns-in-Open-clause-none c = rw c.in-Open.is (none_of_open c.in-Open.subcodes c.least-in-Open.result c.least-in-Open.ensures.none)

pub returns-in_err-subcode-in-Update-clause-none : goal.returns-in_err-subcode-in-Update-clause-none
returns-in_err-subcode-in-Update-clause-none c =
    rw c.in-Update.is (none_of_update c.in-Update.subcodes c.from_residual.result c.in_err-subcode-in-Update.ensures.none)

pub returns-in_ok-subcode-in-Update-clause-some : goal.returns-in_ok-subcode-in-Update-clause-some
returns-in_ok-subcode-in-Update-clause-some c =
    let is = c.in_ok-subcode-in-Update.ensures in
    rw c.in-Update.is
    (least_of_update c.in-Update.subcodes c.new.result c.in_ok-subcode-in-Update.subcode (c.new.ensures.code ∙ c.code-code.ensures) c.new.ensures.subcode c.new.ensures.detail is.some is.first)
