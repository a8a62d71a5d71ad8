use Rattle.std.proofs.Common.{map}
use Rattle.bgp_judge.specs.Verdict.{verdict_value}
use Rattle.mrt.specs.Reader.{shown_of}
use Rattle.bgp_check_text.proofs.Reasons.{tells_number}
use Rattle.bgp_check_text.proofs.reason.reason_of.Goals as goal

pub reason_under-requires-clause-number : goal.reason_under-requires-clause-number
reason_under-requires-clause-number g c =
    let judged = c.in-Judged.judged in
    let records = map shown_of c.args.records.now in
    let (session, answers) = c.requires in
    let is = rw c.in-Judged.is at answers in
    tells_number session records judged.as_number judged.peer_as judged.under (verdict_value judged.verdict) is

pub reason_under-requires-clause-holds : goal.reason_under-requires-clause-holds
reason_under-requires-clause-holds g c =
    let judged = c.in-Judged.judged in
    let records = map shown_of c.args.records.now in
    let (session, answers) = c.requires in
    let is = rw c.in-Judged.is at answers in
    (c.a_verdict_holds_under_its_configuration.ensures session records judged.as_number judged.peer_as judged.under (verdict_value judged.verdict) is).0

pub returns-in-Judged : goal.returns-in-Judged
returns-in-Judged g c = λ session answers.
    let judged = c.in-Judged.judged in
    let records = map shown_of c.args.records.now in
    let is = rw c.in-Judged.is at answers in
    let law = c.a_verdict_holds_under_its_configuration.ensures session records judged.as_number judged.peer_as judged.under (verdict_value judged.verdict) is in
    rw c.in-Judged.is (c.reason_under.ensures session law.1)
