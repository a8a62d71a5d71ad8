use Rattle.std.proofs.Common.{Option, Some, [], refl, subst}
use Rattle.bgp_prefix.specs.Shown.{ShownRecord}
use Rattle.bgp_explain.specs.Details.{AreDetailsOf}
use Rattle.bgp_explain.specs.Lacked.{lacked_of}
use Rattle.bgp_explain.specs.Reason.{HasReason}
use Rattle.bgp_explain.proofs.Telling.{deed_said}
use Rattle.bgp_explain.proofs.records.put_deed_of.Goals as goal

pub returns-in-Yes : goal.returns-in-Yes
returns-in-Yes g c = λ config records details are. rw c.in-Yes.is ([], refl, c.put.ensures)

pub returns-in-Unfinished : goal.returns-in-Unfinished
returns-in-Unfinished g c = λ config records details are. rw c.in-Unfinished.is ([], refl, c.put-in-Unfinished.ensures)

pub returns-in-Some : goal.returns-in-Some
returns-in-Some g c = λ config records details are.
    let explained = c.args.explained.now in
    let lacked = lacked_of c.args.details.now.lacks in
    let (text, is, wrote) = c.put_deed_text.ensures in
    let has = rw (c.in-No.is, c.in-Some.is) at are.reason in
    let detailed = rw c.in-Some.is at details in
    rw c.in-No.is (text, deed_said config c.args.style.now c.args.session.now g.row.A.Denot c.args.peer.now records _ c.in-Some.reason lacked text has detailed.lacks is, wrote)

pub returns-in_default : goal.returns-in_default
returns-in_default g c = λ config records details are. absurd (rw c.in_default.is at details)
