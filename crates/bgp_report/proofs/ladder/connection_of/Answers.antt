use Rattle.std.proofs.Common.{sym}
use Rattle.bgp_report.proofs.Heard.{both_of, heard}
use Rattle.bgp_report.proofs.ladder.connection_of.Goals as goal

pub returns-in-Some-clause-covered : goal.returns-in-Some-clause-covered
returns-in-Some-clause-covered g c =
    let (port, packets, held) = c.requires in
    let found = c.chosen.ensures in
    (both_of _ _ c.chosen.result (heard port packets c.args.talks.now c.in-Some.talk.now c.args.both.now.session c.args.both.now.opening.number held (sym c.in-Some.ensures.value) c.chosen.result found.fine found.answered)).1

pub returns-in-Some-clause-heard : goal.returns-in-Some-clause-heard
returns-in-Some-clause-heard g c = λ port packets held.
    let found = c.chosen.ensures in
    (both_of _ _ c.chosen.result (heard port packets c.args.talks.now c.in-Some.talk.now c.args.both.now.session c.args.both.now.opening.number held (sym c.in-Some.ensures.value) c.chosen.result found.fine found.answered)).0
