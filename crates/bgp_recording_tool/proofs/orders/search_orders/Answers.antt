use Rattle.std.proofs.Common.{reverse, length, subst}
use Rattle.bgp_judge.specs.Verdict.{verdict_value}
use Rattle.bgp_recording.specs.declared.framing.Framings.{Framings}
use Rattle.bgp_import.proofs.InOrder.{in_order}
use Rattle.bgp_import.proofs.Telling.{are_covered, is_clocked}
use Rattle.bgp_recording_tool.specs.Connections.{IsFoundOver, IsInsteadOver}
use Rattle.bgp_recording_tool.specs.Found.{entries_of, found_of}
use Rattle.bgp_recording_tool.proofs.Answered.{not_unchosen}
use Rattle.bgp_recording_tool.proofs.Searchings.{both_ok, found_so, instead_so}
use Rattle.bgp_recording_tool.proofs.orders.search_orders.Goals as goal

pub search_connection-requires-clause-received : goal.search_connection-requires-clause-received
search_connection-requires-clause-received g c =
    let h = c.requires.holds in
    let answered = rw c.in-Ok.is at (c.choose.ensures (reverse h.segments) (length h.packets) h.holds) in
    (are_covered _ _ _ c.in-Ok.connection answered).0

pub search_connection-requires-clause-sent : goal.search_connection-requires-clause-sent
search_connection-requires-clause-sent g c =
    let h = c.requires.holds in
    let answered = rw c.in-Ok.is at (c.choose.ensures (reverse h.segments) (length h.packets) h.holds) in
    (are_covered _ _ _ c.in-Ok.connection answered).1

pub returns-in_default-clause-found : goal.returns-in_default-clause-found
returns-in_default-clause-found g c = λ packets segments taken holds is.
    absurd (not_unchosen c.args.number (length packets) (reverse segments) is.connection c.in_default.field-0 is.chosen
    (rw c.in_default.is at (c.choose.ensures (reverse segments) (length packets) holds)))

pub returns-clause-found : goal.returns-clause-found
returns-clause-found g c =
    let config = c.args.config.now in
    let wanted = c.args.import.now in
    let connection = c.in-Ok.connection in
    let made = c.args.made.now in
    let verdict = verdict_value c.args.verdict.now in
    both_ok c.search_connection.result _ _ _
    (λ searched sought over packets segments taken holds is.
    let answered = rw c.in-Ok.is at (c.choose.ensures (reverse segments) (length packets) holds) in
    let clocked = is_clocked (reverse segments) _ (length packets) connection (in_order _ packets segments taken) answered in
    found_so config wanted packets segments c.args.number connection made verdict searched taken is answered (c.is_yes.ensures.no c.if-is_yes.false) sought
    (subst (λ (f : Framings). IsFoundOver config wanted.within f connection verdict (entries_of searched) (found_of searched)) c.of_session-framings.ensures (over clocked)))
    c.search_connection.ensures.sought c.search_connection.ensures.found

pub returns-clause-instead : goal.returns-clause-instead
returns-clause-instead g c =
    let config = c.args.config.now in
    let wanted = c.args.import.now in
    let connection = c.in-Ok.connection in
    let made = c.args.made.now in
    let verdict = verdict_value c.args.verdict.now in
    both_ok c.search_connection.result _ _ _
    (λ searched sought over packets segments taken holds.
    let answered = rw c.in-Ok.is at (c.choose.ensures (reverse segments) (length packets) holds) in
    let clocked = is_clocked (reverse segments) _ (length packets) connection (in_order _ packets segments taken) answered in
    instead_so config wanted packets segments c.args.report c.args.number connection made verdict (found_of searched) answered
    (subst (λ (f : Framings). IsInsteadOver c.args.report config wanted.within f connection made verdict (found_of searched)) c.of_session-framings.ensures (over clocked)))
    c.search_connection.ensures.sought c.search_connection.ensures.instead
