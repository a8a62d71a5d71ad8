use Rattle.std.proofs.Common.{◌∙◌, ◌+◌, None, ap, length, subst, sym}
use Rattle.std.proofs.lemmas.Result.{on_ok_weaker}
use Rattle.packets.specs.Packet.{recorded_of}
use Rattle.segments.specs.Segment.{finding_of, segment_value}
use Rattle.streams.specs.Passed.{segment_of}
use Rattle.bgp_import.specs.Selecting.{IsSentBy}
use Rattle.bgp_import.specs.Pairs.{addresses_in, selection_of}
use Rattle.bgp_import.proofs.TakenSoFar.{none_of_own, part_of_nobody, part_of_none, part_of_segment, refused_of, refused_taken, segment_taken}
use Rattle.bgp_import.proofs.talks.Talks.take_found.Goals as goal

pub returns-in-Ok-None-clause-ok : goal.returns-in-Ok-None-clause-ok
returns-in-Ok-None-clause-ok g c = λ port packets number h.
    let p = recorded_of c.args.packet.now in
    let (a, has, own_is) = c.requires.between in
    let same = c.selection_of-selection.ensures ∙ ap (selection_of c.args.addresses) h.right.is_port in
    let selected = rw (c.in-Ok-None.is, c.in-Ok-None.field-0-is) at c.segment_between.ensures in
    none_of_own port packets p c.args.self.now c.args.addresses a h (sym (ap addresses_in c.requires.found) ∙ has) own_is
    (part_of_none c.selection_of-selection.result c.args.addresses port same p c.conversation.result (finding_of c.args.found) c.conversation.ensures c.requires.found (length packets + 1) selected)

pub returns-in-Some-clause-ok : goal.returns-in-Some-clause-ok
returns-in-Some-clause-ok g c = on_ok_weaker c.take_passed.result
    (λ changes port packets number h.
    let p = recorded_of c.args.packet.now in
    let seg = segment_value c.in-Ok-Some.segment in
    let (a, has, own_is) = c.requires.between in
    let same = c.selection_of-selection.ensures ∙ ap (selection_of c.args.addresses) h.right.is_port in
    let selected = rw (c.in-Ok-Some.is, c.in-Ok-Some.field-0-is) at c.segment_between.ensures in
    let sent = subst (IsSentBy c.selection_of-selection.result seg.ends) c.in-Some.is c.sender.ensures in
    segment_taken port packets p c.args.self.now c.take_passed.new.self c.args.addresses h c.take_passed.ensures.port a (sym (ap addresses_in c.requires.found) ∙ has) own_is
    (segment_of c.passed.result)
    (part_of_segment c.selection_of-selection.result c.args.addresses port same p c.conversation.result (finding_of c.args.found) c.conversation.ensures c.requires.found
    c.args.packet.now.number (length packets + 1) seg c.in-Some.from (segment_of c.passed.result) number selected sent c.passed.ensures)
    changes)
    c.take_passed.ensures.ok

pub returns-in-None-clause-ok : goal.returns-in-None-clause-ok
returns-in-None-clause-ok g c = λ port packets number h.
    let p = recorded_of c.args.packet.now in
    let seg = segment_value c.in-Ok-Some.segment in
    let (a, has, own_is) = c.requires.between in
    let same = c.selection_of-selection.ensures ∙ ap (selection_of c.args.addresses) h.right.is_port in
    let selected = rw (c.in-Ok-Some.is, c.in-Ok-Some.field-0-is) at c.segment_between.ensures in
    let sent : IsSentBy c.selection_of-selection.result seg.ends None = subst (IsSentBy c.selection_of-selection.result seg.ends) c.in-None.is c.sender.ensures in
    none_of_own port packets p c.args.self.now c.args.addresses a h (sym (ap addresses_in c.requires.found) ∙ has) own_is
    (part_of_nobody c.selection_of-selection.result c.args.addresses port same p c.conversation.result (finding_of c.args.found) c.conversation.ensures c.requires.found (length packets + 1) seg selected sent)

pub returns-in-Err-clause-ok : goal.returns-in-Err-clause-ok
returns-in-Err-clause-ok g c = on_ok_weaker c.refuse.result
    (λ changes port packets number h.
    let p = recorded_of c.args.packet.now in
    let (a, has, own_is) = c.requires.between in
    let same = c.selection_of-selection.ensures ∙ ap (selection_of c.args.addresses) h.right.is_port in
    let selected = rw (c.in-Err.is) at c.segment_between.ensures in
    refused_taken port packets p c.args.self.now c.refuse.new.self c.args.addresses h c.refuse.ensures.port a (sym (ap addresses_in c.requires.found) ∙ has) own_is
    c.in-Err.fault c.args.packet.now.number number
    (refused_of c.selection_of-selection.result c.args.addresses port same p c.conversation.result (finding_of c.args.found) c.conversation.ensures c.requires.found c.in-Err.fault selected)
    changes)
    c.refuse.ensures.ok
