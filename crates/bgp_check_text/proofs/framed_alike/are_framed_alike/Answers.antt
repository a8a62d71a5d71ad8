use Rattle.std.proofs.Common.{List, IsTrue, subst}
use Rattle.bgp_recording.specs.Captured.{records_of}
use Rattle.bgp_recording.specs.declared.entry.Entry.{Entry}
use Rattle.bgp_check_text.specs.FramedAlike.{ArePlain}
use Rattle.bgp_check_text.proofs.FramedAlike.{found_by}
use Rattle.bgp_check_text.proofs.framed_alike.are_framed_alike.Goals as goal

pub returns-then-finds_the_same : goal.returns-then-finds_the_same
returns-then-finds_the_same g c = λ is_so within connection recorded.
    let made = c.args.made.now in
    let old = c.args.old in
    let new = c.args.new in
    let plain : IsTrue c.are_plain-are_short.result → ArePlain (records_of made.entries.items) =
    λ is. subst (λ (entries : List Entry). ArePlain (records_of entries)) c.as_slice.ensures.value (c.are_plain-are_short.ensures.0 is) in
    c.records_are_framed_alike.ensures old new within connection made.entries.items made.received made.sent
    (found_by old.received new.received made.received plain (c.finds_the_same.ensures c.if-finds_the_same.true))
    (found_by old.sent new.sent made.sent plain (c.finds_the_same-then-finds_the_same.ensures is_so)) recorded
