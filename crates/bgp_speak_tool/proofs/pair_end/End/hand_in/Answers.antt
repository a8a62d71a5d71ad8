use Rattle.std.proofs.Common.{◌≤◌, Bool, length, map, sym, subst, rules}
use Rattle.std.specs.List.{AllByRecursion}
use Rattle.bgp_speaker.specs.Shown.{shown_value}
use Rattle.bgp_prefix.specs.Shown.{ShownRecord}
use Rattle.bgp_wire.specs.Header.{greatest_length, limit_with}
use Rattle.mrt.specs.Written.{content_for}
use Rattle.bgp_talk.specs.CoreFacts.{IsShort}
use Rattle.bgp_talk.specs.Talk.{capture_of}
use Rattle.mrt.specs.FromWrite.{writer_state, Takes}
use Rattle.bgp_speak_tool.proofs.Driving.{chosen_of, drove_one}
use Rattle.bgp_speak_tool.proofs.pair_end.End.hand_in.Goals as goal

pub write_records-requires-clause-short : goal.write_records-requires-clause-short
write_records-requires-clause-short g c =
    let records = map shown_value c.in-Ok.output.records.items in
    subst (λ (r : _). AllByRecursion (IsShort c.args.self.now.config) (map shown_value r)) (sym c.as_slice.ensures.value)
    (subst (λ (long : Bool). AllByRecursion (λ (shown : ShownRecord). length (content_for shown) ≤ greatest_length (limit_with long) 2) records)
    c.args.self.now.alike (c.each_record_is_short.ensures _ _ _ _ _ (chosen_of _ _ _ _ _ _ c.again.ensures c.in-Ok.ensures.ok)))

pub returns-in-Ok-write_all-clause-ok : goal.returns-in-Ok-write_all-clause-ok
returns-in-Ok-write_all-clause-ok g c =
    let written : Takes g.W.Write.contents (writer_state c.args.self.now.capture) (writer_state c.write_records.new.sink)
    (capture_of c.args.self.now.config (map shown_value c.in-Ok.output.records.items)) = search rules in
    drove_one g.W.Write.contents c.args.self.now.config _ _ _ _ _ _ _ (chosen_of _ _ _ _ _ _ c.again.ensures c.in-Ok.ensures.ok) written
