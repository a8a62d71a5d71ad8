use Rattle.std.proofs.Common.{◌≡◌, ◌∙◌, Option, None, Some, true, false, not, length, reverse, refl, ap, inl, inr, arith}
use Rattle.std.specs.Option.{is_some}
use Rattle.bgp_tool.specs.Status.{code_of}
use Rattle.bgp_recording_tool.specs.Connections.{HasSeveral}
use Rattle.bgp_recording_tool.proofs.Puttings.{put_as}
use Rattle.bgp_recording_tool.proofs.judging.judge_gathered.Goals.{else-is_none-via-then-is_none+else-count-gt1, else-is_none-via-else-is_none}
use Rattle.bgp_recording_tool.proofs.judging.judge_gathered.Goals as goal

none_of : {X : Type 0} (o : Option X) → is_some o ≡ false → o ≡ None
none_of None is = refl
none_of (Some x) is = absurd cc

-- one that is there isn't none
is_one : {X : Type 0} (o : Option X) → is_some o ≡ true → o ≡ None → ⊥
is_one None is none = absurd cc
is_one (Some x) is none = absurd cc

pub returns-then-count-gt1 : goal.returns-then-count-gt1
returns-then-count-gt1 g c = λ packets segments taken holds.
    let several : HasSeveral c.args.config.now c.args.import.now packets segments = (
      none_of c.args.import.now.connection c.if-is_none.ensures,
      omega (arith, c.if-count-gt1.true, c.count.ensures (reverse segments) (length packets) holds),
    ) in
    put_as c.args.lines.now c.judge_each.new.lines c.args.remarks.now.items c.judge_each.new.remarks.items (code_of c.judge_each.result) (λ text own told. inl (several, told)) (c.judge_each.ensures packets segments taken holds)

pub returns : goal.returns
returns g c = λ packets segments taken holds.
    let alone : ¬ HasSeveral c.args.config.now c.args.import.now packets segments = λ several. elim c.else-is_none.branch [
      | else-is_none-via-then-is_none+else-count-gt1 w ↦
          let more = several.1 in omega (arith, more, w.if-count-gt1.false, w.count.ensures (reverse segments) (length packets) holds)
      | else-is_none-via-else-is_none w ↦ is_one c.args.import.now.connection (c.is_none.ensures ∙ ap not w.if-is_none.false) several.0
    ] in
    put_as c.args.lines.now c.report_connection.new.lines c.args.remarks.now.items c.report_connection.new.remarks.items (code_of c.report_connection.result) (λ text own told. inr (alone, told)) (c.report_connection.ensures packets segments taken holds)
