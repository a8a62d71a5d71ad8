use Rattle.std.proofs.Common.{◌∙◌, refl, rules}
use Rattle.bgp_text.proofs.Pieces.{Joins, and_nothing}
use Rattle.bgp_text.proofs.Fresh.{IsFresh}
use Rattle.bgp_tool.proofs.CaptureJudged.{is_written}
use Rattle.bgp_recording_tool.proofs.Texts.{told_as}
use Rattle.bgp_recording_tool.proofs.decoding.write_refusal.Goals as goal

pub returns : goal.returns
returns g c =
    let law : Joins g.W.Sink = record { joined = g.met.W.Sink.joined } in
    let fresh : IsFresh c.new-lines.result = record { empty = c.new-lines.ensures.empty; calm = c.new-lines.ensures.fresh } in
    let (text, is_its, put) = c.put_refused-put.ensures in
    let wrote = and_nothing law put c.hand_over-status.ensures.writes in
    let same = wrote.same_sink ∙ c.new-lines.ensures.same in (
      text,
      (
        _,
        is_its,
        rw c.code.ensures
            (is_written c.new-lines.result c.hand_over-status.new.lines c.args.sink.now _ fresh c.new-lines.ensures.now (search rules)
            _ _ _ wrote c.hand_over-status.ensures.none (told_as _ _ _ _ c.hand_over-status.ensures.told refl)),
      ),
    )
