use Rattle.std.proofs.Common.{◌++◌, refl}
use Rattle.bgp_text.proofs.Pieces.{Joins}
use Rattle.bgp_verdict_lines.proofs.Puts.{then_lines}
use Rattle.bgp_tool.specs.Answer.{answer_text}
use Rattle.bgp_explain.proofs.texts.put_explained.Goals as goal

pub returns-clause-writes : goal.returns-clause-writes
returns-clause-writes g c =
    let law : Joins g.W.Sink = record { joined = g.met.W.Sink.joined } in
    let (more, is_more, put) = c.put_more.ensures in (
      answer_text c.args.explained.now.answer ++ more,
      record { more = more; is_more = is_more; whole = refl },
      then_lines law c.put_answer-status.ensures.puts put,
    )
