use Rattle.std.proofs.Common.{[], refl, subst}
use Rattle.bgp_prefix.specs.Shown.{ShownRecord}
use Rattle.bgp_verdict_lines.proofs.Puts.{no_lines}
use Rattle.bgp_explain.specs.SentLine.{IsLineOf}
use Rattle.bgp_explain.proofs.sent_line.put_sent_line.Goals as goal

pub returns-in-Some : goal.returns-in-Some
returns-in-Some g c =
    let (text, is, wrote) = c.put_line_of.ensures in
    let of = subst (λ (r : ShownRecord). IsLineOf c.args.config.now c.args.session.now c.args.link r text) c.as_record-shown.ensures is in
    rw c.in-Some.is (text, of, wrote)

pub returns-in-None : goal.returns-in-None
returns-in-None g c = rw c.in-None.is ([], refl, no_lines g.met.W.Sink.nothing c.args.lines.now)
