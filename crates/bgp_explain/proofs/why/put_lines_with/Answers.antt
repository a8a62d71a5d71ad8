use Rattle.std.proofs.Common.{◌++◌, refl}
use Rattle.bgp_text.proofs.Pieces.{Joins}
use Rattle.bgp_verdict_lines.proofs.Puts.{then_lines}
use Rattle.bgp_explain.specs.Details.{asking_in, next_in}
use Rattle.bgp_explain.specs.Lacked.{lacked_of}
use Rattle.bgp_explain.specs.Why.{why_text}
use Rattle.bgp_explain.proofs.why.put_lines_with.Goals as goal

pub returns : goal.returns
returns g c =
    let law : Joins g.W.Sink = record { joined = g.met.W.Sink.joined } in
    let reason = c.args.reason.now in
    let details = c.args.details.now in
    let asking = asking_in details.update in
    let lacked = lacked_of details.lacks in
    let (sent, is_sent, put) = c.put_sent_line.ensures in (
      sent ++ why_text c.args.style.now c.args.another reason.told.state (next_in reason.impossible) reason.possible c.args.why.now asking lacked,
      record {
        sent = sent;
        asking = asking;
        lacked = lacked;
        is_sent = is_sent;
        is_asked = c.requires.details.update;
        are_lacks = c.requires.details.lacks;
        whole = refl;
      },
      then_lines law put c.put_why.ensures,
    )
