use Rattle.std.proofs.Common.{◌++◌, refl}
use Rattle.bgp_text.proofs.Pieces.{Joins}
use Rattle.bgp_verdict_lines.proofs.Puts.{then_lines}
use Rattle.bgp_explain.specs.Lacked.{lacked_of}
use Rattle.bgp_explain.proofs.texts.put_reason.Goals as goal

pub returns : goal.returns
returns g c =
    let law : Joins g.W.Sink = record { joined = g.met.W.Sink.joined } in
    let (first, is_first, put) = c.put_first_line.ensures in
    let (rest, why, put_rest) = c.put_lines.ensures in (
      first ++ rest,
      record {
        lacked = lacked_of c.args.details.now.lacks;
        are_lacks = c.requires.details.lacks;
        first = first;
        rest = rest;
        is_first = is_first;
        why = why;
        whole = refl;
      },
      then_lines law put put_rest,
    )
