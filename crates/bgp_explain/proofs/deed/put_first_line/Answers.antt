use Rattle.std.proofs.Common.{[], refl}
use Rattle.bgp_verdict_lines.proofs.Puts.{no_lines}
use Rattle.bgp_explain.specs.Deed.{line_of}
use Rattle.bgp_explain.specs.Kept.{shown_by}
use Rattle.bgp_explain.specs.Lacked.{lacked_of}
use Rattle.bgp_explain.specs.Places.{places_of}
use Rattle.bgp_explain.proofs.deed.put_first_line.Goals as goal

pub returns-in-Some : goal.returns-in-Some
returns-in-Some g c =
    let impossible = c.in-Some.impossible in
    let (deed, is, wrote) = c.put_line_of.ensures in
    rw c.in-Some.is (
      line_of c.args.style.now c.args.session.now (places_of c.args.places) c.args.reason.now.possible (lacked_of c.args.lacks.now) impossible.number
          (shown_by impossible.«record») deed,
      (deed, is, refl),
      wrote,
    )

pub returns-in-None : goal.returns-in-None
returns-in-None g c = rw c.in-None.is ([], refl, no_lines g.met.W.Sink.nothing c.args.lines.now)
