use Rattle.std.proofs.Common.{◌++◌, refl, subst}
use Rattle.bgp_prefix.specs.Shown.{ShownRecord}
use Rattle.bgp_text.proofs.Pieces.{Joins, and_then}
use Rattle.bgp_explain.specs.Deed.{IsDeedOn}
use Rattle.bgp_explain.specs.Lacked.{lacked_cause, lacked_of}
use Rattle.bgp_explain.proofs.deed.put_deed_text.Goals as goal

pub returns-in-Some : goal.returns-in-Some
returns-in-Some g c =
    let law : Joins g.W.Sink = record { joined = g.met.W.Sink.joined } in
    let reason = c.args.reason.now in
    let (deed, is, wrote) = c.put_deed_on.ensures in
    let done = subst (λ (r : ShownRecord). IsDeedOn c.args.session.now c.args.peer.now reason.link r deed) c.as_record-shown.ensures is in
    rw c.in-Some.is (
      deed ++ lacked_cause c.args.style.now.own_faults reason.possible (lacked_of c.args.lacks.now),
      (deed, done, refl),
      and_then law wrote c.put_lacked_cause.ensures,
    )
