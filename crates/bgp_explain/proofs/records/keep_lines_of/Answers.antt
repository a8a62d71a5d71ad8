use Rattle.std.proofs.Common.{subst}
use Rattle.bgp_explain.specs.Places.{places_of}
use Rattle.bgp_explain.specs.Reason.{HasReason}
use Rattle.bgp_explain.proofs.OneKept.{heard_in}
use Rattle.bgp_explain.proofs.Telling.{lines_said}
use Rattle.bgp_explain.proofs.records.keep_lines_of.Goals as goal

pub of-requires-clause-heard : goal.of-requires-clause-heard
of-requires-clause-heard g c =
    let explained = c.args.explained in
    let (records, are, captured) = c.requires.captured in
    heard_in c.args.config.now records explained.verdict c.in-Some.reason captured (subst (λ w. HasReason c.args.config.now records explained.verdict w) c.in-Some.is are.reason)

pub returns-in-Some : goal.returns-in-Some
returns-in-Some g c = λ records are.
    let explained = c.args.explained in
    let has = subst (λ w. HasReason c.args.config.now records explained.verdict w) c.in-Some.is are.reason in
    lines_said c.args.config.now c.args.style.now c.args.session.now c.args.another (places_of c.args.places) _ records explained.verdict c.in-Some.reason _ has c.in_ok-kept-in-Some.ensures
