use Rattle.std.proofs.Common.{◌∙◌, refl}
use Rattle.bgp_why.proofs.WholeMessage.{faulty, frame, other}
use Rattle.bgp_why.proofs.whole.why_not.Goals as goal

pub returns-in-Faulty : goal.returns-in-Faulty
returns-in-Faulty c =
    faulty c.args.octets.now c.in-Some.header.now c.in-Some.ensures.some c.args.limit c.in-Faulty.errors (c.in-Some.ensures.whole.0 refl) c.in-Faulty.ensures.verdict.0 c.in-Faulty.ensures.each

pub returns-then-octets-from : goal.returns-then-octets-from
returns-then-octets-from c =
    let (sound, count, is_type) = c.in-Whole.ensures.verdict in
    frame c.args.octets.now c.in-Some.header.now c.in-Some.ensures.some c.args.limit c.from.result (c.in-Some.ensures.whole.0 refl) sound (c.from.ensures ∙ count) c.if-octets-from.true

pub returns-else-octets-from : goal.returns-else-octets-from
returns-else-octets-from c =
    let (sound, count, is_type) = c.in-Whole.ensures.verdict in
    other c.args.octets.now c.in-Some.header.now c.in-Some.ensures.some c.args.limit c.from.result (c.in-Some.ensures.whole.0 refl) sound (c.from.ensures ∙ count) c.if-octets-from.false
