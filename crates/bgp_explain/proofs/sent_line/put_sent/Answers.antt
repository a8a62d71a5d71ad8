use Rattle.std.proofs.Common.{subst, sym}
use Rattle.bgp_wire.specs.declared.header.Limit.{Limit}
use Rattle.bgp_values.specs.declared.opens.Reading.{Reading}
use Rattle.mrt.specs.Rules.{HasOtherLength}
use Rattle.bgp_explain.specs.SentLine.{IsOctetsLine, sent_reading}
use Rattle.bgp_explain.proofs.sent_line.put_sent.Goals as goal

pub put_octets-requires-clause-whole : goal.put_octets-requires-clause-whole
put_octets-requires-clause-whole g c =
    subst (λ (limit : Limit). ¬ HasOtherLength limit c.args.octets.now) (sym c.with_extended.ensures) c.requires.whole

pub returns : goal.returns
returns g c =
    let (text, is, wrote) = c.put_octets.ensures in
    let read = subst (λ (r : Reading). IsOctetsLine r c.with_extended.result c.args.octets.now text) c.sent_reading.ensures is in
    (text, subst (λ (limit : Limit). IsOctetsLine (sent_reading c.args.config.now c.args.link) limit c.args.octets.now text) c.with_extended.ensures read, wrote)
