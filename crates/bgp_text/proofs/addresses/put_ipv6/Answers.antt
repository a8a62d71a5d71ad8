use Rattle.std.proofs.Common.{◌∙◌, Some, None}
use Rattle.bgp_prefix.specs.Text.{shortened_text}
use Rattle.bgp_text.proofs.Pieces.{Joins, and_then}
use Rattle.bgp_text.proofs.ZeroRuns.{groups_of_bits, text_by_run}
use Rattle.bgp_text.proofs.addresses.put_ipv6.Goals as goal

pub returns-in-None : goal.returns-in-None
unfolding shortened_text
returns-in-None g c =
    let groups = c.segments-groups.ensures ∙ groups_of_bits c.from_bits.result c.args.number c.from_bits.ensures in
    rw (text_by_run c.args.number c.segments-groups.result None groups c.in-None.ensures.value) c.put_groups.ensures

pub returns-in-Some : goal.returns-in-Some
unfolding shortened_text
returns-in-Some g c =
    let law : Joins g.W.Sink = record { joined = g.met.W.Sink.joined } in
    let groups = c.segments-groups.ensures ∙ groups_of_bits c.from_bits.result c.args.number c.from_bits.ensures in
    let text = and_then law c.put_groups-in-Some.ensures (and_then law c.put.ensures c.put_groups-in-Some-2.ensures) in
    let text = rw (c.split_at.ensures.front, c.split_at-in-Some.ensures.back) at text in
    rw (text_by_run c.args.number c.segments-groups.result (Some (c.in-Some.place, c.in-Some.count)) groups c.in-Some.ensures.value) text
