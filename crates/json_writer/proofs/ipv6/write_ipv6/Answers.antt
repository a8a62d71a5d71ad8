use Rattle.std.proofs.Common.{◌≡◌, ◌∙◌, ℕ, ap, arith, length, Some, None}
use Rattle.bgp_prefix.specs.Text.{longest_zeros, shortened_text}
use Rattle.json_writer.proofs.InPlace.{then_put}
use Rattle.json_writer.proofs.ZeroRuns.{groups_of_bits, of_eight, text_by_run}
use Rattle.json_writer.proofs.ipv6.write_ipv6.Goals as goal

pub returns-in-None-clause-written : goal.returns-in-None-clause-written
unfolding shortened_text
returns-in-None-clause-written c =
    let groups = c.segments-groups.ensures ∙ groups_of_bits c.from_bits.result c.args.number c.from_bits.ensures in
    let found = c.in-None.ensures.value ∙ ap (λ (k : ℕ). longest_zeros k c.segments-groups.result) c.zero_count.ensures ∙ of_eight c.segments-groups.result (omega (arith, ap length groups)) in
    rw (text_by_run c.args.number c.segments-groups.result None groups found) c.write_groups.ensures.written

pub returns-in-Some-clause-written : goal.returns-in-Some-clause-written
unfolding shortened_text
returns-in-Some-clause-written c =
    let groups = c.segments-groups.ensures ∙ groups_of_bits c.from_bits.result c.args.number c.from_bits.ensures in
    let found = c.in-Some.ensures.value ∙ ap (λ (k : ℕ). longest_zeros k c.segments-groups.result) c.zero_count.ensures ∙ of_eight c.segments-groups.result (omega (arith, ap length groups)) in
    let text = then_put c.write_groups-at.ensures.written (then_put c.write_one-at.ensures.written (then_put c.write_one-at-in-Some.ensures.written c.write_groups-in-Some.ensures.written)) in
    let text = rw (c.split_at.ensures.front, c.split_at-in-Some.ensures.back) at text in
    rw (text_by_run c.args.number c.segments-groups.result (Some (c.in-Some.place, c.in-Some.count)) groups found) text
