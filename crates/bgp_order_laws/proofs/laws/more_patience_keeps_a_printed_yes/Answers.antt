use Rattle.bgp_order_laws.proofs.Printed.{keeps_no, keeps_yes}
use Rattle.bgp_order_laws.proofs.laws.more_patience_keeps_a_printed_yes.Goals as goal

pub returns : goal.returns
returns c =
    let runs = c.runs_of_entries_are_whole.ensures.runs in
    let every = c.a_yes_lists_all_ends.ensures.way in
    let single = c.records_have_just_one_verdict.ensures.one in
    let one = c.one_verdict_over_all_ways.ensures.one in
    let starts = c.two_starts_are_enough.ensures.ends in
    let none = c.no_order_explains_a_no.ensures in
    record { yes = keeps_yes runs every starts single one none; no = keeps_no runs every starts single one none }
