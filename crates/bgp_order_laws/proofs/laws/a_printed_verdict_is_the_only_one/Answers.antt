use Rattle.bgp_order_laws.proofs.Made.{one_made}
use Rattle.bgp_order_laws.proofs.Printed.{one_answer}
use Rattle.bgp_order_laws.proofs.laws.a_printed_verdict_is_the_only_one.Goals as goal

pub returns : goal.returns
returns c =
    let single = c.records_have_just_one_verdict.ensures.one in record {
      all = one_answer c.runs_of_entries_are_whole.ensures.runs c.a_yes_lists_all_ends.ensures.way c.two_starts_are_enough.ensures.ends single c.one_verdict_over_all_ways.ensures.one
          c.no_order_explains_a_no.ensures;
      made = one_made c.recordings_are_made_once.ensures single;
    }
