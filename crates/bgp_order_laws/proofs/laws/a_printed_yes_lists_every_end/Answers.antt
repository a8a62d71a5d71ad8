use Rattle.bgp_order_laws.proofs.Printed.{every_end}
use Rattle.bgp_order_laws.proofs.laws.a_printed_yes_lists_every_end.Goals as goal

pub returns : goal.returns
returns c = every_end c.a_yes_lists_all_ends.ensures.way c.two_starts_are_enough.ensures.ends
