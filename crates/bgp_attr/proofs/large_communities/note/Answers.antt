use Rattle.bgp_attr.proofs.Noted.{noted_next}
use Rattle.bgp_attr.proofs.large_communities.note.Goals as goal

pub returns-clause-noted : goal.returns-clause-noted
returns-clause-noted g c kept noted =
    noted_next c.args.noted.now c.insert.new.self c.args.community kept c.in_ok-insert.field-0 noted c.in_ok-insert.ensures.updates.0 c.in_ok-insert.ensures.unchanged
