use Rattle.bgp_compact.proofs.laws.memory_is_lacked_at_no_impossible_record.Goals as goal

pub returns : goal.returns
returns g c = λ whole records t same takes never.
    let (up, applied, ends) = takes in
    c.impossible_only_where_owed.ensures whole records t same never ends.0 ends.1
