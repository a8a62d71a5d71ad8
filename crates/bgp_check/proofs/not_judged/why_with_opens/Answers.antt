use Rattle.std.proofs.Common.{option_map}
use Rattle.bgp_check.proofs.Answered.{family_if}
use Rattle.bgp_check.proofs.ToldOpen.{told_of}
use Rattle.bgp_check.proofs.not_judged.why_with_opens.Goals as goal

pub returns-clause-why : goal.returns-clause-why
returns-clause-why c =
    let told = told_of (option_map (λ o. o.now) c.args.peers) in
    record {
      own = option_map (λ o. o.now) c.args.own;
      peers = option_map (λ o. o.now) c.args.peers;
      whole = option_map (λ o. o.now) c.whole_open.result;
      has_own = c.requires.own;
      has_peers = c.requires.peers;
      has_whole = c.whole_open.ensures;
      told = told.0;
      is_told = told.1;
      sends = c.sends_some.result;
      is_sends = c.sends_some.ensures;
      extended = c.have_extended_length-extended.result;
      is_extended = c.have_extended_length-extended.ensures;
      confederated = c.some_show_confederations-confederated.result;
      is_confederated = c.some_show_confederations-confederated.ensures;
      is_why = c.first_reason.ensures told.0 told.1;
    }

pub returns-clause-family : goal.returns-clause-family
returns-clause-family c =
    let told = told_of (option_map (λ o. o.now) c.args.peers) in
    family_if c.first_reason.result c.sends_some.result c.have_extended_length-extended.result (option_map (λ o. o.now) c.args.own) told.0
    c.some_show_confederations-confederated.result (c.first_reason.ensures told.0 told.1)
