use Rattle.std.proofs.Common.{map, option_map}
use Rattle.bgp_judge.specs.Verdict.{verdict_value}
use Rattle.bgp_judge.proofs.Lacking.{on_err}
use Rattle.mrt.specs.Reader.{shown_of}
use Rattle.bgp_check.specs.Memory.{LacksMemoryAtEnd}
use Rattle.bgp_check.proofs.Answered.{with_fault}
use Rattle.bgp_check.proofs.ToldOpen.{told_of}
use Rattle.bgp_check.proofs.answering.judge_end.Goals as goal

pub returns-in_err-checked-clause-memory : goal.returns-in_err-checked-clause-memory
returns-in_err-checked-clause-memory g c =
    let session = c.args.session.now in
    let own = option_map (λ o. o.now) c.args.own in
    let peers = option_map (λ o. o.now) c.args.peers in
    let told = told_of peers in
    let records = map shown_of c.args.records.now in
    on_err (LacksMemoryAtEnd g.T.Tracker.may_lack_at_start g.T.Tracker.may_lack session records) c.from_residual.result (record {
      own = own;
      peers = peers;
      told = told.0;
      widest = c.in-Some.widest;
      none = c.requires.none;
      has_own = c.requires.own;
      has_peers = c.requires.peers;
      are_told = told.1;
      made = c.in-Some.ensures.some told.0 told.1;
      lacks = c.in_err-checked.ensures.memory;
    })

pub returns-clause-judged : goal.returns-clause-judged
returns-clause-judged g c =
    let session = c.args.session.now in
    let own = option_map (λ o. o.now) c.args.own in
    let peers = option_map (λ o. o.now) c.args.peers in
    let told = told_of peers in
    let records = map shown_of c.args.records.now in
    let widest = c.in-Some.widest in
    let wants = c.in_ok-checked.checked.wants_peers in
    let verdict = verdict_value c.in_ok-checked.checked.verdict in
    let made = c.in-Some.ensures.some told.0 told.1 in
    let is_told = c.in_ok-checked.ensures.told in
    record {
      own = own;
      peers = peers;
      told = told.0;
      widest = widest;
      wants = wants;
      none = c.requires.none;
      has_own = c.requires.own;
      has_peers = c.requires.peers;
      are_told = told.1;
      made = made;
      is_told = is_told;
      is_under = c.in_ok-checked.ensures.under;
      over = λ stretch faultless. c.what_is_told_holds_over_all.ensures session own peers widest records wants verdict
          (c.widest_settings_are_widest.ensures session own peers told.0 widest faultless told.1 made) stretch c.requires.own c.requires.peers is_told;
      among = λ fault is. (with_fault c.an_own_fault_is_a_no.ensures own fault widest records wants verdict is c.requires.own is_told).0;
      by_open = λ fault is. (with_fault c.an_own_fault_is_a_no.ensures own fault widest records wants verdict is c.requires.own is_told).1;
      is_number = c.number_of.ensures;
      is_peer = rw c.heard_as.ensures at (c.peer_as.ensures told.0 told.1);
    }
