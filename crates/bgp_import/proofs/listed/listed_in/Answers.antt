use Rattle.std.proofs.Common.{rules}
use Rattle.std.proofs.lemmas.Map.Iter.{btree_map_turn}
use Rattle.std.specs.Map.Iter.{deref_pair}
use Rattle.packets.proofs.Exits.{on_err}
use Rattle.bgp_import.proofs.AddressOrder.{pairs_total}
use Rattle.bgp_import.proofs.ListedSoFar.{all_through, gone_through}
use Rattle.bgp_import.proofs.listed.listed_in.Goals as goal

pub loop-addresses-preserved : goal.loop-addresses-preserved
loop-addresses-preserved g c =
    let so = c.loop-addresses.invariant in
    let is = c.in_ok-add_talk.ensures in
    let turn = btree_map_turn deref_pair c.loop-addresses.yielded c.into_iter-addresses-iterator.result c.loop-addresses.addresses-iterator c.next.new.self c.next.result
    (c.in-Some.addresses, c.in-Some.talk) c.loop-addresses.yielded_by c.in-Some.is c.next.ensures.steps pairs_total c.args.talks.now.by_addresses (search rules) (search rules) in
    record {
      listed = λ port packets right.
          let held = right.each c.in-Some.addresses.now c.in-Some.talk.now turn.1 in
          is.listed port packets held.0 held.1 (so.listed port packets right);
      all = λ port packets h q o.
          let held = h.right.each c.in-Some.addresses.now c.in-Some.talk.now turn.1 in
          gone_through port packets c.args.talks.now c.loop-addresses.listed c.add_talk.new.listed c.in-Some.addresses.now q c.in-Some.talk.now c.loop-addresses.addresses-iterator c.next.new.self
          c.in-Some.ensures.steps is.keeps (is.adds port packets held.1) (so.all port packets h q o);
    }

pub returns-clause-all : goal.returns-clause-all
returns-clause-all g c = λ port packets h q o.
    all_through port packets c.args.talks.now c.loop-addresses.listed q c.loop-addresses.addresses-iterator c.in-None.ensures.steps.0 h o (c.loop-addresses.invariant.all port packets h q o)

pub returns-in_err-add_talk-clause-some : goal.returns-in_err-add_talk-clause-some
returns-in_err-add_talk-clause-some g c = λ port packets right.
    let turn = btree_map_turn deref_pair c.loop-addresses.yielded c.into_iter-addresses-iterator.result c.loop-addresses.addresses-iterator c.next.new.self c.next.result
    (c.in-Some.addresses, c.in-Some.talk) c.loop-addresses.yielded_by c.in-Some.is c.next.ensures.steps pairs_total c.args.talks.now.by_addresses (search rules) (search rules) in
    let held = right.each c.in-Some.addresses.now c.in-Some.talk.now turn.1 in
    on_err c.from_residual.result _ (λ all. c.in_err-add_talk.ensures.some port packets held.1 (all c.in-Some.addresses.now held.0))
