use Rattle.std.proofs.Common.{◌∙◌, ◌<◌, ◌≤◌, length, refl}
use Rattle.bgp_why.specs.Deed.{message_due}
use Rattle.bgp_why.proofs.OnlyOne.{none_left, one_more}
use Rattle.bgp_why.proofs.cause.message_due.Goals as goal

pub loop-item-init : goal.loop-item-init
loop-item-init c = rw c.items_of.ensures refl

pub loop-item-preserved : goal.loop-item-preserved
loop-item-preserved c =
    let within : c.loop-item.item-index < length c.items_of.result = rw c.items_of.ensures c.loop-item-test.true in
    rw c.found_with-found.ensures (one_more c.loop-item.found (message_due c.args.possible.now) c.items_of.result c.loop-item.item-index within c.loop-item.invariant)

pub returns : goal.returns
returns c =
    let past : length c.items_of.result ≤ c.loop-item.item-index = rw c.items_of.ensures c.loop-item-test.false in
    c.the_one.ensures ∙ none_left c.loop-item.found (message_due c.args.possible.now) c.items_of.result c.loop-item.item-index past c.loop-item.invariant
