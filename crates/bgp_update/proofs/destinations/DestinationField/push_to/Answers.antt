use Rattle.std.proofs.Common.{sym, ◌∙◌}
use Rattle.bgp_update.proofs.DestinationLists.{one_read, all_read, stopped}
use Rattle.bgp_update.proofs.destinations.DestinationField.push_to.Goals as goal

pub loop-destination-preserved : goal.loop-destination-preserved
loop-destination-preserved g c =
    let rest = c.loop-destination.invariant in
    record {
      identified = rest.identified;
      family = rest.family;
      read = one_read c.args.self.identified c.args.self.family c.args.self.octets.now c.loop-destination.rest.octets.now c.split_at.result.1.now _ _ _ c.loop-destination.out.items c.push.new.self.items
          (rw (rest.identified, rest.family) at c.in-Some.ensures.some) c.split_at.ensures.back c.in_ok-push.ensures.items rest.read;
    }

pub returns-then-not-is_empty : goal.returns-then-not-is_empty
returns-then-not-is_empty g c =
    let rest = c.loop-destination.invariant in
    stopped c.args.self.identified c.args.self.family c.args.self.octets.now c.loop-destination.rest.octets.now c.args.out.now.items c.loop-destination.out.items _ c.len-len.result
    (rw (rest.identified, rest.family) at c.in_default.ensures.none) (sym c.if-not-is_empty.true ∙ c.is_empty.ensures) rest.read (c.len-len.ensures ∙ c.args.out.now.ok.0) c.truncate.ensures.items

pub returns-else-not-is_empty : goal.returns-else-not-is_empty
returns-else-not-is_empty g c =
    all_read c.args.self.identified c.args.self.family c.args.self.octets.now c.loop-destination.rest.octets.now c.args.out.now.items c.loop-destination.out.items
    (sym c.if-not-is_empty.false ∙ c.is_empty.ensures) c.loop-destination.invariant.read
