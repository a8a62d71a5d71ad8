use Rattle.std.proofs.Common.{◌∙◌, ℕ, ap, drop, arith}
use Rattle.bgp_update.proofs.DestinationLists.{counted, all_counted, none_counted}
use Rattle.bgp_update.proofs.destinations.DestinationField.count.Goals as goal

pub returns-in_default : goal.returns-in_default
returns-in_default c =
    let rest = c.loop-rest.invariant in
    none_counted c.args.self.identified c.args.self.family c.loop-rest.rest.octets.now c.loop-rest.count _ c.loop-rest-test.ensures
    (rw (rest.identified, rest.family) at c.in_default.ensures.none) rest.so_far

pub loop-rest-preserved : goal.loop-rest-preserved
loop-rest-preserved c =
    let rest = c.loop-rest.invariant in
    record {
      identified = rest.identified;
      family = rest.family;
      so_far = counted c.args.self.identified c.args.self.family c.loop-rest.rest.octets.now c.split_at.result.1.now c.loop-rest.count _
          (rw (rest.identified, rest.family) at c.in-Some.ensures.some)
          (c.split_at.ensures.back ∙ ap (λ (n : ℕ). drop n c.loop-rest.rest.octets.now) (rw rest.identified at c.in-Some.ensures.len)) rest.so_far;
      bound = omega (arith, rest.bound, c.in-Some.ensures.bounds, c.split_at.ensures.back_len);
    }

pub returns : goal.returns
returns c = all_counted c.args.self.identified c.args.self.family c.loop-rest.rest.octets.now c.loop-rest.count _ c.loop-rest-test.ensures c.loop-rest.invariant.so_far
