use Rattle.bgp_update.specs.Outcome.{Reset}
use Rattle.bgp_why.proofs.Applied.{applied}
use Rattle.bgp_why.proofs.applying.AskedUpdate.of.Goals as goal

pub returns : goal.returns
returns g c =
    let told = rw c.as_slice.ensures.value at c.is_withdrawal.ensures in record {
      applied = rw (c.then_some.ensures, c.is_some.ensures)
          (applied c.args.link.now c.args.octets.now c.in_ok-outcomes.outcomes c.in_ok-outcomes.ensures.exact c.is_withdrawal.result (told c.args.octets.now c.in_ok-parts.ensures));
      refused = λ n. c.in_ok-outcomes.ensures.exact (Reset n);
      parts = c.in_ok-parts.ensures;
    }
