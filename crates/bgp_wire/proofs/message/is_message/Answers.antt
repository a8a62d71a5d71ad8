use Rattle.bgp_wire.specs.Header.{IsSynchronized}
use Rattle.bgp_wire.proofs.message.is_message.Goals as goal

pub returns-then-not-is_synchronized : goal.returns-then-not-is_synchronized
returns-then-not-is_synchronized c = (
  λ impossible. absurd (cc),
  λ message.
      let marker : IsSynchronized c.in-Some.header.now = rw c.in-Some.ensures.some message.marker in
      let synchronized = c.is_synchronized.ensures.1 marker in
      let not_so = c.if-not-is_synchronized.true in cc,
)
