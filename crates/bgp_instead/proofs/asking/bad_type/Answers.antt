use Rattle.std.proofs.Common.{sym, subst, arith}
use Rattle.byteorder.specs.Endian.{big_bytes}
use Rattle.bgp_instead.specs.Places.{Could}
use Rattle.bgp_instead.specs.Sendable.{CouldNotify}
use Rattle.bgp_instead.proofs.Asks.{one_octet, then_could}
use Rattle.bgp_instead.proofs.asking.bad_type.Goals as goal

pub returns-clause-could : goal.returns-clause-could
returns-clause-could g c = λ of.
    let kind = c.read_type-kind.result in
    then_could c.in_ok-could.could kind c.then_some.result (λ v. CouldNotify (Could of) 1 3 (big_bytes 1 v)) c.then_some.ensures
    (λ t. subst (λ v. CouldNotify (Could of) 1 3 v) (sym (one_octet kind (omega (arith, c.read_type-kind.type_inv)))) ((c.in_ok-could.ensures of).0 t))
