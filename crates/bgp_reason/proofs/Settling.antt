-- What an UPDATE comes to, by the outcomes that are worked out.
use Rattle.std.proofs.Common.{◌≡◌, ℕ, List, Option, None, Some, sym, subst}
use Rattle.bgp_open.specs.declared.link.Link.{Link}
use Rattle.bgp_reason.specs.Hearable.{IsSettled}

pub none_settled : (link : Option Link) (octets : List ℕ) → link ≡ None → IsSettled link octets
none_settled link octets e = subst (λ (v : Option Link). IsSettled v octets) (sym e) tt

pub some_settled : (link : Option Link) (own : Link) (octets : List ℕ) → link ≡ Some own → IsSettled (Some own) octets → IsSettled link octets
some_settled link own octets e s = subst (λ (v : Option Link). IsSettled v octets) (sym e) s
