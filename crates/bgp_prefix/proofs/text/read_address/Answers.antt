use Rattle.std.proofs.Common.{sym, ◌∙◌}
use Rattle.std.proofs.lemmas.Bool.{false≢true}
use Rattle.bgp_prefix.proofs.ReadExits.{read_with_dot, read_without_dot}
use Rattle.bgp_prefix.proofs.text.read_address.Goals as goal

pub returns-then-has_dot : goal.returns-then-has_dot
returns-then-has_dot c = read_with_dot _ _ (c.has_dot.ensures.0 c.if-has_dot.true) c.read_ipv4.ensures

pub returns-else-has_dot : goal.returns-else-has_dot
returns-else-has_dot c =
    read_without_dot _ _ (λ dot. false≢true (sym c.if-has_dot.false ∙ c.has_dot.ensures.1 dot)) c.read_ipv6.ensures
