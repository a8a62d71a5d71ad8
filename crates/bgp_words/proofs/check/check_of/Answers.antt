use Rattle.std.proofs.Common.{refl}
use Rattle.bgp_words.proofs.check.check_of.Goals as goal

pub returns-clause-ok : goal.returns-clause-ok
returns-clause-ok c = (
  refl,
  (
    (c.in_ok-port.ensures c.in_ok-port.port).0 refl,
    (c.in_ok-within.ensures c.in_ok-within.within).0 refl,
    c.has_flag.ensures,
    c.has_flag-2.ensures,
    c.has_flag-3.ensures,
    (c.in_ok-form.ensures c.in_ok-form.form).0 refl,
    c.in_ok-file.ensures.ok,
  ),
)
