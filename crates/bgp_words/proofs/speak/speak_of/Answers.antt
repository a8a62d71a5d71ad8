use Rattle.std.proofs.Common.{refl}
use Rattle.bgp_words.proofs.speak.speak_of.Goals as goal

pub returns-clause-ok : goal.returns-clause-ok
returns-clause-ok c = (
  refl,
  (
    (c.in_ok-config.ensures c.in_ok-config.config).0 refl,
    c.is_of_one_family.ensures.0 c.if-not-is_of_one_family.false,
    (c.in_ok-speaking.ensures c.in_ok-speaking.speaking).0 refl,
    c.in_ok-file.ensures.ok,
  ),
)
