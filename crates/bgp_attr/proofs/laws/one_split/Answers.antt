use Rattle.std.proofs.Common.{sym, ap, ◌∙◌}
use Rattle.bgp_attr.specs.Split.{Split}
use Rattle.bgp_attr.proofs.OneField.{is_split}
use Rattle.bgp_attr.proofs.laws.one_split.Goals as goal

pub returns-clause-unique : goal.returns-clause-unique
returns-clause-unique c = λ field attributes others tail other h k.
    let same = sym (is_split field attributes tail h) ∙ is_split field others other k in
    (ap (λ (s : Split). s.attributes) same, ap (λ (s : Split). s.tail) same)

pub returns-clause-read : goal.returns-clause-read
returns-clause-read c = is_split
