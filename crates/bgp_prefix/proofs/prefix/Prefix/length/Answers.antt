use Rattle.std.proofs.Common.{sym, ap, ◌∙◌}
use Rattle.bgp_prefix.specs.Prefix.{prefix_length}
use Rattle.bgp_prefix.specs.PrefixLaws.{length-kept_bits}
use Rattle.bgp_prefix.proofs.prefix.Prefix.length.Goals as goal

pub returns-clause-value : goal.returns-clause-value
returns-clause-value c = sym (length-kept_bits _ _ _ c.self.invariant) ∙ ap prefix_length c.self.view_is
