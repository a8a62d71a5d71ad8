use Rattle.std.proofs.Common.{rules}
use Rattle.std.proofs.lemmas.Iterator.{YieldsList-from_chars}
use Rattle.std.proofs.lemmas.Iterator.Search.{any_from_yields_List}
use Rattle.bgp_values.specs.Readable.{is_hidden}
use Rattle.bgp_values.proofs.readable.has_hidden.Goals as goal

pub returns : goal.returns
returns c =
    any_from_yields_List is_hidden _ _ _ c.any.ensures.ran (YieldsList-from_chars c.args.text.now c.utf8.text c.chars.ensures.rest) (λ x b q k. search rules)
