use Rattle.std.proofs.Common.{◌∙◌}
use Rattle.clap.specs.Words.{found_of}
use Rattle.bgp_words.proofs.FoundValues.{is_there}
use Rattle.bgp_words.proofs.values.has_value.Goals as goal

pub returns : goal.returns
returns c =
    c.is_some.ensures ∙ is_there (found_of c.args.matches.now) c.args.name.now c.get_str.result c.get_str.ensures
