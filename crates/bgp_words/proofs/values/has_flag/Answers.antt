use Rattle.std.proofs.Common.{◌∙◌, Option, false, sym, ap, codes}
use Rattle.std.specs.Option.{option_map_or}
use Rattle.std.specs.Str.{bytes_eq}
use Rattle.clap.specs.Words.{Text, found_of}
use Rattle.bgp_words.proofs.FoundValues.{met_none, met_some}
use Rattle.bgp_words.proofs.values.has_flag.Goals as goal

pub returns-in-Some : goal.returns-in-Some
returns-in-Some c =
    let there = met_some (found_of c.args.matches.now) c.args.name.now c.get_str.result c.get_str.ensures c.in-Some.word c.in-Some.is in
    c.eq.ensures ∙ ap (λ (o : Option Text). option_map_or (λ text. bytes_eq text (codes "true")) o false) (sym there)

pub returns-in-None : goal.returns-in-None
returns-in-None c =
    let lacks = met_none (found_of c.args.matches.now) c.args.name.now c.get_str.result c.get_str.ensures c.in-None.is in
    ap (λ (o : Option Text). option_map_or (λ text. bytes_eq text (codes "true")) o false) (sym lacks)
