use Rattle.std.proofs.Common.{rules, subst}
use Rattle.std.proofs.lemmas.Str.Pattern.{IsSplitOnceResult}
use Rattle.bgp_words.proofs.AfterLength.{no_prefix, no_slash, no_address, found}
use Rattle.bgp_words.proofs.texts.has_bits_after.Goals as goal

pub returns-in_default : goal.returns-in_default
returns-in_default c = no_prefix c.args.text.now c.read_prefix.result c.read_prefix.ensures c.in_default.is

pub returns-in_default-split_once : goal.returns-in_default-split_once
returns-in_default-split_once c = no_slash c.args.text.now c.split_once.result c.split_once.ensures.cases c.in_default-split_once.is

pub returns-in-Some-read_address : goal.returns-in-Some-read_address
returns-in-Some-read_address c =
    let cut = subst (IsSplitOnceResult 47 c.args.text.now) c.in-Some-split_once.is c.split_once.ensures.cases in
    found c.args.text.now c.in-Some-split_once.address c.in-Some-split_once.field-0-1 cut
    c.in-Some.prefix c.in-Some-read_address.address c.read_prefix.result c.read_address.result
    c.read_prefix.ensures c.in-Some.is c.read_address.ensures c.in-Some-read_address.is c.ne.result (search rules)

pub returns-in-None : goal.returns-in-None
returns-in-None c =
    let cut = subst (IsSplitOnceResult 47 c.args.text.now) c.in-Some-split_once.is c.split_once.ensures.cases in
    no_address c.args.text.now c.in-Some-split_once.address c.in-Some-split_once.field-0-1 cut
    c.read_address.result c.read_address.ensures c.in-None.is
