use Rattle.bgp_prefix.proofs.PrefixParts.{read_begins}
use Rattle.bgp_prefix.proofs.OneSpelling.{only_answer}
use Rattle.bgp_prefix.proofs.prefix.Prefix.read.Goals as goal

pub returns-clause-exact : goal.returns-clause-exact
returns-clause-exact c = λ prefix count also.
    only_answer c.args.family c.args.octets.now _ prefix _ count
    (read_begins c.args.octets.now c.in-Some.field-0.now c.in-Some.ensures.item.3.0 (c.in-Some.ensures.item.3.1 0) c.args.family c.octet_count-count.result c.octet_count-count.ensures c.if-field-count.false (rw (← c.bits.ensures) c.if-length-bits.false) _ c.leading_octets.ensures.octets) also
