use Rattle.std.proofs.Common.{suc, refl, sym, ap, ◌∙◌, add-one}
use Rattle.std.proofs.lemmas.Bool.{false≢true}
use Rattle.std.proofs.lemmas.List.{nil_from_length}
use Rattle.std.specs.Option.{option_map}
use Rattle.json_writer.proofs.ZeroRuns.{nowhere, here, later}
use Rattle.json_writer.proofs.ipv6.+first_zeros.Goals as goal

pub returns-in_default-clause-value : goal.returns-in_default-clause-value
returns-in_default-clause-value t c =
    sym (nowhere c.args.count c.args.groups.now (nil_from_length c.args.groups.now (c.in_default.ensures {u = tt}).cases))

pub returns-then-begins_with_zeros-clause-value : goal.returns-then-begins_with_zeros-clause-value
returns-then-begins_with_zeros-clause-value t c =
    sym (here c.args.count _ c.args.groups.now c.in-Some.others.now c.in-Some.ensures.cases.0 (c.if-begins_with_zeros.ensures.0 refl))

pub returns-in-Some-first_zeros-clause-value : goal.returns-in-Some-first_zeros-clause-value
returns-in-Some-first_zeros-clause-value t c =
    rw add-one (ap (option_map suc) c.in-Some-first_zeros.ensures.value
    ∙ sym (later c.args.count _ c.args.groups.now c.in-Some.others.now c.in-Some.ensures.cases.0 (λ zeros. false≢true (c.if-begins_with_zeros.ensures.1 zeros))))

pub returns-in-None-clause-value : goal.returns-in-None-clause-value
returns-in-None-clause-value t c =
    ap (option_map suc) c.in-None.ensures.value
    ∙ sym (later c.args.count _ c.args.groups.now c.in-Some.others.now c.in-Some.ensures.cases.0 (λ zeros. false≢true (c.if-begins_with_zeros.ensures.1 zeros)))
