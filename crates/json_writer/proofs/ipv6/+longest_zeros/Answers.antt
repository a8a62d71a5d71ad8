use Rattle.std.proofs.Common.{sym, ◌∙◌}
use Rattle.json_writer.proofs.ZeroRuns.{too_short, at_place, shorter}
use Rattle.json_writer.proofs.ipv6.+longest_zeros.Goals as goal

pub returns-then-most-lt2-clause-value : goal.returns-then-most-lt2-clause-value
returns-then-most-lt2-clause-value t c = sym (too_short c.args.most c.args.groups.now c.if-most-lt2.true)

pub returns-in-Some-clause-value : goal.returns-in-Some-clause-value
returns-in-Some-clause-value t c =
    sym (at_place c.args.most c.in-Some.place c.args.groups.now c.if-most-lt2.false (sym c.in-Some.ensures.value))

pub returns-in-None-clause-value : goal.returns-in-None-clause-value
returns-in-None-clause-value t c =
    c.longest_zeros.ensures.value ∙ sym (shorter c.args.most c.args.groups.now c.if-most-lt2.false (sym c.in-None.ensures.value))
