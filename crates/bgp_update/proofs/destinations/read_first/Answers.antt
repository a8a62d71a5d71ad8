use Rattle.std.proofs.Common.{sym, ◌∙◌}
use Rattle.bgp_update.proofs.DestinationLists.{no_prefix, plain_none, cut_none, behind_none}
use Rattle.bgp_update.proofs.destinations.read_first.Goals as goal

pub returns-in_default-clause-none : goal.returns-in_default-clause-none
returns-in_default-clause-none c =
    plain_none _ _ _ c.if-not-field.true (no_prefix _ _ (λ p n begins. absurd (let same = sym c.in_default.is ∙ c.read.ensures.exact p n begins in cc)))

pub returns-then-field-lt-ID_LEN-clause-none : goal.returns-then-field-lt-ID_LEN-clause-none
returns-then-field-lt-ID_LEN-clause-none c = cut_none _ _ _ c.if-not-field.false c.if-field-lt-ID_LEN.true

pub returns-in_default-read-clause-none : goal.returns-in_default-read-clause-none
returns-in_default-read-clause-none c =
    behind_none _ _ _ _ c.if-not-field.false c.split_at.ensures.back
    (no_prefix _ _ (λ p n begins. absurd (let same = sym c.in_default-read.is ∙ c.read-2.ensures.exact p n begins in cc)))
