use Rattle.std.proofs.lemmas.Option.{IfSome_then}
use Rattle.bgp_update.proofs.DestinationLists.{if_none, plain_some, plain_len, plain_none, cut_none, behind_some, behind_len, behind_none}
use Rattle.bgp_update.proofs.destinations.DestinationField.first_len.Goals as goal

pub returns-then-not-self-clause-some : goal.returns-then-not-self-clause-some
returns-then-not-self-clause-some c =
    IfSome_then c.first_prefix_len.result c.first_prefix_len.ensures.some (λ len some. plain_some _ _ _ c.if-not-self.true some)

pub returns-then-not-self-clause-len : goal.returns-then-not-self-clause-len
returns-then-not-self-clause-len c =
    IfSome_then c.first_prefix_len.result c.first_prefix_len.ensures.len (λ len same. plain_len _ _ len c.if-not-self.true same)

pub returns-then-not-self-clause-none : goal.returns-then-not-self-clause-none
returns-then-not-self-clause-none c =
    if_none c.first_prefix_len.result _ _ (λ none. plain_none _ _ _ c.if-not-self.true none) c.first_prefix_len.ensures.none

pub returns-then-self-lt-ID_LEN-clause-none : goal.returns-then-self-lt-ID_LEN-clause-none
returns-then-self-lt-ID_LEN-clause-none c = cut_none _ _ _ c.if-not-self.false c.if-self-lt-ID_LEN.true

pub returns-in-Some-clause-some : goal.returns-in-Some-clause-some
returns-in-Some-clause-some c = behind_some _ _ _ _ c.if-not-self.false c.split_at.ensures.back c.in-Some.ensures.some

pub returns-in-Some-clause-len : goal.returns-in-Some-clause-len
returns-in-Some-clause-len c = behind_len _ _ _ c.in-Some.len c.if-not-self.false c.split_at.ensures.back c.in-Some.ensures.len

pub returns-in-None-clause-none : goal.returns-in-None-clause-none
returns-in-None-clause-none c = behind_none _ _ _ _ c.if-not-self.false c.split_at.ensures.back c.in-None.ensures.none
