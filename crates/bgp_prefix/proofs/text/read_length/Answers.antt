use Rattle.std.proofs.Common.{sym, ◌∙◌}
use Rattle.std.proofs.lemmas.Bool.{false≢true}
use Rattle.bgp_prefix.proofs.PlainDecimal.{sign_or_zero_exit, read_exit, refused_exit}
use Rattle.bgp_prefix.proofs.text.read_length.Goals as goal

pub returns-then-has_sign_or_zero : goal.returns-then-has_sign_or_zero
returns-then-has_sign_or_zero c = sign_or_zero_exit _ (c.has_sign_or_zero.ensures.0 c.if-has_sign_or_zero.true)

pub returns-in-Ok : goal.returns-in-Ok
returns-in-Ok c =
    let parsed = c.in-Ok.ensures.value.0 in
    read_exit _ _ (λ plain. false≢true (sym c.if-has_sign_or_zero.false ∙ c.has_sign_or_zero.ensures.1 plain)) parsed.0.0 parsed.0.1 parsed.1

pub returns-in-Err : goal.returns-in-Err
returns-in-Err c = refused_exit _ c.in-Err.ensures.value.0
