use Rattle.std.proofs.lemmas.Result.{err_from_is_err_and}
use Rattle.mrt.proofs.Exits.{err_then}
use Rattle.mrt.proofs.Parts.{begins_first, begins_behind}
use Rattle.mrt.proofs.writer.write_behind_numbers.Goals as goal

pub returns-in_err-write_address-clause-err : goal.returns-in_err-write_address-clause-err
returns-in_err-write_address-clause-err g c =
    let p = err_from_is_err_and c.from_residual.result c.from_residual.ensures.1 in
    rw (p.1) (begins_first _ g.met.W.Sink.joined _ _ _ _ c.in_err-write_address.ensures.err)

pub returns-in_err-write_address-2-clause-err : goal.returns-in_err-write_address-2-clause-err
returns-in_err-write_address-2-clause-err g c =
    let p = err_from_is_err_and c.from_residual-in_err-write_address-2.result c.from_residual-in_err-write_address-2.ensures.1 in
    rw (p.1) (begins_behind _ g.met.W.Sink.joined _ _ _ _ _ c.in_ok-write_address.ensures.ok
    (begins_first _ g.met.W.Sink.joined _ _ _ _ c.in_err-write_address-2.ensures.err))

pub returns-clause-err : goal.returns-clause-err
returns-clause-err g c =
    err_then c.write_content.result _ _
    (λ begun. begins_behind _ g.met.W.Sink.joined _ _ _ _ _ c.in_ok-write_address.ensures.ok (begins_behind _ g.met.W.Sink.joined _ _ _ _ _ c.in_ok-write_address-2.ensures.ok begun))
    c.write_content.ensures.err
