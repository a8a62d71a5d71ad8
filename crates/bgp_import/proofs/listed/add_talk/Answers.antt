use Rattle.std.proofs.Common.{inl}
use Rattle.std.proofs.lemmas.Result.{on_err_weaker, on_ok_weaker}
use Rattle.packets.proofs.Exits.{on_err}
use Rattle.bgp_import.proofs.ListedSoFar.{holds_all, listed_more, lists_refused}
use Rattle.bgp_import.proofs.SomeListed.{some_connection, some_refused}
use Rattle.bgp_import.proofs.listed.add_talk.Goals as goal

pub returns-in_ok-insert-in-Some-clause-listed : goal.returns-in_ok-insert-in-Some-clause-listed
returns-in_ok-insert-in-Some-clause-listed g c = λ port packets o h all.
    listed_more port packets c.args.listed.now.entries _ c.in-Some.packet _ c.in_ok-insert-in-Some.ensures.entries
    (lists_refused port packets c.args.addresses c.args.talk.now.connections c.args.talk.now.refusal c.in-Some.fault c.in-Some.packet c.in-Some.is o h) all

pub returns-in-None-clause-adds : goal.returns-in-None-clause-adds
returns-in-None-clause-adds g c = on_ok_weaker c.add_connections.result
    (λ adds port packets h.
    let all = holds_all port packets c.args.addresses c.args.talk.now.connections c.args.talk.now.refusal c.in-None.is h in
    inl (record { segments = all.segments; taken = all.taken; each = adds all.segments all.holds }))
    c.add_connections.ensures.adds

pub returns-in_err-insert-in-Some-clause-some : goal.returns-in_err-insert-in-Some-clause-some
returns-in_err-insert-in-Some-clause-some g c = on_err c.from_residual.result _
    (λ port packets h. some_refused port packets c.args.addresses c.args.talk.now.connections c.args.talk.now.refusal c.in-Some.fault c.in-Some.packet c.in-Some.is h)

pub returns-in-None-clause-some : goal.returns-in-None-clause-some
returns-in-None-clause-some g c = on_err_weaker c.add_connections.result
    (λ some port packets h.
    some_connection port packets c.args.addresses c.args.talk.now.connections (holds_all port packets c.args.addresses c.args.talk.now.connections c.args.talk.now.refusal c.in-None.is h) some)
    c.add_connections.ensures.some
