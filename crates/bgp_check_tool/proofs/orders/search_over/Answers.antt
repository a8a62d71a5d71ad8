use Rattle.std.proofs.Common.{refl}
use Rattle.std.proofs.lemmas.Result.{IfOk-weaker}
use Rattle.bgp_check_tool.proofs.SaidOver.{said_alone}
use Rattle.bgp_check_tool.proofs.orders.search_over.Goals as goal

pub returns-in_default-clause-over : goal.returns-in_default-clause-over
returns-in_default-clause-over g c = λ clocked tells.
    let viewed = c.args.viewed.now in
    said_alone viewed.options.within c.args.framings viewed.connection c.args.exchange.now tells c.args.widest.now c.in_default.is c.args.known c.alone-too_long.result c.in_ok-alone.alone
    (c.in_ok-alone.ensures.finding clocked tells) c.alone-too_long.ensures.wanting c.alone-too_long.ensures.another

pub returns-clause-over : goal.returns-clause-over
returns-clause-over g c =
    IfOk-weaker c.search_both.result _ _ (λ over said clocked tells. said c.args.widest.now c.in-Some.is refl clocked tells) c.search_both.ensures.over
