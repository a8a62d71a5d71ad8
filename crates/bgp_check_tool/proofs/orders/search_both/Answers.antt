use Rattle.std.proofs.Common.{◌∙◌, sym}
use Rattle.bgp_check_tool.proofs.SaidOver.{said_first, said_other, said_whole}
use Rattle.bgp_check_tool.proofs.orders.search_both.Goals as goal

pub returns-then-is_whole-clause-over : goal.returns-then-is_whole-clause-over
returns-then-is_whole-clause-over g c = λ widest is_wanting is_another clocked tells.
    let viewed = c.args.viewed.now in
    said_whole viewed.options.within c.args.framings viewed.connection c.args.exchange.now tells c.args.wanting.now c.args.another.now widest is_wanting is_another c.args.known c.unknown.result
    c.in_ok-one.one (c.in_ok-one.ensures.finding clocked tells) (sym c.is_whole.ensures ∙ c.if-is_whole.true)

pub returns-then-tells_other-clause-over : goal.returns-then-tells_other-clause-over
returns-then-tells_other-clause-over g c = λ widest is_wanting is_another clocked tells.
    let viewed = c.args.viewed.now in
    said_other viewed.options.within c.args.framings viewed.connection c.args.exchange.now tells c.args.wanting.now c.args.another.now widest is_wanting is_another c.args.known c.by-too_long.result
    c.in_ok-one.one c.in_ok-other.other (c.in_ok-one.ensures.finding clocked tells) (c.in_ok-other.ensures.finding clocked tells) c.by-too_long.ensures.wanting c.by-too_long.ensures.another
    (sym c.tells_other.ensures ∙ c.if-tells_other.true)

pub returns-clause-over : goal.returns-clause-over
returns-clause-over g c = λ widest is_wanting is_another clocked tells.
    let viewed = c.args.viewed.now in
    said_first viewed.options.within c.args.framings viewed.connection c.args.exchange.now tells c.args.wanting.now c.args.another.now widest is_wanting is_another c.args.known c.by-too_long.result
    c.in_ok-one.one c.in_ok-other.other (c.in_ok-one.ensures.finding clocked tells) (c.in_ok-other.ensures.finding clocked tells) c.by-too_long.ensures.wanting c.by-too_long.ensures.another
    (sym c.tells_other.ensures ∙ c.if-tells_other.false)
