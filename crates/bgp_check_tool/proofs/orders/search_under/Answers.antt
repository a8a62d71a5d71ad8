use Rattle.std.proofs.Common.{◌∙◌, Bool, ap, subst}
use Rattle.bgp_orders.specs.Rows.{IsAnswer}
use Rattle.bgp_orders.specs.WholeWays.{NoneIsFoundOver}
use Rattle.bgp_orders.specs.declared.explained.Explained.{Explained}
use Rattle.bgp_orders.specs.declared.explained.Explained.TheVariants as answers
use Rattle.bgp_orders.proofs.Along.{none_is}
use Rattle.bgp_orders.proofs.NoOrder.{connection_is_told}
use Rattle.bgp_check_tool.proofs.NoneLeft.{whole_many}
use Rattle.bgp_check_tool.proofs.orders.search_under.Goals as goal

pub returns-in-None-clause-finding : goal.returns-in-None-clause-finding
returns-in-None-clause-finding g c = λ clocked tells so.
    let viewed = c.args.viewed.now in
    let exchange = c.args.exchange.now in
    let config = c.args.config.now in
    let told = connection_is_told c.args.framings viewed.connection exchange tells clocked in
    let whole =
    subst (λ (e : Explained). IsAnswer config viewed.options.within exchange e) (c.in-All-true.is ∙ ap (λ (b : Bool). answers.All b) c.in-All-true.is_whole-test) (c.in_ok-explained_count.ensures told) in
    let none = none_is c.in_ok-recording-in-All-true.field-0 (NoneIsFoundOver config viewed.options.within c.args.framings viewed.connection) c.in-None.is c.in_ok-recording-in-All-true.ensures.none in
    whole_many viewed.session viewed.options.within c.args.framings viewed.connection config exchange tells clocked whole none

pub returns-in-All-false-clause-finding : goal.returns-in-All-false-clause-finding
returns-in-All-false-clause-finding g c = λ clocked tells.
    let viewed = c.args.viewed.now in
    let exchange = c.args.exchange.now in
    subst (λ (e : Explained). IsAnswer c.args.config.now viewed.options.within exchange e) (c.in-All-false.is ∙ ap (λ (b : Bool). answers.All b) c.in-All-false.is_whole-test)
    (c.in_ok-explained_count.ensures (connection_is_told c.args.framings viewed.connection exchange tells clocked))

pub returns-in-Only-clause-finding : goal.returns-in-Only-clause-finding
returns-in-Only-clause-finding g c = λ clocked tells.
    let viewed = c.args.viewed.now in
    let exchange = c.args.exchange.now in
    subst (λ (e : Explained). IsAnswer c.args.config.now viewed.options.within exchange e) c.in-Only.is
    (c.in_ok-explained_count.ensures (connection_is_told c.args.framings viewed.connection exchange tells clocked))

pub returns-in-TooMany-clause-finding : goal.returns-in-TooMany-clause-finding
returns-in-TooMany-clause-finding g c = λ clocked tells so.
    let viewed = c.args.viewed.now in
    let exchange = c.args.exchange.now in
    record {
      exchange = exchange;
      tells = tells;
      holds = subst (λ (e : Explained). IsAnswer c.args.config.now viewed.options.within exchange e) c.in-TooMany.is
          (c.in_ok-explained_count.ensures (connection_is_told c.args.framings viewed.connection exchange tells clocked));
    }
