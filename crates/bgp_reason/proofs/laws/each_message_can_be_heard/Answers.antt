use Rattle.bgp_reason.proofs.Settling.{none_settled, some_settled}
use Rattle.bgp_reason.proofs.laws.each_message_can_be_heard.Goals as goal

pub returns-in-Some : goal.returns-in-Some
returns-in-Some g c = λ whole none. c.settle.ensures (λ settled. none (record {
  header = whole;
  heard = c.hear-heard.result;
  hears = c.hear-heard.ensures;
  settled = λ e. some_settled c.args.link c.in-Some.link c.args.octets.now c.in-Some.is settled;
}))

pub returns-in_default : goal.returns-in_default
returns-in_default g c = λ whole none. none (record {
  header = whole;
  heard = c.hear-heard.result;
  hears = c.hear-heard.ensures;
  settled = λ e. none_settled c.args.link c.args.octets.now c.in_default.is;
})
