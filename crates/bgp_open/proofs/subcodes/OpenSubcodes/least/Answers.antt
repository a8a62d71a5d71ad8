use Rattle.std.proofs.Common.{arith, ◌∙◌}
use Rattle.bgp_open.proofs.LeastSubcode.{first_is_least, one_more, none_at_all}
use Rattle.bgp_open.proofs.subcodes.OpenSubcodes.least.Goals as goal

pub returns-then-contains-clause-some : goal.returns-then-contains-clause-some
returns-then-contains-clause-some c =
    first_is_least c.args.self.now c.new.result c.loop-subcode.subcode c.detail_with-detail.result.now
    (c.new.ensures.code ∙ c.code-code.ensures) c.new.ensures.subcode c.new.ensures.detail c.detail_with-detail.ensures
    (c.contains.ensures.0 c.if-contains.true) c.loop-subcode.invariant

pub loop-subcode-preserved : goal.loop-subcode-preserved
loop-subcode-preserved c =
    one_more c.args.self.now c.loop-subcode.subcode c.detail_with-detail.result.now c.detail_with-detail.ensures
    (λ named. let is = c.contains.ensures.1 named in absurd (cc)) c.loop-subcode.invariant

pub returns-clause-none : goal.returns-clause-none
returns-clause-none c = none_at_all c.args.self.now c.loop-subcode.subcode (omega arith) c.loop-subcode.invariant
