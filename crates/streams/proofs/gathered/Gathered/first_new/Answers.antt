use Rattle.std.proofs.Common.{◌∙◌, sym}
use Rattle.streams.specs.Given.{given_at}
use Rattle.streams.proofs.Firsts.{new_here, new_after}
use Rattle.streams.proofs.gathered.Gathered.first_new.Goals as goal

pub returns-then-not-is_given : goal.returns-then-not-is_given
returns-then-not-is_given g c =
    sym (new_here (given_at c.args.self.now) c.args.place c.loop-i.i c.args.octets.now c.loop-i-test.true c.if-not-is_given.ensures) ∙ c.loop-i.invariant

pub loop-i-preserved : goal.loop-i-preserved
loop-i-preserved g c =
    new_after (given_at c.args.self.now) c.args.place c.loop-i.i c.args.octets.now c.loop-i-test.true c.if-not-is_given.ensures ∙ c.loop-i.invariant
