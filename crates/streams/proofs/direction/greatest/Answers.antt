use Rattle.std.proofs.Common.{length, ◌-◌}
use Rattle.streams.proofs.Showing.{shown_at}
use Rattle.streams.proofs.direction.greatest.Goals as goal

pub returns-in-Some : goal.returns-in-Some
returns-in-Some c = λ place lt. shown_at c.args.shown.now (length c.args.shown.now - 1) place c.in-Some.last.now c.in-Some.ensures.value lt
