use Rattle.bgp_explain.proofs.Confederations.{found_before, found_last}
use Rattle.mrt.specs.Reader.{shown_of}
use Rattle.bgp_explain.proofs.capture.with_confederation.Goals as goal

pub returns-then-so_far : goal.returns-then-so_far
returns-then-so_far c = λ records before. found_before c.args.so_far records (shown_of c.args.shown.now) c.if-so_far.true before

pub returns-else-so_far : goal.returns-else-so_far
returns-else-so_far c = λ records before. found_last c.args.so_far c.shows_confederation.result records (shown_of c.args.shown.now) c.if-so_far.false before c.shows_confederation.ensures
