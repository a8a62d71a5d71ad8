use Rattle.mrt.specs.Reader.{shown_of}
use Rattle.bgp_judge.proofs.Announced.{announced_lists, none_lists}
use Rattle.bgp_judge.proofs.opening.announced.Goals as goal

pub returns-in-Some : goal.returns-in-Some
returns-in-Some c =
    announced_lists c.args.config.now c.args.head c.args.t (shown_of c.args.shown.now) c.in-Some.step c.args.openings.now.items c.add_opened.new.steps.items
    c.requires.announcement c.requires.second c.requires.none c.in-Some.ensures c.add_opened.ensures.kept

pub returns-in_default : goal.returns-in_default
returns-in_default c =
    none_lists c.args.config.now c.args.head c.args.t (shown_of c.args.shown.now) c.args.openings.now.items
    c.requires.announcement c.requires.second c.requires.none c.in_default.ensures
