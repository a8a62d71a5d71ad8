use Rattle.mrt.specs.Reader.{shown_of}
use Rattle.bgp_judge.proofs.OwnChanges.{none_makes}
use Rattle.bgp_judge.proofs.opening.hidden_openings.Goals as goal

pub returns-clause-kept : goal.returns-clause-kept
returns-clause-kept g c =
    none_makes c.args.config.now c.args.head (shown_of c.args.shown.now) c.requires.own c.own_openings.new.openings.items c.own_openings.ensures

pub returns-then-is_announcement-clause-kept : goal.returns-then-is_announcement-clause-kept
returns-then-is_announcement-clause-kept g c =
    none_makes c.args.config.now c.args.head (shown_of c.args.shown.now) c.requires.own c.announced.new.openings.items c.announced.ensures
