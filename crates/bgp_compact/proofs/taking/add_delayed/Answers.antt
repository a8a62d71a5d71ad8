use Rattle.std.proofs.Common.{sym, subst}
use Rattle.mrt.specs.Reader.{shown_of}
use Rattle.bgp_machine.specs.declared.state.Head.{Head}
use Rattle.bgp_machine.specs.Listed.{changes_of}
use Rattle.bgp_rib.specs.Routes.{routes_after}
use Rattle.bgp_compact.specs.Steps.{AreBehind}
use Rattle.bgp_compact.proofs.Images.{gains_late, gains_no_late}
use Rattle.bgp_compact.proofs.Listing.{late_so}
use Rattle.bgp_compact.proofs.taking.add_delayed.Goals as goal

pub returns-in_default-clause-gains : goal.returns-in_default-clause-gains
returns-in_default-clause-gains g c = λ table are.
    gains_no_late c.args.config.now (shown_of c.args.shown.now) c.args.left.words table (routes_after (changes_of c.args.left.changes) table) c.args.base c.in_default.ensures

pub add_base-requires-clause-behind : goal.add_base-requires-clause-behind
add_base-requires-clause-behind g c =
    subst (λ (v : Head). AreBehind c.args.config.now v (shown_of c.args.shown.now) c.args.left.words)
    (sym (late_so c.args.config.now c.args.base.head c.in-Some.head c.requires.at_once c.in-Some.ensures).same) c.requires.behind

pub returns-clause-behind : goal.returns-clause-behind
returns-clause-behind g c =
    subst (λ (v : Head). AreBehind c.args.config.now v (shown_of c.args.shown.now) c.in_ok-next.next.words)
    (late_so c.args.config.now c.args.base.head c.in-Some.head c.requires.at_once c.in-Some.ensures).same c.in_ok-next.ensures.behind

pub returns-clause-gains : goal.returns-clause-gains
returns-clause-gains g c = λ table are.
    let late = late_so c.args.config.now c.args.base.head c.in-Some.head c.requires.at_once c.in-Some.ensures in
    gains_late c.args.config.now (shown_of c.args.shown.now) c.args.left.words c.in_ok-next.next.words table c.args.base c.in-Some.head c.args.left.changes c.in_ok-next.next.changes
    late c.in-Some.ensures c.requires.given c.in_ok-next.ensures.given
    (c.in_ok-next.ensures.gains table are (λ d held e. absurd (late.up e)))
